use Rattle.std.proofs.Common.{◌≡◌, ℕ, ◌*◌, ◌^◌, ◌≤◌, length, get_or, pos, nat_abs, sym, refl, ap, ◌∙◌, arith, lit≤, w64, SFits, to_z, rules}
use mir.Syntax.{w128}
use Rattle.std.proofs.lemmas.Int.{ints, to_z-of_z}
use Rattle.margin.specs.Book.{in_basket}
use Rattle.margin.specs.Sums.{total}
use Rattle.layers.specs.Scenes.{cards_of}
use Rattle.layers.proofs.Sizes.{taken_in, passed_over}
use Rattle.layers.proofs.fitted.Fitted.sum_over.Goals as goal
use Rattle.layers.proofs.fitted.Fitted.sum_over.Goals.{then-names, else-names}

pub loop-m-init : goal.loop-m-init
unfolding total
loop-m-init g c = record { value = λ row says. refl; size = lit≤ tt }

pub overflow_add-sum : goal.overflow_add-sum
overflow_add-sum g c =
    let small : nat_abs c.gives-sum.result ≤ 2 ^ 72 = c.requires.small c.loop-m.m c.gives-sum.result c.gives-sum.ensures in
    let held : nat_abs (to_z w128 c.loop-m.sum-bits) ≤ c.loop-m.m * 2 ^ 72 = c.loop-m.invariant.size in
    let few = c.args.self.now.fits.few_months in
    omega (arith, ints)

pub loop-m-preserved : goal.loop-m-preserved
unfolding in_basket
loop-m-preserved g c =
    let s = c.args.self.now.scene in
    let fits : SFits w64 (get_or s.months.now c.loop-m.m (record { basket = pos 0 })).basket = search rules in
    let tested : c.names.result ≡ in_basket (cards_of s) c.args.b c.loop-m.m = simp to_z-of_z at c.names.ensures in
    let held : nat_abs (to_z w128 c.loop-m.sum-bits) ≤ c.loop-m.m * 2 ^ 72 = c.loop-m.invariant.size in
    let few = c.args.self.now.fits.few_months in
    elim c.if-names.branch [
      | then-names w ↦
          let small : nat_abs w.gives-sum.result ≤ 2 ^ 72 = c.requires.small c.loop-m.m w.gives-sum.result w.gives-sum.ensures in
          record {
            value = λ row says. w.sum-is ∙ taken_in c.loop-m.m (in_basket (cards_of s) c.args.b) row _ (c.loop-m.invariant.value row says) w.gives-sum.result (sym w.if-names.true ∙ tested) (says _ _ w.gives-sum.ensures) (omega arith) (omega arith);
            size = rw w.sum-is (omega (arith, ints));
          }
      | else-names w ↦ record {
        value = λ row says. w.sum-is ∙ passed_over c.loop-m.m (in_basket (cards_of s) c.args.b) row _ (c.loop-m.invariant.value row says) (sym w.if-names.false ∙ tested);
        size = rw w.sum-is (omega arith);
      }
    ]

pub returns : goal.returns
returns g c =
    let s = c.args.self.now.scene in
    let all : c.loop-m.m ≡ length s.months.now = omega arith in
    let few = c.args.self.now.fits.few_months in
    record {
      value = λ row says. c.loop-m.invariant.value row says ∙ ap (λ (n : ℕ). total n (in_basket (cards_of s) c.args.b) row) all;
      size = omega (arith, c.loop-m.invariant.size);
    }
