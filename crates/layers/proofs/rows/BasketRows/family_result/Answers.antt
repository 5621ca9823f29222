use Rattle.std.proofs.Common.{◌≡◌, ℕ, ◌*◌, ◌^◌, ◌≤◌, length, get_or, pos, nat_abs, sym, refl, ap, ◌∙◌, arith, lit≤, w64, SFits, to_z, rules}
use mir.Syntax.{w128}
use Rattle.std.proofs.lemmas.Int.{ints, to_z-of_z}
use Rattle.margin.specs.Book.{in_family}
use Rattle.margin.specs.Sums.{total}
use Rattle.layers.specs.Scenes.{cards_of, cells_of, basket_part}
use Rattle.layers.proofs.Sizes.{taken_in, passed_over}
use Rattle.layers.proofs.Windows.{family_adds_up}
use Rattle.layers.proofs.rows.BasketRows.family_result.Goals as goal
use Rattle.layers.proofs.rows.BasketRows.family_result.Goals.{then-names, else-names}

pub loop-b-init : goal.loop-b-init
unfolding total
loop-b-init c = record { value = refl; size = lit≤ tt }

pub overflow_add-sum : goal.overflow_add-sum
overflow_add-sum c =
    let held : nat_abs (to_z w128 c.loop-b.sum-bits) ≤ c.loop-b.b * 2 ^ 76 = c.loop-b.invariant.size in
    let few = c.args.self.now.fitted.fits.few_baskets in
    omega (arith, ints, c.basket_part-sum.ensures.size)

pub loop-b-preserved : goal.loop-b-preserved
unfolding in_family
loop-b-preserved c =
    let s = c.args.self.now.fitted.scene in
    let fits : SFits w64 (get_or s.baskets.now c.loop-b.b (record { family = pos 0; rule = pos 0 })).family = search rules in
    let tested : c.names.result ≡ in_family (cards_of s) c.args.f c.loop-b.b = simp to_z-of_z at c.names.ensures in
    let held : nat_abs (to_z w128 c.loop-b.sum-bits) ≤ c.loop-b.b * 2 ^ 76 = c.loop-b.invariant.size in
    let few = c.args.self.now.fitted.fits.few_baskets in
    elim c.if-names.branch [
      | then-names w ↦
          let small : nat_abs w.basket_part-sum.result ≤ 2 ^ 76 = w.basket_part-sum.ensures.size in
          record {
            value = w.sum-is ∙ taken_in c.loop-b.b (in_family (cards_of s) c.args.f) (λ b. basket_part s c.args.f c.args.p b) _ c.loop-b.invariant.value w.basket_part-sum.result (sym w.if-names.true ∙ tested) w.basket_part-sum.ensures.value (omega arith) (omega arith);
            size = rw w.sum-is (omega (arith, ints));
          }
      | else-names w ↦ record {
        value = w.sum-is ∙ passed_over c.loop-b.b (in_family (cards_of s) c.args.f) (λ b. basket_part s c.args.f c.args.p b) _ c.loop-b.invariant.value (sym w.if-names.false ∙ tested);
        size = rw w.sum-is (omega arith);
      }
    ]

pub returns : goal.returns
returns c =
    let s = c.args.self.now.fitted.scene in
    let all : c.loop-b.b ≡ length s.baskets.now = omega arith in
    let few = c.args.self.now.fitted.fits.few_baskets in
    record {
      value = c.loop-b.invariant.value ∙ ap (λ (n : ℕ). total n (in_family (cards_of s) c.args.f) (λ b. basket_part s c.args.f c.args.p b)) all ∙ family_adds_up s.last (cards_of s) (cells_of s) c.args.f c.args.p;
      size = omega (arith, c.loop-b.invariant.size);
    }
