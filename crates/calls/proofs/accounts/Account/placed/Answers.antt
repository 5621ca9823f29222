use Rattle.std.proofs.Common.{◌+◌, get_or, pos, nat_abs, vec_items, sym, refl, ap, ◌∙◌, subst, arith}
use Rattle.std.proofs.lemmas.List.{get_or_default}
use Rattle.account.specs.Account.{bound_checks}
use Rattle.account.specs.Bounds.{InBounds}
use Rattle.account.proofs.Bounded.{place_bounded}
use Rattle.calls.specs.Accounts.{state_of}
use Rattle.calls.proofs.Steps.{none_refuses}
use Rattle.calls.proofs.Kept.{bounded, kept}
use Rattle.calls.proofs.Placing.{line_inside, few_contracts, next_small, placed_is}
use Rattle.calls.proofs.Signs.{back}
use Rattle.calls.proofs.accounts.Account.placed.Goals as goal

pub index_mut-requires : goal.index_mut-requires
index_mut-requires g c =
    let a = c.args.self.now in
    let o = c.args.order in
    let s = state_of g.B.Bank.meaning a in
    let b = bounded g.B.Bank.meaning a in
    let inside = line_inside s b o.line o.left o.limit (none_refuses (bound_checks s (pos o.line) o.left o.limit) c.requires) in
    omega (arith, b.a_count_a_line, a.accepted.ok.0)

pub overflow_add-index_mut : goal.overflow_add-index_mut
overflow_add-index_mut g c =
    let a = c.args.self.now in
    let o = c.args.order in
    let s = state_of g.B.Bank.meaning a in
    let b = bounded g.B.Bank.meaning a in
    let h = none_refuses (bound_checks s (pos o.line) o.left o.limit) c.requires in
    let inside = line_inside s b o.line o.left o.limit h in
    let few = (b.each_line o.line inside).few_accepted in
    let read = c.index_mut.ensures.value ∙ get_or_default (vec_items a.accepted) o.line _ 0 (omega (arith, b.a_count_a_line)) in
    let contracts = few_contracts s b o.line o.left o.limit h in
    let size = c.unsigned_abs.ensures.value ∙ ap nat_abs (back o.left (omega arith)) in
    omega arith

pub overflow_add-self : goal.overflow_add-self
overflow_add-self g c =
    let a = c.args.self.now in
    let few = next_small (state_of g.B.Bank.meaning a) (bounded g.B.Bank.meaning a) (omega (arith, a.deck.few_lines, a.deck.lines.ok.0)) in
    omega arith

pub invariant_of-self : goal.invariant_of-self
invariant_of-self g c =
    let a = c.args.self.now in
    let o = c.args.order in
    let s = state_of g.B.Bank.meaning a in
    let b = bounded g.B.Bank.meaning a in
    let h = none_refuses (bound_checks s (pos o.line) o.left o.limit) c.requires in
    let inside = line_inside s b o.line o.left o.limit h in
    let contracts = few_contracts s b o.line o.left o.limit h in
    let count = ap (λ n. n + c.unsigned_abs.result) (c.index_mut.ensures.value ∙ get_or_default (vec_items a.accepted) o.line _ 0 (omega (arith, b.a_count_a_line))) ∙ ap (λ n. get_or s.accepted o.line 0 + n) (c.unsigned_abs.ensures.value ∙ ap nat_abs (back o.left (omega arith))) in
    let same = placed_is s o.line o.left o.limit _ _ _ c.push_reserved.ensures.items count refl in
    record { room = omega (arith, a.room, c.push_reserved.ensures.capacity); bounds = kept _ (subst InBounds (sym same) (place_bounded s b (pos o.line) o.left o.limit h)) }

pub returns : goal.returns
returns g c =
    let a = c.args.self.now in
    let o = c.args.order in
    let s = state_of g.B.Bank.meaning a in
    let b = bounded g.B.Bank.meaning a in
    let h = none_refuses (bound_checks s (pos o.line) o.left o.limit) c.requires in
    let inside = line_inside s b o.line o.left o.limit h in
    let contracts = few_contracts s b o.line o.left o.limit h in
    let count = ap (λ n. n + c.unsigned_abs.result) (c.index_mut.ensures.value ∙ get_or_default (vec_items a.accepted) o.line _ 0 (omega (arith, b.a_count_a_line))) ∙ ap (λ n. get_or s.accepted o.line 0 + n) (c.unsigned_abs.ensures.value ∙ ap nat_abs (back o.left (omega arith))) in
    record { state = placed_is s o.line o.left o.limit _ _ _ c.push_reserved.ensures.items count refl; number = refl }
