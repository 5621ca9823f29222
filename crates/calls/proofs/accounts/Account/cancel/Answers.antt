use Rattle.std.proofs.Common.{◌≡◌, ℤ, nat_abs, Ok, Err, ap, ◌∙◌, subst, arith, w64}
use Rattle.std.proofs.lemmas.List.{get_or_read}
use Rattle.std.proofs.lemmas.Int.{to_z-of_z}
use Rattle.account.specs.declared.call.Call.TheVariants.{Cancel}
use Rattle.account.specs.declared.orders.Order.{Order}
use Rattle.account.specs.Account.{Ended, checks}
use Rattle.calls.specs.Accounts.{state_of, none_open, MayMeet, judged}
use Rattle.calls.proofs.Kept.{bounded, kept}
use Rattle.calls.proofs.Steps.{told_refused}
use Rattle.calls.proofs.Signs.{back}
use Rattle.calls.proofs.Trading.{met_bounded, cancel_kept, cancel_told}
use Rattle.calls.proofs.accounts.Account.cancel.Goals as goal

pub returns-in_err-place : goal.returns-in_err-place
returns-in_err-place g c =
    let s = state_of g.B.Bank.meaning c.args.self.now in
    told_refused s (Cancel c.args.number) (λ n. Ended n) c.from_residual.result c.in_err-place.field-0.0 c.from_residual.ensures.1 (subst (λ (n : ℤ). judged (checks s (Cancel n)) ≡ Err c.in_err-place.field-0.0) (to_z-of_z w64 c.args.number c.ranges.number) c.in_err-place.ensures)

pub meet_at-requires-clause-small : goal.meet_at-requires-clause-small
meet_at-requires-clause-small g c =
    let s = state_of g.B.Bank.meaning c.args.self.now in
    let may = subst (λ (n : ℤ). MayMeet s n (Cancel n) (Ok c.in_ok-place.place)) (to_z-of_z w64 c.args.number c.ranges.number) c.in_ok-place.ensures in
    (met_bounded s c.args.number c.in_ok-place.place may.0 (bounded g.B.Bank.meaning c.args.self.now)).not_much_left

pub invariant_of-self : goal.invariant_of-self
invariant_of-self g c =
    let a = c.args.self.now in
    let s = state_of g.B.Bank.meaning a in
    let may = subst (λ (n : ℤ). MayMeet s n (Cancel n) (Ok c.in_ok-place.place)) (to_z-of_z w64 c.args.number c.ranges.number) c.in_ok-place.ensures in
    record { room = omega (arith, a.room, c.meet_at.ensures.capacity); bounds = kept _ (cancel_kept s c.args.number c.in_ok-place.place may.0 _ c.meet_at.ensures.items (bounded g.B.Bank.meaning a)) }

pub returns : goal.returns
returns g c =
    let a = c.args.self.now in
    let s = state_of g.B.Bank.meaning a in
    let b = bounded g.B.Bank.meaning a in
    let may = subst (λ (n : ℤ). MayMeet s n (Cancel n) (Ok c.in_ok-place.place)) (to_z-of_z w64 c.args.number c.ranges.number) c.in_ok-place.ensures in
    let read = get_or_read s.orders c.in_ok-place.place c.index.result.now may.0.inside c.index.ensures none_open in
    let left = ap (λ (o : Order). o.rest.left) read in
    let small = (met_bounded s c.args.number c.in_ok-place.place may.0 b).not_much_left in
    cancel_told s c.args.number c.in_ok-place.place may.0 _ c.unsigned_abs-ended.result c.meet_at.ensures.items (c.unsigned_abs-ended.ensures.value ∙ ap nat_abs (back c.index.result.now.rest.left (rw left (omega arith)) ∙ left)) may.1
