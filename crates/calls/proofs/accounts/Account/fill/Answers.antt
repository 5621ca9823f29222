use Rattle.std.proofs.Common.{◌≡◌, ℕ, get_or, ℤ, nat_abs, Ok, Err, ap, ◌∙◌, ap₂, arith, w64, to_z, of_z}
use Rattle.std.proofs.lemmas.List.{get_or_read}
use Rattle.std.proofs.lemmas.Int.{to_z-of_z}
use Rattle.cells.specs.Empty.{no_position}
use Rattle.account.specs.declared.call.Call.TheVariants.{Fill}
use Rattle.account.specs.declared.orders.Order.{Order}
use Rattle.account.specs.declared.orders.Event.TheVariants.{Filled}
use Rattle.account.specs.Orders.{signed, left_after, order_after}
use Rattle.account.specs.Account.{StillLeft, moved, checks}
use Rattle.account.proofs.Bounded.{in_bounds_is_small}
use Rattle.calls.specs.Accounts.{state_of, none_open, MayMeet, judged}
use Rattle.calls.proofs.Kept.{bounded, kept}
use Rattle.calls.proofs.Steps.{told_refused}
use Rattle.calls.proofs.Signs.{back, handed}
use Rattle.calls.proofs.Trading.{met_at, met_bounded, moved_in, fill_meets, fill_kept, fill_told}
use Rattle.calls.proofs.accounts.Account.fill.Goals as goal

left_of_a_fill : (q q' : ℤ) (o : Order) → q ≡ q' → nat_abs (order_after (Filled q) o).rest.left ≡ nat_abs (left_after (Filled q') o.rest.left)
unfolding order_after
left_of_a_fill q q' o e = ap (λ (z : ℤ). nat_abs (left_after (Filled z) o.rest.left)) e

pub returns-in_err-place : goal.returns-in_err-place
returns-in_err-place g c =
    let s = state_of g.B.Bank.meaning c.args.self.now in
    told_refused s (Fill c.args.number c.args.quantity c.args.price) (λ n. StillLeft n) c.from_residual.result c.in_err-place.field-0.0 c.from_residual.ensures.1 (handed (λ n q p. judged (checks s (Fill n q p)) ≡ Err c.in_err-place.field-0.0) c.args.number c.args.quantity c.args.price c.ranges.number c.ranges.quantity c.ranges.price c.in_err-place.ensures)

pub index-requires-2 : goal.index-requires-2
index-requires-2 g c =
    let a = c.args.self.now in
    let s = state_of g.B.Bank.meaning a in
    let b = bounded g.B.Bank.meaning a in
    let m = fill_meets s b c.args.number c.args.quantity c.args.price c.ranges.number c.ranges.quantity c.ranges.price c.in_ok-place.place c.index.result.now c.in_ok-place.ensures c.index.ensures in
    let inside = m.has_a_position in
    omega (arith, a.positions.ok.0)

pub moved-requires-clause-net : goal.moved-requires-clause-net
moved-requires-clause-net g c =
    let a = c.args.self.now in
    let s = state_of g.B.Bank.meaning a in
    let b = bounded g.B.Bank.meaning a in
    let m = fill_meets s b c.args.number c.args.quantity c.args.price c.ranges.number c.ranges.quantity c.ranges.price c.in_ok-place.place c.index.result.now c.in_ok-place.ensures c.index.ensures in
    rw (get_or_read s.positions c.index.result.now.rest.line c.index-2.result.now m.has_a_position c.index-2.ensures no_position) (in_bounds_is_small s b c.index.result.now.rest.line m.of_a_line).net_small

pub moved-requires-clause-cost : goal.moved-requires-clause-cost
moved-requires-clause-cost g c =
    let a = c.args.self.now in
    let s = state_of g.B.Bank.meaning a in
    let b = bounded g.B.Bank.meaning a in
    let m = fill_meets s b c.args.number c.args.quantity c.args.price c.ranges.number c.ranges.quantity c.ranges.price c.in_ok-place.place c.index.result.now c.in_ok-place.ensures c.index.ensures in
    rw (get_or_read s.positions c.index.result.now.rest.line c.index-2.result.now m.has_a_position c.index-2.ensures no_position) (in_bounds_is_small s b c.index.result.now.rest.line m.of_a_line).cost_small

pub index_mut-requires : goal.index_mut-requires
index_mut-requires g c =
    let a = c.args.self.now in
    let s = state_of g.B.Bank.meaning a in
    let b = bounded g.B.Bank.meaning a in
    let m = fill_meets s b c.args.number c.args.quantity c.args.price c.ranges.number c.ranges.quantity c.ranges.price c.in_ok-place.place c.index.result.now c.in_ok-place.ensures c.index.ensures in
    let inside = m.has_a_position in
    omega (arith, a.positions.ok.0)

pub meet_at-requires-clause-small : goal.meet_at-requires-clause-small
meet_at-requires-clause-small g c =
    let s = state_of g.B.Bank.meaning c.args.self.now in
    let may = handed (λ n q p. MayMeet s n (Fill n q p) (Ok c.in_ok-place.place)) c.args.number c.args.quantity c.args.price c.ranges.number c.ranges.quantity c.ranges.price c.in_ok-place.ensures in
    (met_bounded s c.args.number c.in_ok-place.place may.0 (bounded g.B.Bank.meaning c.args.self.now)).not_much_left

pub invariant_of-self : goal.invariant_of-self
invariant_of-self g c =
    let a = c.args.self.now in
    let s = state_of g.B.Bank.meaning a in
    let b = bounded g.B.Bank.meaning a in
    let m = fill_meets s b c.args.number c.args.quantity c.args.price c.ranges.number c.ranges.quantity c.ranges.price c.in_ok-place.place c.index.result.now c.in_ok-place.ensures c.index.ensures in
    let line = ap (λ (o : Order). o.rest.line) m.is in
    let left = ap (λ (o : Order). o.rest.left) m.is in
    let contracts : to_z w64 (of_z w64 c.with_sign_of-contracts.result) ≡ signed (get_or s.orders c.in_ok-place.place none_open).rest.left c.args.quantity = back c.with_sign_of-contracts.result (omega (arith, c.with_sign_of-contracts.ensures.sized)) ∙ c.with_sign_of-contracts.ensures.value ∙ ap₂ signed (back c.index.result.now.rest.left (rw left (omega (arith, m.order.not_much_left))) ∙ left) (to_z-of_z w64 c.args.quantity c.ranges.quantity) in
    let before = get_or_read s.positions c.index.result.now.rest.line c.index-2.result.now m.has_a_position c.index-2.ensures no_position ∙ ap (λ (l : ℕ). get_or s.positions l no_position) line in
    let positions = moved_in s.positions c.index.result.now.rest.line _ c.moved.result c.index-2.result.now _ _ c.args.price line (c.moved.ensures ∙ ap (moved c.index-2.result.now _) (to_z-of_z w64 c.args.price c.ranges.price)) before contracts in
    let orders = c.meet_at.ensures.items ∙ ap (λ (q : ℤ). met_at c.in_ok-place.place (Filled q) s.orders) (to_z-of_z w64 c.args.quantity c.ranges.quantity) in
    record { room = omega (arith, a.room, c.meet_at.ensures.capacity); bounds = kept _ (fill_kept s c.args.number c.in_ok-place.place m.first c.args.quantity c.args.price m.passes _ _ positions orders b) }

pub returns : goal.returns
returns g c =
    let a = c.args.self.now in
    let s = state_of g.B.Bank.meaning a in
    let b = bounded g.B.Bank.meaning a in
    let m = fill_meets s b c.args.number c.args.quantity c.args.price c.ranges.number c.ranges.quantity c.ranges.price c.in_ok-place.place c.index.result.now c.in_ok-place.ensures c.index.ensures in
    let line = ap (λ (o : Order). o.rest.line) m.is in
    let left = ap (λ (o : Order). o.rest.left) m.is in
    let contracts : to_z w64 (of_z w64 c.with_sign_of-contracts.result) ≡ signed (get_or s.orders c.in_ok-place.place none_open).rest.left c.args.quantity = back c.with_sign_of-contracts.result (omega (arith, c.with_sign_of-contracts.ensures.sized)) ∙ c.with_sign_of-contracts.ensures.value ∙ ap₂ signed (back c.index.result.now.rest.left (rw left (omega (arith, m.order.not_much_left))) ∙ left) (to_z-of_z w64 c.args.quantity c.ranges.quantity) in
    let before = get_or_read s.positions c.index.result.now.rest.line c.index-2.result.now m.has_a_position c.index-2.ensures no_position ∙ ap (λ (l : ℕ). get_or s.positions l no_position) line in
    let positions = moved_in s.positions c.index.result.now.rest.line _ c.moved.result c.index-2.result.now _ _ c.args.price line (c.moved.ensures ∙ ap (moved c.index-2.result.now _) (to_z-of_z w64 c.args.price c.ranges.price)) before contracts in
    let orders = c.meet_at.ensures.items ∙ ap (λ (q : ℤ). met_at c.in_ok-place.place (Filled q) s.orders) (to_z-of_z w64 c.args.quantity c.ranges.quantity) in
    fill_told s c.args.number c.in_ok-place.place m.first c.args.quantity c.args.price m.passes _ _ positions orders c.meet_at.result (c.meet_at.ensures.left ∙ left_of_a_fill _ c.args.quantity (get_or s.orders c.in_ok-place.place none_open) (to_z-of_z w64 c.args.quantity c.ranges.quantity))
