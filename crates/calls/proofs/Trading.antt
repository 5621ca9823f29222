-- Fills and cancels, from the order at a place to the step of a call.
use Rattle.std.proofs.Common.{◌≡◌, ℕ, suc, ◌<◌, ◌≤◌, Bool, true, List, [], ◌∷◌, ◌++◌, length, get_or, take, drop, set, ℤ, pos, nat_abs, Some, None, Ok, Err, Option, Result, sym, refl, ap, ◌∙◌, subst, ap₂, arith, w64, SFits, to_z, of_z}
use Rattle.terms.specs.Checks.{unless}
use Rattle.terms.specs.declared.refusal.Refusal.{Refusal}
use Rattle.terms.specs.declared.refusal.Refusal.TheVariants.{BadQuantity, BadPrice, NoSuchOrder}
use Rattle.margin.specs.declared.book.Position.{Position}
use Rattle.margin.specs.Book.{position}
use Rattle.account.specs.declared.call.Call.TheVariants.{Cancel, Fill}
use Rattle.account.specs.declared.orders.Order.{Order}
use Rattle.account.specs.declared.orders.Event.{Event}
use Rattle.account.specs.declared.orders.Event.TheVariants.{Filled, Cancelled}
use Rattle.account.specs.Orders.{signed, left_after, order_after, kept, found, orders_after}
use Rattle.std.specs.Option.{ok_or}
use Rattle.std.proofs.lemmas.List.{get_or_read}
use Rattle.std.proofs.lemmas.Int.{ints}
use Rattle.std.proofs.lemmas.Bool.{and_parts}
use Rattle.margin.proofs.SumLaws.{at_most, ≤ℤ-trans}
use Rattle.cells.specs.Empty.{no_position}
use Rattle.account.proofs.Checked.{passed}
use Rattle.account.proofs.Lines.{in_size}
use Rattle.calls.proofs.Placing.{price_fits_lem}
use Rattle.account.specs.Account.{State, Answer, quantity_fits, Ended, StillLeft, book_of, moved, with_trades, filled, cancelled, order_checks, on_order, fill_checks, checks, step}
use Rattle.account.specs.Bounds.{InBounds, OrderInBounds}
use Rattle.account.specs.Runs.{NoneRefuses}
use Rattle.account.proofs.Bounded.{found_has, cancel_bounded, fill_bounded}
use Rattle.calls.specs.Accounts.{FirstAt, PlaceOf, MayMeet, none_open, judged}
use Rattle.calls.proofs.Places.{found_at, after_at}
use Rattle.calls.proofs.Signs.{handed}
use Rattle.calls.proofs.Steps.{none_refuses, accepted}

-- ---- checks
pub two_pass : (a b : Bool) (x y : Refusal) (rest : List (Option Refusal)) → a ≡ true → b ≡ true → judged (unless a x ∷ unless b y ∷ rest) ≡ judged rest
two_pass a b x y rest e f = rw (e, f) refl

pub no_order_lem : (o : Option Order) (rest : Order → List (Option Refusal)) → o ≡ None → judged (order_checks o rest) ≡ Err NoSuchOrder
no_order_lem o rest e = ap (λ (o : Option Order). judged (order_checks o rest)) e

pub this_order : (o : Option Order) (x : Order) (rest : Order → List (Option Refusal)) → o ≡ Some x → judged (order_checks o rest) ≡ judged (rest x)
this_order o x rest e = ap (λ (o : Option Order). judged (order_checks o rest)) e

-- the place that a search finds, of a number as it is handed on, in a list as it is lent
pub place_in : (number handed : ℤ) (orders lent : List Order) (r : Option ℕ) → handed ≡ number → lent ≡ orders → PlaceOf handed lent r → PlaceOf number orders r
place_in number handed orders lent r e f h = subst (λ (os : List Order). PlaceOf number os r) f (subst (λ (n : ℤ). PlaceOf n lent r) e h)

-- where the search finds none, the order's checks refuse
pub none_met : (number : ℤ) (orders : List Order) (r : Option ℕ) (rest : Order → List (Option Refusal)) (why : Refusal) → PlaceOf number orders r → Err why ≡ ok_or r NoSuchOrder → judged (order_checks (found number orders) rest) ≡ Err why
none_met number orders None rest why h e = let same : NoSuchOrder ≡ why = cc in no_order_lem (found number orders) rest h ∙ ap Err same
none_met number orders (Some place) rest why h e = absurd (let z : ◌≡◌ {A = ℕ} 0 1 = cc in omega arith)

pub one_met : (number : ℤ) (orders : List Order) (r : Option ℕ) (place : ℕ) → PlaceOf number orders r → Ok place ≡ ok_or r NoSuchOrder → FirstAt none_open number orders place
one_met number orders None place h e = absurd (let z : ◌≡◌ {A = ℕ} 0 1 = cc in omega arith)
one_met number orders (Some at) place h e = let same : at ≡ place = cc in subst (FirstAt none_open number orders) same h

-- the sizes of a fill that is let pass
pub fill_small : (s : State) (number quantity price : ℤ) → judged (checks s (Fill number quantity price)) ≡ Ok tt → (nat_abs quantity ≤ 10000) × (nat_abs price ≤ 10000000)
fill_small s number quantity price none =
    let h = none_refuses (checks s (Fill number quantity price)) none in
    let parts = and_parts _ _ (passed (quantity_fits quantity) BadQuantity h.0) in
    (in_size quantity 10000 (≤ℤ-trans (pos 0) (pos 1) quantity (omega (arith, ints)) (at_most (pos 1) quantity parts.0)) (at_most quantity (pos 10000) parts.1), price_fits_lem price (passed _ BadPrice h.1.0))

-- a position that was moved at its place
pub moved_in : (positions : List Position) (line line' : ℕ) (after before : Position) (contracts contracts' price : ℤ) → line ≡ line' → after ≡ moved before contracts price → before ≡ get_or positions line' no_position → contracts ≡ contracts' → set positions line after ≡ set positions line' (moved (get_or positions line' no_position) contracts' price)
moved_in positions line line' after before contracts contracts' price e f g h = ap₂ (set positions) e (f ∙ ap₂ (λ (p : Position) (m : ℤ). moved p m price) g h)

-- ---- effects
-- the orders after an event that meets the order at a place
abbrev pub met_at : ℕ → Event → List Order → List Order
met_at place event orders = take place orders ++ kept (order_after event (get_or orders place none_open)) (drop (suc place) orders)

module _ (s : State) (number : ℤ) (place : ℕ) (first : FirstAt none_open number s.orders place) where
  abbrev met : Order
  met = get_or s.orders place none_open

  pub met_found : found number s.orders ≡ Some met
  met_found = found_at none_open number s.orders place first

  pub met_bounded : InBounds s → OrderInBounds (length s.cards.lines) s.next met
  met_bounded b = found_has (OrderInBounds (length s.cards.lines) s.next) number s.orders met met_found b.each_order

  met_after : (event : Event) (orders : List Order) → orders ≡ met_at place event s.orders → orders ≡ orders_after number event s.orders
  met_after event orders e = e ∙ sym (after_at none_open number event s.orders place first)

  pub cancel_kept : (orders : List Order) → orders ≡ met_at place Cancelled s.orders → InBounds s → InBounds (with_trades s s.positions orders)
  cancel_kept orders e b = subst (λ (os : List Order). InBounds (with_trades s s.positions os)) (sym (met_after Cancelled orders e)) (cancel_bounded s b number (Some met) met_found tt)

  pub cancel_told : (orders : List Order) (ended : ℕ) → orders ≡ met_at place Cancelled s.orders → ended ≡ nat_abs met.rest.left → judged (checks s (Cancel number)) ≡ Ok tt → (with_trades s s.positions orders, Ok (Ended ended)) ≡ step s (Cancel number)
  cancel_told orders ended e f none =
      ap₂ (λ (os : List Order) (n : ℕ). (with_trades s s.positions os, Ok (Ended n))) (met_after Cancelled orders e) f
      ∙ ap (λ (o : Option Order). (cancelled s number, Ok (on_order o (Ended 0) (λ o. Ended (nat_abs o.rest.left))))) (sym met_found)
      ∙ sym (accepted s (Cancel number) none)

  module _ (quantity price : ℤ) (none : judged (checks s (Fill number quantity price)) ≡ Ok tt) (positions : List Position) (orders : List Order) (e : positions ≡ set s.positions met.rest.line (moved (position (book_of s) met.rest.line) (signed met.rest.left quantity) price)) (f : orders ≡ met_at place (Filled quantity) s.orders) where
    fill_state_lem : with_trades s positions orders ≡ filled s number quantity price met
    fill_state_lem = ap₂ (λ (ps : List Position) (os : List Order). with_trades s ps os) e (met_after (Filled quantity) orders f)

    pub fill_kept : InBounds s → InBounds (with_trades s positions orders)
    fill_kept b = subst InBounds (sym fill_state_lem) (fill_bounded s b number quantity price (Some met) met_found (subst (λ (o : Option Order). NoneRefuses (fill_checks quantity price o)) met_found (none_refuses (checks s (Fill number quantity price)) none)))

    pub fill_told : (left : ℕ) → left ≡ nat_abs (left_after (Filled quantity) met.rest.left) → (with_trades s positions orders, Ok (StillLeft left)) ≡ step s (Fill number quantity price)
    fill_told left g =
        ap₂ (λ (t : State) (n : ℕ). (t, Ok (StillLeft n))) fill_state_lem g
        ∙ ap (λ (o : Option Order). answered (on_order {X = State × Answer} o (s, StillLeft 0) (λ o. (filled s number quantity price o, StillLeft (nat_abs (left_after (Filled quantity) o.rest.left)))))) (sym met_found)
        ∙ sym (accepted s (Fill number quantity price) none)
      where
        answered : State × Answer → State × Result Answer Refusal
        answered r = (r.0, Ok r.1)

-- what a cancel meets
pub cancel_meets : (s : State) (number : ℤ) (r : Option ℕ) → PlaceOf number s.orders r → MayMeet s number (Cancel number) (ok_or r NoSuchOrder)
cancel_meets s number None h = no_order_lem (found number s.orders) (λ o. []) h
cancel_meets s number (Some place) h = (h, this_order (found number s.orders) (met s number place h) (λ o. []) (met_found s number place h))

-- what a fill meets: the order at its place, which is in bounds, and a position
pub record FillMeets (s : State) (number quantity price : ℤ) (place : ℕ) (o : Order) : Type 0 where
  pub first : FirstAt none_open number s.orders place
  pub passes : judged (checks s (Fill number quantity price)) ≡ Ok tt
  pub order : OrderInBounds (length s.cards.lines) s.next (get_or s.orders place none_open)
  pub is : o ≡ get_or s.orders place none_open
  pub of_a_line : o.rest.line < length s.cards.lines
  pub has_a_position : o.rest.line < length s.positions

pub fill_meets : (s : State) → InBounds s → (number quantity price : ℤ) → SFits w64 number → SFits w64 quantity → SFits w64 price → (place : ℕ) (o : Order) → MayMeet s (to_z w64 (of_z w64 number)) (Fill (to_z w64 (of_z w64 number)) (to_z w64 (of_z w64 quantity)) (to_z w64 (of_z w64 price))) (Ok place) → o ≡ get_or s.orders place o → FillMeets s number quantity price place o
fill_meets s b number quantity price f g h place o given read =
    let may = handed (λ n q p. MayMeet s n (Fill n q p) (Ok place)) number quantity price f g h given in
    let order = met_bounded s number place may.0 b in
    let is = get_or_read s.orders place o may.0.inside read none_open in
    let line = ap (λ (o : Order). o.rest.line) is in
    record { first = may.0; passes = may.1; order = order; is = is; of_a_line = rw line order.of_a_line; has_a_position = rw (line, b.a_position_a_line) order.of_a_line }
