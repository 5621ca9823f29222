-- Sums over the open orders of a line, and what an event does to them.
use Rattle.std.proofs.Common.{◌≡◌, ℕ, zero, suc, Bool, true, false, eqb, List, [], ◌∷◌, ◌++◌, map, length, ℤ, pos, ◌+ℤ◌, Some, refl, ap, ◌∙◌, arith}
use Rattle.std.proofs.lemmas.Int.{ints}
use Rattle.margin.specs.declared.book.Position.{Position}
use Rattle.margin.specs.declared.book.Open.{Open}
use Rattle.margin.specs.Sums.{total}
use Rattle.margin.specs.Book.{names, order, of_line, over_orders}
use Rattle.account.specs.declared.orders.Order.{Order}
use Rattle.account.specs.declared.orders.Event.{Event}
use Rattle.account.specs.Orders.{order_after, is_gone, found, kept, orders_after}

-- what an order adds to a sum over the orders of a line
unfoldable pub of_one : ℕ → (Open → ℤ) → Open → ℤ
of_one l part o = elim (eqb o.line l) [ true ↦ part o | false ↦ pos 0 ]

unfoldable pub sum_of : (Open → ℤ) → List Order → ℤ
sum_of part [] = pos 0
sum_of part (o ∷ os) = part o.rest +ℤ sum_of part os

-- a sum's first part
total_first : (n : ℕ) (test : ℕ → Bool) (part : ℕ → ℤ) → total (suc n) test part ≡ elim (test 0) [ true ↦ part 0 | false ↦ pos 0 ] +ℤ total n (λ i. test (suc i)) (λ i. part (suc i))
unfolding total
total_first zero test part = omega (arith, ints)
total_first (suc n) test part = let first = total_first n test part in omega (arith, ints)

pub over_orders_lem : (positions : List Position) (orders : List Order) (l : ℕ) (part : Open → ℤ) → over_orders (record { positions = positions; orders = map (λ (o : Order). o.rest) orders }) l (λ i. part (order (record { positions = positions; orders = map (λ (o : Order). o.rest) orders }) i)) ≡ sum_of (of_one l part) orders
unfolding total sum_of of_one of_line
over_orders_lem positions [] l part = refl
over_orders_lem positions (o ∷ os) l part = total_first (length (map (λ (o : Order). o.rest) os)) _ _ ∙ ap (λ (z : ℤ). of_one l part o.rest +ℤ z) (over_orders_lem positions os l part)

-- one order more at the end
pub sum_more : (part : Open → ℤ) (orders : List Order) (o : Order) → sum_of part (orders ++ o ∷ []) ≡ sum_of part orders +ℤ part o.rest
unfolding sum_of
sum_more part [] o = omega (arith, ints)
sum_more part (first ∷ os) o = let more = sum_more part os o in omega (arith, ints)

-- what is left of an order's part after an event: a gone order adds nothing
unfoldable pub part_after : (Open → ℤ) → Event → Order → ℤ
part_after part event o = elim (is_gone (order_after event o).state) [ true ↦ pos 0 | false ↦ part (order_after event o).rest ]

pub sum_after : (part : Open → ℤ) (number : ℤ) (event : Event) (orders : List Order) (o : Order) → found number orders ≡ Some o → sum_of part (orders_after number event orders) +ℤ part o.rest ≡ sum_of part orders +ℤ part_after part event o
unfolding found orders_after sum_of kept part_after
sum_after part number event [] o e = absurd (let z : ◌≡◌ {A = ℕ} 0 1 = cc in omega arith)
sum_after part number event (first ∷ os) o e = by (λ f. sum_after part number event os o f) (names number first.number) e
  where
    by_kept : (gone : Bool) → sum_of part (elim gone [ true ↦ os | false ↦ order_after event o ∷ os ]) +ℤ part o.rest ≡ (part o.rest +ℤ sum_of part os) +ℤ elim gone [ true ↦ pos 0 | false ↦ part (order_after event o).rest ]
    by_kept true = omega (arith, ints)
    by_kept false = omega (arith, ints)

    by : (found number os ≡ Some o → sum_of part (orders_after number event os) +ℤ part o.rest ≡ sum_of part os +ℤ part_after part event o) → (this : Bool) → (elim this [ true ↦ Some first | false ↦ found number os ]) ≡ Some o → sum_of part (elim this [ true ↦ kept (order_after event first) os | false ↦ first ∷ orders_after number event os ]) +ℤ part o.rest ≡ sum_of part (first ∷ os) +ℤ part_after part event o
    by later true f = let same : first ≡ o = cc in rw same (by_kept (is_gone (order_after event o).state))
    by later false f = let known = later f in omega (arith, ints)
