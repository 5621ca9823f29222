-- What happens to an order, and to the list of open orders.
use Rattle.std.specs.Prelude.{ℕ, ◌≤◌, Bool, true, false, List, [], ◌∷◌, ℤ, pos, ◌-ℤ◌, neg_ℤ, Some, None, Option, ◌==◌, int_le, unsigned_abs}
use Rattle.margin.specs.Book.{names}
use Rattle.account.specs.declared.orders.Order.{Order}
use Rattle.account.specs.declared.orders.OrderState.{OrderState}
use Rattle.account.specs.declared.orders.OrderState.TheVariants.{Untouched, PartlyFilled, Gone}
use Rattle.account.specs.declared.orders.Event.{Event}
use Rattle.account.specs.declared.orders.Event.TheVariants.{Filled, Cancelled}

-- so many contracts with the sign of an order: a buy adds and a sell takes off
unfoldable pub signed : ℤ → ℤ → ℤ
signed left size = elim (int_le (pos 0) left) [ true ↦ size | false ↦ neg_ℤ size ]

-- ---- one order
-- a fill of no more contracts than an order may have
abbrev pub SmallEvent : Event → Type 0
SmallEvent (Filled size) = unsigned_abs size ≤ 10000
SmallEvent Cancelled = Unit {0}

-- what is left after an event
unfoldable pub left_after : Event → ℤ → ℤ
left_after (Filled size) left = left -ℤ signed left size
left_after Cancelled left = pos 0

-- an order of which something is left is partly filled by a fill, and one of which nothing is left is gone
unfoldable pub fill_state : ℕ → OrderState
fill_state size = elim (size == 0) [ true ↦ Gone | false ↦ PartlyFilled ]

-- the state after an event that leaves so much; a gone order stays gone
unfoldable pub state_after : OrderState → Event → ℕ → OrderState
state_after Untouched (Filled size) left = fill_state left
state_after Untouched Cancelled left = Gone
state_after PartlyFilled (Filled size) left = fill_state left
state_after PartlyFilled Cancelled left = Gone
state_after Gone (Filled size) left = Gone
state_after Gone Cancelled left = Gone

unfoldable pub order_after : Event → Order → Order
order_after event o =
    let left = left_after event o.rest.left in
    record { number = o.number; rest = record { line = o.rest.line; left = left; limit = o.rest.limit }; state = state_after o.state event (unsigned_abs left) }

unfoldable pub is_gone : OrderState → Bool
is_gone Untouched = false
is_gone PartlyFilled = false
is_gone Gone = true

-- ---- the open orders, in the order of their numbers
-- the open order that has a number
unfoldable pub found : ℤ → List Order → Option Order
found number [] = None
found number (o ∷ os) = elim (names number o.number) [ true ↦ Some o | false ↦ found number os ]

-- an order in front of others, unless it is gone
unfoldable pub kept : Order → List Order → List Order
kept o os = elim (is_gone o.state) [ true ↦ os | false ↦ o ∷ os ]

-- the open orders after an event that meets the order of a number
unfoldable pub orders_after : ℤ → Event → List Order → List Order
orders_after number event [] = []
orders_after number event (o ∷ os) = elim (names number o.number) [ true ↦ kept (order_after event o) os | false ↦ o ∷ orders_after number event os ]
