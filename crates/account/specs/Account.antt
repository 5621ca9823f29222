-- The account: its state, the calls, what refuses each, and what each does and answers. All of it follows from what the account began with and from the calls since.
use Rattle.std.specs.Prelude.{ℕ, zero, suc, ◌+◌, ◌-◌, ◌*◌, Bool, true, false, ◌&&◌, List, [], ◌∷◌, ◌++◌, map, length, ℤ, pos, ◌+ℤ◌, ◌-ℤ◌, ◌*ℤ◌, Some, None, Ok, Err, Option, Result, int_le, nat_le, nat_lt, slice_index, slice_set, unsigned_abs}
use Rattle.terms.specs.Cards.{within}
use Rattle.terms.specs.Halves.{half_size}
use Rattle.terms.specs.declared.refusal.Refusal.{Refusal}
use Rattle.terms.specs.declared.refusal.Refusal.TheVariants.{NoSuchLine, BadQuantity, BadPrice, BadAmount, OrdersFull, NetTooLarge, TooManyContracts, NotCovered, NoSuchOrder, MoreThanLeft, WorseThanLimit, CollateralTooLarge}
use Rattle.banks.specs.Meanings.{Meaning}
use Rattle.terms.specs.Checks.{unless, decided}
use Rattle.margin.specs.declared.book.Position.{Position}
use Rattle.margin.specs.declared.book.Open.{Open}
use Rattle.margin.specs.Book.{Cards, Book, named, position}
use Rattle.margin.specs.Cells.{cells, buys, sells}
use Rattle.margin.specs.Layers.{family_loss, family_worst, costliest}
use Rattle.margin.specs.Worlds.{World}
use Rattle.margin.specs.HandedOut.{handed_out}
use Rattle.margin.specs.LeastCover.{margin}
use Rattle.deck.specs.Judgements.{name_fits}
use Rattle.account.specs.declared.orders.Order.{Order}
use Rattle.account.specs.declared.orders.OrderState.TheVariants.{Untouched}
use Rattle.account.specs.declared.orders.Event.TheVariants.{Filled, Cancelled}
use Rattle.account.specs.declared.call.Call.{Call}
use Rattle.account.specs.declared.call.Call.TheVariants.{Place, Cancel, Fill, Deposit, Withdraw, Margin}
use Rattle.account.specs.Orders.{signed, left_after, found, orders_after}

pub record State : Type 0 where
  -- what the account began with
  pub bank : Meaning
  pub cards : Cards
  -- the position of each line
  pub positions : List Position
  -- the open orders, in the order of their numbers
  pub orders : List Order
  -- the contracts accepted on each line since the account began
  pub accepted : List ℕ
  -- the number that the next order will have
  pub next : ℕ
  -- in kopecks
  pub collateral : ℕ

-- ---- what margin and worlds read
abbrev pub book_of : State → Book
book_of s = record { positions = s.positions; orders = map (λ (o : Order). o.rest) s.orders }

-- the last point of the bank's grid
abbrev pub last_of : State → ℕ
last_of s = 2 * half_size s.bank.half

abbrev pub cells_of : State → ℕ → ℕ → ℕ → ℤ
cells_of s = cells (last_of s) s.bank.price s.cards (book_of s)

abbrev pub margin_of : State → ℕ
margin_of s = margin (last_of s) s.bank.price s.cards (book_of s)

-- ---- answers
-- what each number below n gives, in their order
unfoldable pub each : {X : Type 0} → ℕ → (ℕ → X) → List X
each zero f = []
each (suc n) f = each n f ++ f n ∷ []

-- what margin answers
pub record Requirement : Type 0 where
  -- in kopecks
  pub amount : ℕ
  -- of each family its loss, in grains, and the first point of its worst
  pub families : List (ℕ × ℕ)
  pub costliest : ℕ
  pub world : World

pub data Answer : Type 0 where
  -- the number of the order that was placed
  Numbered : ℕ → Answer
  -- the size still left of the order that was filled
  StillLeft : ℕ → Answer
  -- the size that a cancel ended
  Ended : ℕ → Answer
  -- the new collateral
  Collateral : ℕ → Answer
  Required : Requirement → Answer

abbrev pub requirement : State → Requirement
requirement s = record {
  amount = margin_of s;
  families = each (length s.cards.families) (λ f. (family_loss (last_of s) s.cards (cells_of s) f, (family_worst (last_of s) s.cards (cells_of s) f).1));
  costliest = costliest (last_of s) s.cards (cells_of s);
  world = handed_out (last_of s) s.bank.price s.cards (book_of s);
}

-- ---- what calls change
abbrev pub with_collateral : State → ℕ → State
with_collateral s amount = record { bank = s.bank; cards = s.cards; positions = s.positions; orders = s.orders; accepted = s.accepted; next = s.next; collateral = amount }

abbrev pub with_trades : State → List Position → List Order → State
with_trades s positions orders = record { bank = s.bank; cards = s.cards; positions = positions; orders = orders; accepted = s.accepted; next = s.next; collateral = s.collateral }

-- a new order takes the next number and goes to the end of the list
abbrev pub new_order : State → ℤ → ℤ → ℤ → Order
new_order s line quantity limit = record { number = s.next; rest = record { line = named line; left = quantity; limit = limit }; state = Untouched }

abbrev pub placed : State → ℤ → ℤ → ℤ → State
placed s line quantity limit = record {
  bank = s.bank;
  cards = s.cards;
  positions = s.positions;
  orders = s.orders ++ new_order s line quantity limit ∷ [];
  accepted = slice_set s.accepted (named line) (slice_index s.accepted (named line) + unsigned_abs quantity);
  next = suc s.next;
  collateral = s.collateral;
}

-- a position after contracts, those bought positive and those sold negative, at a price in kopecks
abbrev pub moved : Position → ℤ → ℤ → Position
moved p contracts price = record { net = p.net +ℤ contracts; cost = p.cost +ℤ pos 80000 *ℤ contracts *ℤ price }

abbrev pub filled : State → ℤ → ℤ → ℤ → Order → State
filled s number quantity price o =
    let l = o.rest.line in
    with_trades s (slice_set s.positions l (moved (position (book_of s) l) (signed o.rest.left quantity) price)) (orders_after number (Filled quantity) s.orders)

abbrev pub cancelled : State → ℤ → State
cancelled s number = with_trades s s.positions (orders_after number Cancelled s.orders)

-- ---- what refuses calls, in the order of the checks
abbrev pub quantity_fits : ℤ → Bool
quantity_fits quantity = within (pos 1) (pos 10000) quantity

abbrev pub price_fits : ℤ → Bool
price_fits price = within (pos 0) (pos 10000000) price

abbrev pub most_collateral : ℕ
most_collateral = 100000000000000

abbrev pub amount_fits : ℤ → Bool
amount_fits amount = within (pos 0) (pos most_collateral) amount

-- the margin does not exceed the collateral
abbrev pub covered : State → Bool
covered s = nat_le (margin_of s) s.collateral

-- neither what a line may come to hold, nor what it may come to be short of, is above 10,000 contracts
abbrev pub net_fits : State → ℕ → Bool
net_fits s l = int_le ((position (book_of s) l).net +ℤ buys (book_of s) l) (pos 10000) && int_le (sells (book_of s) l -ℤ (position (book_of s) l).net) (pos 10000)

abbrev pub place_checks : State → ℤ → ℤ → ℤ → List (Option Refusal)
place_checks s line quantity limit =
    let after = placed s line quantity limit in
    unless (name_fits (length s.cards.lines) line) NoSuchLine
    ∷ unless (quantity_fits (pos (unsigned_abs quantity))) BadQuantity
    ∷ unless (price_fits limit) BadPrice
    ∷ unless (nat_lt (length s.orders) 32) OrdersFull
    ∷ unless (net_fits after (named line)) NetTooLarge
    ∷ unless (nat_le (slice_index after.accepted (named line)) 20000) TooManyContracts
    ∷ unless (covered after) NotCovered
    ∷ []

-- the same of a book: neither what a line may come to hold, nor what it may come to be short of, is above 10,000 contracts
abbrev pub book_net_fits : Book → ℕ → Bool
book_net_fits book l = int_le ((position book l).net +ℤ buys book l) (pos 10000) && int_le (sells book l -ℤ (position book l).net) (pos 10000)

-- what refuses an order before its margin is looked at
abbrev pub bound_checks : State → ℤ → ℤ → ℤ → List (Option Refusal)
bound_checks s line quantity limit =
    let after = placed s line quantity limit in
    unless (name_fits (length s.cards.lines) line) NoSuchLine
    ∷ unless (quantity_fits (pos (unsigned_abs quantity))) BadQuantity
    ∷ unless (price_fits limit) BadPrice
    ∷ unless (nat_lt (length s.orders) 32) OrdersFull
    ∷ unless (book_net_fits (book_of after) (named line)) NetTooLarge
    ∷ unless (nat_le (slice_index after.accepted (named line)) 20000) TooManyContracts
    ∷ []

-- a buy is filled at no more than its limit, a sell at no less
unfoldable pub no_worse : Open → ℤ → Bool
no_worse o price = elim (int_le (pos 0) o.left) [ true ↦ int_le price o.limit | false ↦ int_le o.limit price ]

-- the checks of an order, if one has the number
abbrev pub order_checks : Option Order → (Order → List (Option Refusal)) → List (Option Refusal)
order_checks None checks = Some NoSuchOrder ∷ []
order_checks (Some o) checks = checks o

abbrev pub fill_checks : ℤ → ℤ → Option Order → List (Option Refusal)
fill_checks quantity price o =
    unless (quantity_fits quantity) BadQuantity
    ∷ unless (price_fits price) BadPrice
    ∷ order_checks o (λ o. unless (int_le quantity (pos (unsigned_abs o.rest.left))) MoreThanLeft ∷ unless (no_worse o.rest price) WorseThanLimit ∷ [])

abbrev pub checks : State → Call → List (Option Refusal)
checks s (Place line quantity limit) = place_checks s line quantity limit
checks s (Cancel number) = order_checks (found number s.orders) (λ o. [])
checks s (Fill number quantity price) = fill_checks quantity price (found number s.orders)
checks s (Deposit amount) = unless (amount_fits amount) BadAmount ∷ unless (nat_le (s.collateral + unsigned_abs amount) most_collateral) CollateralTooLarge ∷ []
checks s (Withdraw amount) = unless (amount_fits amount) BadAmount ∷ unless (nat_le (margin_of s + unsigned_abs amount) s.collateral) NotCovered ∷ []
checks s Margin = []

-- ---- the state after a call that is accepted, and its answer
abbrev pub on_order : {X : Type 0} → Option Order → X → (Order → X) → X
on_order None none some = none
on_order (Some o) none some = some o

abbrev pub effect : State → Call → State × Answer
effect s (Place line quantity limit) = (placed s line quantity limit, Numbered s.next)
effect s (Cancel number) = (cancelled s number, on_order (found number s.orders) (Ended 0) (λ o. Ended (unsigned_abs o.rest.left)))
effect s (Fill number quantity price) = on_order (found number s.orders) (s, StillLeft 0) (λ o. (filled s number quantity price o, StillLeft (unsigned_abs (left_after (Filled quantity) o.rest.left))))
effect s (Deposit amount) = (with_collateral s (s.collateral + unsigned_abs amount), Collateral (s.collateral + unsigned_abs amount))
effect s (Withdraw amount) = (with_collateral s (s.collateral - unsigned_abs amount), Collateral (s.collateral - unsigned_abs amount))
effect s Margin = (s, Required (requirement s))

-- ---- runs
-- a refused call changes nothing
abbrev pub settled : State → Result (State × Answer) Refusal → State × Result Answer Refusal
settled s (Ok (after, answer)) = (after, Ok answer)
settled s (Err why) = (s, Err why)

-- the state after a call, and the answer or the refusal
unfoldable pub step : State → Call → State × Result Answer Refusal
step s call = settled s (decided (checks s call) (effect s call))

-- the state after a list of calls
unfoldable pub run : State → List Call → State
run s [] = s
run s (call ∷ calls) = run (step s call).0 calls

-- and what each of them was told
unfoldable pub answers : State → List Call → List (Result Answer Refusal)
answers s [] = []
answers s (call ∷ calls) = (step s call).1 ∷ answers (step s call).0 calls
