-- What the values of the program stand for.
use Rattle.std.specs.Prelude.{◌≡◌, ℕ, ◌+◌, ◌<◌, ◌≤◌, true, false, List, [], ◌∷◌, ◌++◌, map, length, ℤ, Some, None, Ok, Err, vec_items, Option, Result, nat_le, slice_index, slice_index_or, unsigned_abs}
use Rattle.terms.specs.Checks.{unless, decided}
use Rattle.terms.specs.declared.refusal.Refusal.{Refusal}
use Rattle.terms.specs.declared.refusal.Refusal.TheVariants.{NetTooLarge, TooManyContracts, NotCovered}
use Rattle.banks.specs.Meanings.{Meaning}
use Rattle.deck.specs.Decks.{deck_cards}
use Rattle.margin.specs.declared.book.Open.{Open}
use Rattle.account.specs.declared.call.Call.{Call}
use Rattle.account.specs.declared.orders.Order.{Order}
use Rattle.account.specs.declared.orders.OrderState.TheVariants.{Untouched}
use Rattle.margin.specs.Book.{Book, names}
use Rattle.margin.specs.LeastCover.{margin}
use Rattle.cells.specs.Empty.{no_order}
use Rattle.account.specs.Orders.{found}
use Rattle.account.specs.Account.{State, Answer, last_of, book_net_fits, checks}
use Rattle.calls.specs.declared.accounts.Account.{Account}
use Rattle.calls.specs.States.{state_with}

-- the state of an account, by the meaning of its bank
abbrev pub state_of : {B : Type 0} → (B → Meaning) → Account B → State
state_of meaning a = state_with (meaning a.bank) (deck_cards a.deck) (vec_items a.positions) (vec_items a.orders) (vec_items a.accepted) a.next a.collateral

-- what is left of an order
abbrev pub rest_of : Order → Open
rest_of o = o.rest

-- what checks decide alone: the first that refuses says why
abbrev pub judged : List (Option Refusal) → Result (Unit {0}) Refusal
judged checks = decided checks tt

-- what a call is told, by the kind of its answer
abbrev pub told_as : (ℕ → Answer) → Result ℕ Refusal → Result Answer Refusal
told_as kind (Ok n) = Ok (kind n)
told_as kind (Err why) = Err why

-- ---- an order on trial
-- the margin of a book beside an account's bank and cards
abbrev pub margin_with : State → Book → ℕ
margin_with s book = margin (last_of s) s.bank.price s.cards book

-- an account's book with one order more
abbrev pub book_with : State → Open → Book
book_with s order = record { positions = s.positions; orders = map rest_of s.orders ++ order ∷ [] }

-- the checks of an order by the book that it would make: what its line may come to, what the line has accepted, the margin
abbrev pub trial_checks : State → Book → ℕ → ℕ → List (Option Refusal)
trial_checks s book line contracts =
    unless (book_net_fits book line) NetTooLarge
    ∷ unless (nat_le (slice_index s.accepted line + contracts) 20000) TooManyContracts
    ∷ unless (nat_le (margin_with s book) s.collateral) NotCovered
    ∷ []

-- at most 32 orders, each of an account's size
pub record SmallOrders (orders : List Open) : Type 0 where
  pub few : length orders ≤ 32
  pub lefts : (i : ℕ) → unsigned_abs (slice_index_or orders i no_order).left ≤ 10000
  pub limits : (i : ℕ) → unsigned_abs (slice_index_or orders i no_order).limit ≤ 10000000

-- what is read where there is no order
abbrev pub none_open : Order
none_open = record { number = 0; rest = no_order; state = Untouched }

-- the first order that has the number stands at place i; d is read beyond the list
pub record FirstAt (d : Order) (number : ℤ) (orders : List Order) (i : ℕ) : Type 0 where
  pub inside : i < length orders
  pub here : names number (slice_index_or orders i d).number ≡ true
  pub none_before : (k : ℕ) → k < i → names number (slice_index_or orders k d).number ≡ false

-- the place of the first order that has the number, if one has it
abbrev pub PlaceOf : ℤ → List Order → Option ℕ → Type 0
PlaceOf number orders (Some place) = FirstAt none_open number orders place
PlaceOf number orders None = found number orders ≡ None

-- the place of the order that a call meets, if no check refuses the call; else the first refusal
abbrev pub MayMeet : State → ℤ → Call → Result ℕ Refusal → Type 0
MayMeet s number call (Ok place) = FirstAt none_open number s.orders place × (judged (checks s call) ≡ Ok tt)
MayMeet s number call (Err why) = judged (checks s call) ≡ Err why
