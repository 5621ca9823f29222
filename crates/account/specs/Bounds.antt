-- How large an account's numbers may become, in every state that it comes to from its begin.
use Rattle.std.specs.Prelude.{◌≡◌, ℕ, suc, ◌+◌, ◌*◌, ◌<◌, ◌≤◌, List, [], ◌∷◌, length, ℤ, pos, ◌+ℤ◌, ◌-ℤ◌, ◌*ℤ◌, ◌≤ℤ◌, Ok, slice_index, slice_index_or, unsigned_abs}
use Rattle.std.specs.List.{AllByRecursion}
use Rattle.terms.specs.declared.cards.Held.{Held}
use Rattle.banks.specs.Meanings.{Meaning}
use Rattle.margin.specs.Book.{Cards, position}
use Rattle.margin.specs.Cells.{buys, sells}
use Rattle.account.specs.declared.orders.Order.{Order}
use Rattle.account.specs.declared.call.Call.{Call}
use Rattle.account.specs.Account.{State, book_of, most_collateral, run}
use Rattle.account.specs.Begin.{begin}

-- what the dearest contract costs, in grains: 80,000 grains a kopeck, at a price of 10,000,000 kopecks
abbrev pub dearest : ℕ
dearest = 800000000000

-- an open order is of one of the lines; something of it is left
pub record OrderInBounds (lines next : ℕ) (o : Order) : Type 0 where
  pub of_a_line : o.rest.line < lines
  pub numbered_from_1 : 1 ≤ o.number
  pub numbered_before : o.number < next
  pub something_left : 1 ≤ unsigned_abs o.rest.left
  pub not_much_left : unsigned_abs o.rest.left ≤ 10000
  pub limit_low : pos 0 ≤ℤ o.rest.limit
  pub limit_high : o.rest.limit ≤ℤ pos 10000000

-- each order's number is lower than the numbers of those after it
abbrev pub Ascending : List Order → Type 0
Ascending [] = Unit {0}
Ascending (o ∷ os) = AllByRecursion (λ later. o.number < later.number) os × Ascending os

pub record LineInBounds (s : State) (l : ℕ) : Type 0 where
  -- what the line may come to hold, and to be short of
  pub may_hold : ((position (book_of s) l).net +ℤ buys (book_of s) l) ≤ℤ pos 10000
  pub may_be_short : (sells (book_of s) l -ℤ (position (book_of s) l).net) ≤ℤ pos 10000
  pub few_accepted : slice_index_or s.accepted l 0 ≤ 20000
  -- the cost, with all that is open bought or sold at the dearest, is no more than all that was ever held or accepted at the dearest
  pub cost_bounded : (pos (unsigned_abs (position (book_of s) l).cost) +ℤ pos dearest *ℤ (buys (book_of s) l +ℤ sells (book_of s) l)) ≤ℤ pos (dearest * (10000 + slice_index s.accepted l))

unfoldable pub summed : List ℕ → ℕ
summed [] = 0
summed (x ∷ xs) = x + summed xs

pub record InBounds (s : State) : Type 0 where
  pub a_position_a_line : length s.positions ≡ length s.cards.lines
  pub a_count_a_line : length s.accepted ≡ length s.cards.lines
  pub few_orders : length s.orders ≤ 32
  pub each_order : AllByRecursion (OrderInBounds (length s.cards.lines) s.next) s.orders
  pub numbers_ascend : Ascending s.orders
  pub each_line : (l : ℕ) → l < length s.cards.lines → LineInBounds s l
  pub next_from_1 : 1 ≤ s.next
  -- no more numbers are given than contracts are accepted
  pub few_numbers : s.next ≤ suc (summed s.accepted)
  pub collateral_bounded : s.collateral ≤ most_collateral

abbrev pub BoundedAfterAnyCalls : Type 0
BoundedAfterAnyCalls = (bank : Meaning) (cards : Cards) (held : List Held) (collateral : ℤ) (begun : State) → begin bank cards held collateral ≡ Ok begun → (calls : List Call) → InBounds (run begun calls)

-- ---- what follows for each line of an account in bounds
pub record LineIsSmall (s : State) (l : ℕ) : Type 0 where
  pub net_small : unsigned_abs (position (book_of s) l).net ≤ 10000
  -- 30,000 contracts at the dearest
  pub cost_small : unsigned_abs (position (book_of s) l).cost ≤ 24000000000000000
  pub buys_low : pos 0 ≤ℤ buys (book_of s) l
  pub buys_small : buys (book_of s) l ≤ℤ pos 20000
  pub sells_low : pos 0 ≤ℤ sells (book_of s) l
  pub sells_small : sells (book_of s) l ≤ℤ pos 20000

abbrev pub InBoundsIsSmall : Type 0
InBoundsIsSmall = (s : State) → InBounds s → (l : ℕ) → l < length s.cards.lines → LineIsSmall s l
