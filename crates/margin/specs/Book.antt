-- What a margin is worked out from: the cards, which say how contracts net, and the book of positions and open orders.
use Rattle.std.specs.Prelude.{ℕ, Bool, false, List, length, ℤ, pos, negsuc, ◌==◌, nat_lt, slice_index_or}
use Rattle.terms.specs.declared.cards.Family.{Family}
use Rattle.terms.specs.declared.cards.Basket.{Basket}
use Rattle.terms.specs.declared.cards.Month.{Month}
use Rattle.terms.specs.declared.cards.Line.{Line}
use Rattle.margin.specs.declared.book.Position.{Position}
use Rattle.margin.specs.declared.book.Open.{Open}
use Rattle.margin.specs.Sums.{total}

-- families, baskets, months and lines are numbered from 0 in the order of their lists
pub record Cards : Type 0 where
  pub families : List Family
  pub baskets : List Basket
  pub months : List Month
  pub lines : List Line
  -- how many of the lines, from the first, are futures; the rest are options
  pub futures : ℕ

pub record Book : Type 0 where
  -- one position a line
  pub positions : List Position
  pub orders : List Open

-- whether a card names the number i
unfoldable pub names : ℤ → ℕ → Bool
names (pos n) i = n == i
names (negsuc n) i = false

-- the number that a card names
unfoldable pub named : ℤ → ℕ
named (pos n) = n
named (negsuc n) = 0

module _ (cards : Cards) where
  abbrev pub family : ℕ → Family
  family f = slice_index_or cards.families f (record { rule = pos 0; window = pos 0 })

  abbrev pub basket : ℕ → Basket
  basket b = slice_index_or cards.baskets b (record { family = pos 0; rule = pos 0 })

  abbrev pub month : ℕ → Month
  month m = slice_index_or cards.months m (record { basket = pos 0 })

  abbrev pub line : ℕ → Line
  line l = slice_index_or cards.lines l (record { month = pos 0; price = pos 0; spot = pos 0; change = pos 0; rates = record { r1 = pos 0; r2 = pos 0; r3 = pos 0 }; limits = record { a = pos 0; b = pos 0 } })

  -- the rule is 1 netted, 0 half
  unfoldable pub netted_family : ℕ → Bool
  netted_family f = names (family f).rule 1

  unfoldable pub netted_basket : ℕ → Bool
  netted_basket b = names (basket b).rule 1

  -- how many points a basket of the family may lie from the family's point
  unfoldable pub window_of : ℕ → ℕ
  window_of f = named (family f).window

  unfoldable pub in_family : ℕ → ℕ → Bool
  in_family f b = names (basket b).family f

  unfoldable pub in_basket : ℕ → ℕ → Bool
  in_basket b m = names (month m).basket b

  unfoldable pub in_month : ℕ → ℕ → Bool
  in_month m l = names (line l).month m

  unfoldable pub is_future : ℕ → Bool
  is_future l = nat_lt l cards.futures

  -- sums over the baskets of a family, the months of a basket and the lines of a month
  abbrev pub over_baskets : ℕ → (ℕ → ℤ) → ℤ
  over_baskets f part = total (length cards.baskets) (in_family f) part

  abbrev pub over_months : ℕ → (ℕ → ℤ) → ℤ
  over_months b part = total (length cards.months) (in_basket b) part

  abbrev pub over_lines : ℕ → (ℕ → ℤ) → ℤ
  over_lines m part = total (length cards.lines) (in_month m) part

module _ (book : Book) where
  abbrev pub position : ℕ → Position
  position l = slice_index_or book.positions l (record { net = pos 0; cost = pos 0 })

  abbrev pub order : ℕ → Open
  order i = slice_index_or book.orders i (record { line = 0; left = pos 0; limit = pos 0 })

  unfoldable pub of_line : ℕ → ℕ → Bool
  of_line l i = (order i).line == l

  -- a sum over the open orders of a line
  abbrev pub over_orders : ℕ → (ℕ → ℤ) → ℤ
  over_orders l part = total (length book.orders) (of_line l) part
