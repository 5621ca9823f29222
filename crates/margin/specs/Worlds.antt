-- Worlds: what may come about in one session, choice by choice, and what a book loses in each. Nothing here speaks of a least result.
use Rattle.std.specs.Prelude.{◌≡◌, ℕ, ◌+◌, ◌<◌, ◌≤◌, Bool, true, false, ◌⊎◌, List, length, ℤ, pos, ◌+ℤ◌, neg_ℤ, Some, None, Option, nat_le, slice_index_or}
use Rattle.margin.specs.declared.choice.Kept.{Kept}
use Rattle.margin.specs.declared.choice.Counted.{Counted}
use Rattle.margin.specs.declared.choice.World as listed
use Rattle.margin.specs.Sums.{total}
use Rattle.margin.specs.Book.{Cards, Book, netted_family, netted_basket, window_of, in_family, in_basket, over_baskets, over_months}
use Rattle.margin.specs.Cells.{month_cell}

-- the choices of a world, by number; None is left out
pub record World : Type 0 where
  -- the point that each family is set at
  pub families : ℕ → Option ℕ
  pub baskets : ℕ → Option ℕ
  -- the columns of each month
  pub months : ℕ → Option Kept
  -- the cells in which each open order is counted
  pub orders : ℕ → Counted

-- a world whose choices stand in lists; nothing is taken beyond their ends
abbrev pub world_of : List (Option ℕ) → List (Option ℕ) → List (Option Kept) → (ℕ → Counted) → World
world_of families baskets months orders = record { families = λ f. slice_index_or families f None; baskets = λ b. slice_index_or baskets b None; months = λ m. slice_index_or months m None; orders = orders }

-- an order that is counted in no cell
abbrev pub nowhere : Counted
nowhere = record { volatility = false; rate = false; twist = false }

-- the same of a world as plain values: beyond the list's end no order is counted
abbrev pub listed_world : listed.World → World
listed_world w = world_of w.families w.baskets w.months (λ i. slice_index_or w.orders i nowhere)

-- ---- which choices make a world
-- the points of the grid that lie within w points of p
pub record Near (last w p q : ℕ) : Type 0 where
  pub below : q ≤ p + w
  pub beyond : p ≤ q + w
  pub on_grid : q ≤ last

-- at most one of the two columns that begin at the first
abbrev pub AtMostOne : ℕ → Option ℕ → Type 0
AtMostOne first None = Unit {0}
AtMostOne first (Some k) = (k ≡ first) ⊎ (k ≡ first + 1)

pub record Curves (kept : Kept) : Type 0 where
  pub one_rate : AtMostOne 3 kept.rate
  pub one_twist : AtMostOne 5 kept.twist

-- a half basket's month is left out, or has a volatility column of its own
abbrev pub HalfMonth : Option Kept → Type 0
HalfMonth None = Unit {0}
HalfMonth (Some kept) = (kept.volatility ≤ 2) × Curves kept

-- a netted basket's month is kept at the basket's volatility column
abbrev pub NettedMonth : ℕ → Option Kept → Type 0
NettedMonth k None = ⊥
NettedMonth k (Some kept) = (kept.volatility ≡ k) × Curves kept

module _ (last : ℕ) (cards : Cards) (w : World) where
  -- what holds of each basket of a family, and of each month of a basket
  abbrev pub EachBasket : ℕ → (ℕ → Type 0) → Type 0
  EachBasket f P = (b : ℕ) → b < length cards.baskets → in_family cards f b ≡ true → P b

  abbrev pub EachMonth : ℕ → (ℕ → Type 0) → Type 0
  EachMonth b P = (m : ℕ) → m < length cards.months → in_basket cards b m ≡ true → P m

  -- a netted basket has one volatility column for all its months
  abbrev pub Months : ℕ → Bool → Type 0
  Months b true = (k : ℕ) × (k ≤ 2) × EachMonth b (λ m. NettedMonth k (w.months m))
  Months b false = EachMonth b (λ m. HalfMonth (w.months m))

  -- a netted family's basket lies within the family's window; a half family's is left out or at the family's point
  abbrev pub BasketAt : ℕ → ℕ → ℕ → Bool → Option ℕ → Type 0
  BasketAt f p b true None = ⊥
  BasketAt f p b true (Some q) = Near last (window_of cards f) p q × Months b (netted_basket cards b)
  BasketAt f p b false None = Unit {0}
  BasketAt f p b false (Some q) = (q ≡ p) × Months b (netted_basket cards b)

  abbrev pub FamilyAt : ℕ → Option ℕ → Type 0
  FamilyAt f None = Unit {0}
  FamilyAt f (Some p) = (p ≤ last) × EachBasket f (λ b. BasketAt f p b (netted_family cards f) (w.baskets b))

  abbrev pub IsWorld : Type 0
  IsWorld = (f : ℕ) → f < length cards.families → FamilyAt f (w.families f)

-- ---- the cells that a world takes, for any cells
abbrev pub column_taken : (ℕ → ℤ) → Option ℕ → ℤ
column_taken cell None = pos 0
column_taken cell (Some k) = cell k

abbrev pub month_taken : (ℕ → ℕ → ℕ → ℤ) → ℕ → ℕ → Option Kept → ℤ
month_taken cells m p None = pos 0
month_taken cells m p (Some kept) = cells m p kept.volatility +ℤ (column_taken (cells m p) kept.rate +ℤ column_taken (cells m p) kept.twist)

module _ (cards : Cards) (cells : ℕ → ℕ → ℕ → ℤ) (w : World) where
  abbrev pub basket_taken : ℕ → Option ℕ → ℤ
  basket_taken b None = pos 0
  basket_taken b (Some p) = over_months cards b (λ m. month_taken cells m p (w.months m))

  abbrev pub family_taken : ℕ → Option ℕ → ℤ
  family_taken f None = pos 0
  family_taken f (Some p) = over_baskets cards f (λ b. basket_taken b (w.baskets b))

  -- the sum of the cells taken
  unfoldable pub taken : ℤ
  taken = total (length cards.families) (λ f. true) (λ f. family_taken f (w.families f))

-- ---- a book's loss in a world
-- whether an order is counted in a cell of this column
unfoldable pub counted_in : Counted → ℕ → Bool
counted_in c column = elim (nat_le column 2) [ true ↦ c.volatility | false ↦ elim (nat_le column 4) [ true ↦ c.rate | false ↦ c.twist ] ]

module _ (last : ℕ) (price : ℕ → ℕ → ℕ → ℤ) (cards : Cards) (book : Book) (w : World) where
  -- a month's cell with the orders that this world counts in it, charges taken off
  unfoldable pub world_cells : ℕ → ℕ → ℕ → ℤ
  world_cells m point column = month_cell last price cards book (λ i result. elim (counted_in (w.orders i) column) [ true ↦ result | false ↦ pos 0 ]) m point column

  -- minus the sum of the cells taken
  unfoldable pub loss : ℤ
  loss = neg_ℤ (taken cards world_cells w)
