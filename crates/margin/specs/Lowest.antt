-- How the world handed out chooses, in words that know no search: at each place the lowest point or column among those that are least, nothing taken that may be left out and is not below 0, and an order counted in a cell exactly if it loses there.
use Rattle.std.specs.Prelude.{◌≡◌, ℕ, ◌+◌, ◌<◌, ◌≤◌, Bool, true, false, ◌⊎◌, length, ℤ, pos, ◌≤ℤ◌, ◌<ℤ◌, Some, None, Option}
use Rattle.margin.specs.declared.choice.Kept.{Kept}
use Rattle.margin.specs.Book.{Cards, Book, order, netted_family, netted_basket, window_of, in_month, over_months}
use Rattle.margin.specs.Cells.{cells}
use Rattle.margin.specs.Layers.{window_start, window_end, month_result, basket_result, family_result}
use Rattle.margin.specs.Worlds.{World, EachBasket, EachMonth, counted_in}
use Rattle.margin.specs.HandedOut.{order_loses, handed_out}

-- the lowest place, from one to another, at which a row is least
pub record Lowest (row : ℕ → ℤ) (first end place : ℕ) : Type 0 where
  pub from : first ≤ place
  pub to : place ≤ end
  pub none_less : (i : ℕ) → first ≤ i → i ≤ end → row place ≤ℤ row i
  pub none_before : (i : ℕ) → first ≤ i → i < place → row place <ℤ row i

-- of two columns, none where neither is below 0
abbrev pub ColumnChosen : (ℕ → ℤ) → ℕ → Option ℕ → Type 0
ColumnChosen cell first None = (pos 0 ≤ℤ cell first) × (pos 0 ≤ℤ cell (first + 1))
ColumnChosen cell first (Some k) = (cell k <ℤ pos 0) × Lowest cell first (first + 1) k

-- the columns that a month keeps
abbrev pub Keeps : Kept → ℕ → Type 0
Keeps kept k = (k ≡ kept.volatility) ⊎ ((kept.rate ≡ Some k) ⊎ (kept.twist ≡ Some k))

module _ (last : ℕ) (price : ℕ → ℕ → ℕ → ℤ) (cards : Cards) (book : Book) (w : World) where
  abbrev pub cell : ℕ → ℕ → ℕ → ℤ
  cell = cells last price cards book

  -- a kept month's other columns, and its orders in each of its columns
  pub record RestChosen (m p : ℕ) (kept : Kept) : Type 0 where
    pub rate : ColumnChosen (cell m p) 3 kept.rate
    pub twist : ColumnChosen (cell m p) 5 kept.twist
    pub orders : (i : ℕ) → in_month cards m (order book i).line ≡ true → (k : ℕ) → Keeps kept k → counted_in (w.orders i) k ≡ order_loses price (order book i) p k

  -- a netted basket's month has the lowest column of which the months' sum is least
  abbrev pub MonthChosen : ℕ → ℕ → ℕ → Bool → Option Kept → Type 0
  MonthChosen b p m true None = ⊥
  MonthChosen b p m true (Some kept) = Lowest (λ k. over_months cards b (λ n. cell n p k)) 0 2 kept.volatility × RestChosen m p kept
  MonthChosen b p m false None = pos 0 ≤ℤ month_result cell m p
  MonthChosen b p m false (Some kept) = (month_result cell m p <ℤ pos 0) × Lowest (cell m p) 0 2 kept.volatility × RestChosen m p kept

  abbrev pub MonthsChosen : ℕ → ℕ → Type 0
  MonthsChosen b p = EachMonth last cards w b (λ m. MonthChosen b p m (netted_basket cards b) (w.months m))

  -- a netted family's basket stands at the lowest point of the window at which it is least
  abbrev pub BasketChosen : ℕ → ℕ → ℕ → Bool → Option ℕ → Type 0
  BasketChosen f p b true None = ⊥
  BasketChosen f p b true (Some q) = Lowest (basket_result cards cell b) (window_start (window_of cards f) p) (window_end last (window_of cards f) p) q × MonthsChosen b q
  BasketChosen f p b false None = pos 0 ≤ℤ basket_result cards cell b p
  BasketChosen f p b false (Some q) = (q ≡ p) × (basket_result cards cell b p <ℤ pos 0) × MonthsChosen b q

  abbrev pub FamilyChosen : ℕ → Option ℕ → Type 0
  FamilyChosen f None = (q : ℕ) → q ≤ last → pos 0 ≤ℤ family_result last cards cell f q
  FamilyChosen f (Some p) = (family_result last cards cell f p <ℤ pos 0) × Lowest (family_result last cards cell f) 0 last p × EachBasket last cards w f (λ b. BasketChosen f p b (netted_family cards f) (w.baskets b))

  abbrev pub LowestChosen : Type 0
  LowestChosen = (f : ℕ) → f < length cards.families → FamilyChosen f (w.families f)

-- for every grid, prices, cards and book
abbrev pub HandedOutIsLowest : Type 0
HandedOutIsLowest = (last : ℕ) (price : ℕ → ℕ → ℕ → ℤ) (cards : Cards) (book : Book) → LowestChosen last price cards book (handed_out last price cards book)

-- ---- no other world chooses so
-- what is to be seen below a choice that takes something
abbrev pub WhereTaken : {A : Type 0} → Option A → (A → Type 0) → Type 0
WhereTaken None P = Unit {0}
WhereTaken (Some a) P = P a

-- two worlds take the same: below what is left out they may differ, since nothing is taken there
module _ (last : ℕ) (cards : Cards) (book : Book) (w v : World) where
  abbrev pub SameOrders : ℕ → Kept → Type 0
  SameOrders m kept = (i : ℕ) → in_month cards m (order book i).line ≡ true → (k : ℕ) → Keeps kept k → counted_in (w.orders i) k ≡ counted_in (v.orders i) k

  abbrev pub SameMonths : ℕ → Type 0
  SameMonths b = EachMonth last cards w b (λ m. (w.months m ≡ v.months m) × WhereTaken (w.months m) (SameOrders m))

  abbrev pub SameBaskets : ℕ → Type 0
  SameBaskets f = EachBasket last cards w f (λ b. (w.baskets b ≡ v.baskets b) × WhereTaken (w.baskets b) (λ q. SameMonths b))

  abbrev pub TakesTheSame : Type 0
  TakesTheSame = (f : ℕ) → f < length cards.families → (w.families f ≡ v.families f) × WhereTaken (w.families f) (λ p. SameBaskets f)

abbrev pub NoOtherIsLowest : Type 0
NoOtherIsLowest = (last : ℕ) (price : ℕ → ℕ → ℕ → ℤ) (cards : Cards) (book : Book) (w v : World) → LowestChosen last price cards book w → LowestChosen last price cards book v → TakesTheSame last cards book w v
