-- The world that is handed out with a margin: the lowest point and column among equals, nothing taken that may be left out and is not below 0, and an order counted in a cell exactly if it loses there.
use Rattle.std.specs.Prelude.{ℕ, zero, suc, ◌+◌, Bool, true, false, length, ℤ, pos, Some, None, Option, int_lt, nat_lt}
use Rattle.margin.specs.declared.choice.Kept.{Kept}
use Rattle.margin.specs.declared.choice.Counted.{Counted}
use Rattle.margin.specs.declared.book.Open.{Open}
use Rattle.margin.specs.Book.{Cards, Book, named, basket, month, line, order, netted_family, netted_basket, window_of}
use Rattle.margin.specs.Cells.{order_result, cells}
use Rattle.margin.specs.Layers.{volatility_result, rate_result, twist_result, month_result, netted_column, basket_result, worst_within, family_worst}
use Rattle.margin.specs.Worlds.{World, nowhere}

-- what may be left out is taken only where its result is below 0
unfoldable pub take_if_below0 : {A : Type 0} → ℤ → A → Option A
take_if_below0 result a = elim (int_lt result (pos 0)) [ true ↦ Some a | false ↦ None ]

-- a choice for each number below n, and none beyond
unfoldable pub up_to : {A : Type 0} → ℕ → (ℕ → Option A) → ℕ → Option A
up_to n choice i = elim (nat_lt i n) [ true ↦ choice i | false ↦ None ]

-- the column at a place of a rate or twist result: place 0 is no column
unfoldable pub column_at : ℕ → ℕ → Option ℕ
column_at first zero = None
column_at first (suc n) = Some (first + n)

-- ---- the choices, for any cells
module _ (cells : ℕ → ℕ → ℕ → ℤ) where
  unfoldable pub kept_with : ℕ → ℕ → ℕ → Kept
  kept_with k m p = record { volatility = k; rate = column_at 3 (rate_result cells m p).1; twist = column_at 5 (twist_result cells m p).1 }

module _ (last : ℕ) (cards : Cards) (cells : ℕ → ℕ → ℕ → ℤ) where
  -- of a month in a basket at a point
  unfoldable pub month_in : ℕ → ℕ → ℕ → Option Kept
  month_in b p m =
      elim (netted_basket cards b) [
        | true ↦ Some (kept_with cells (netted_column cards cells b p).1 m p)
        | false ↦ take_if_below0 (month_result cells m p) (kept_with cells (volatility_result cells m p).1 m p)
      ]

  -- of a basket in a family at a point
  unfoldable pub basket_in : ℕ → ℕ → ℕ → Option ℕ
  basket_in f p b =
      elim (netted_family cards f) [
        | true ↦ Some (worst_within last cards cells (window_of cards f) b p).1
        | false ↦ take_if_below0 (basket_result cards cells b p) p
      ]

  unfoldable pub family_point : ℕ → Option ℕ
  family_point f = take_if_below0 (family_worst last cards cells f).0 (family_worst last cards cells f).1

  unfoldable pub basket_point : ℕ → Option ℕ
  basket_point b = let f = named (basket cards b).family in elim (family_point f) [ None ↦ None | Some p ↦ basket_in f p b ]

  unfoldable pub month_kept : ℕ → Option Kept
  month_kept m = let b = named (month cards m).basket in elim (basket_point b) [ None ↦ None | Some p ↦ month_in b p m ]

  -- the choices of the cards that there are
  abbrev pub family_choice : ℕ → Option ℕ
  family_choice = up_to (length cards.families) family_point

  abbrev pub basket_choice : ℕ → Option ℕ
  basket_choice = up_to (length cards.baskets) basket_point

  abbrev pub month_choice : ℕ → Option Kept
  month_choice = up_to (length cards.months) month_kept

  -- the world of these choices that counts the orders so
  unfoldable pub choices : (ℕ → Counted) → World
  choices orders = record { families = up_to (length cards.families) family_point; baskets = up_to (length cards.baskets) basket_point; months = up_to (length cards.months) month_kept; orders = orders }

-- ---- the orders
module _ (price : ℕ → ℕ → ℕ → ℤ) where
  -- whether an order loses at a point and column
  abbrev pub order_loses : Open → ℕ → ℕ → Bool
  order_loses o p k = int_lt (order_result o (price o.line p k) k) (pos 0)

  abbrev pub order_loses_in : Open → ℕ → Option ℕ → Bool
  order_loses_in o p None = false
  order_loses_in o p (Some k) = order_loses o p k

  -- an order of a month that is not kept is counted nowhere
  abbrev pub order_counted_at : Open → Option ℕ → Option Kept → Counted
  order_counted_at o point kept =
      elim point [
        | None ↦ nowhere
        | Some p ↦ elim kept [
          | None ↦ nowhere
          | Some columns ↦ record { volatility = order_loses o p columns.volatility; rate = order_loses_in o p columns.rate; twist = order_loses_in o p columns.twist }
        ]
      ]

  -- an order stands with its line's month, at the point of that month's basket
  abbrev pub counted_by : Cards → (ℕ → Option ℕ) → (ℕ → Option Kept) → Open → Counted
  counted_by cards baskets months o =
      let m = named (line cards o.line).month in
      order_counted_at o (baskets (named (month cards m).basket)) (months m)

-- the same of the orders of a book, by their places in it
module _ (last : ℕ) (price : ℕ → ℕ → ℕ → ℤ) (cards : Cards) (book : Book) where
  -- whether an order loses at a point and column
  unfoldable pub loses : ℕ → ℕ → ℕ → Bool
  loses i p k = int_lt (order_result (order book i) (price (order book i).line p k) k) (pos 0)

  unfoldable pub loses_in : ℕ → ℕ → Option ℕ → Bool
  loses_in i p None = false
  loses_in i p (Some k) = loses i p k

  unfoldable pub counted_at : ℕ → Option ℕ → Option Kept → Counted
  counted_at i point kept =
      let nowhere : Counted = record { volatility = false; rate = false; twist = false } in
      elim point [
        | None ↦ nowhere
        | Some p ↦ elim kept [
          | None ↦ nowhere
          | Some columns ↦ record { volatility = loses i p columns.volatility; rate = loses_in i p columns.rate; twist = loses_in i p columns.twist }
        ]
      ]

  -- an order of a month that is not kept is counted nowhere
  unfoldable pub counted_of : ℕ → Counted
  counted_of i =
      let c = cells last price cards book in
      let m = named (line cards (order book i).line).month in
      counted_at i (basket_point last cards c (named (month cards m).basket)) (month_kept last cards c m)

  unfoldable pub handed_out : World
  handed_out = choices last cards (cells last price cards book) counted_of
