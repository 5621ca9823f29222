-- In which cells an order of the book is counted: by its place in the book, and by the order itself.
use Rattle.std.proofs.Common.{◌≡◌, ℕ, Bool, ℤ, Some, None, Option, refl, ap₂}
use Rattle.margin.specs.declared.choice.Kept.{Kept}
use Rattle.margin.specs.Book.{Cards, Book, order}
use Rattle.margin.specs.Cells.{cells}
use Rattle.margin.specs.HandedOut.{basket_point, month_kept, order_loses, order_loses_in, order_counted_at, counted_by, loses, loses_in, counted_at, counted_of}

module _ (last : ℕ) (price : ℕ → ℕ → ℕ → ℤ) (cards : Cards) (book : Book) (i : ℕ) where
  column_same : (p : ℕ) (column : Option ℕ) → loses_in last price cards book i p column ≡ order_loses_in price (order book i) p column
  unfolding loses_in loses
  column_same p None = refl
  column_same p (Some k) = refl

  at_same : (point : Option ℕ) (kept : Option Kept) → counted_at last price cards book i point kept ≡ order_counted_at price (order book i) point kept
  unfolding counted_at loses
  at_same None kept = refl
  at_same (Some p) None = refl
  at_same (Some p) (Some columns) =
      ap₂ (λ (rate twist : Bool). record { volatility = order_loses price (order book i) p columns.volatility; rate = rate; twist = twist }) (column_same p columns.rate) (column_same p columns.twist)

  pub counted_same : counted_of last price cards book i ≡ counted_by price cards (basket_point last cards (cells last price cards book)) (month_kept last cards (cells last price cards book)) (order book i)
  unfolding counted_of
  counted_same = at_same _ _
