-- In which cells a book's orders are counted, where lists hold the baskets' points and the months' columns.
use Rattle.std.specs.Prelude.{ℕ, List, ℤ, None, Option, slice_index_or}
use Rattle.margin.specs.Book.{Cards, Book, order}
use Rattle.margin.specs.HandedOut.{counted_by}
use Rattle.margin.specs.declared.choice.Counted.{Counted}
use Rattle.margin.specs.declared.choice.Kept.{Kept}

abbrev pub counted_from : (ℕ → ℕ → ℕ → ℤ) → Cards → Book → List (Option ℕ) → List (Option Kept) → ℕ → Counted
counted_from price cards book points kept i = counted_by price cards (λ b. slice_index_or points b None) (λ m. slice_index_or kept m None) (order book i)
