-- What a line, and all the lines of a month, add to a cell in which each open order counts only if it loses.
use Rattle.std.specs.Prelude.{ℕ, ℤ, pos}
use Rattle.std.specs.Int.{int_min}
use Rattle.margin.specs.Book.{Cards, Book, over_lines}
use Rattle.margin.specs.Cells.{line_cell}

module _ (last : ℕ) (price : ℕ → ℕ → ℕ → ℤ) (cards : Cards) (book : Book) where
  abbrev pub line_share : ℕ → ℕ → ℕ → ℤ
  line_share l p k = line_cell last price cards book (λ i result. int_min (pos 0) result) l p k

  abbrev pub month_share : ℕ → ℕ → ℕ → ℤ
  month_share m p k = over_lines cards m (λ l. line_share l p k)
