-- The months' cells in a list: for each of eight months, 17 points of seven columns.
use Rattle.std.specs.Prelude.{ℕ, ◌+◌, ◌*◌, ◌/◌, ◌%◌, List, length, ℤ, pos, slice_index_or}
use Rattle.terms.specs.Halves.{half_size}
use Rattle.terms.specs.declared.half.Half.{Half}
use Rattle.margin.specs.Book.{Cards}
use Rattle.margin.specs.Cells.{gridded}

-- the last point of a grid is twice its half
abbrev pub last_point : Half → ℕ
last_point half = 2 * half_size half

-- where a cell stands in the list, and the cell that stands at a place
abbrev pub place_of : ℕ → ℕ → ℕ → ℕ
place_of m point column = (m * 17 + point) * 7 + column

abbrev pub at_place : (ℕ → ℕ → ℕ → ℤ) → ℕ → ℤ
at_place cells i = cells (i / 119) ((i % 119) / 7) (i % 7)

-- the cells of a list, and 0 outside the grid
abbrev pub table_cells : ℕ → Cards → List ℤ → ℕ → ℕ → ℕ → ℤ
table_cells last cards table = gridded last (length cards.months) (λ m point column. slice_index_or table (place_of m point column) (pos 0))
