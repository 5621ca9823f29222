-- A table: prices that the caller keeps in a list, in whole kopecks.
use Rattle.std.specs.Prelude.{◌≡◌, ℕ, ◌+◌, ◌*◌, ◌/◌, ◌%◌, ◌<◌, Bool, true, false, List, [], ◌∷◌, length, ℤ, pos, negsuc, ◌*ℤ◌, Some, Option, Result, ◌==◌, nat_lt, slice_index_or, unsigned_abs}
use Rattle.terms.specs.Cards.{within}
use Rattle.terms.specs.Judging.{failing}
use Rattle.terms.specs.Halves.{half_of, points}
use Rattle.terms.specs.declared.half.Half.{Half}
use Rattle.terms.specs.declared.refusal.Refusal.{Refusal}
use Rattle.terms.specs.declared.refusal.Refusal.TheVariants.{OutsideField, WrongLength, WrongShape}
use Rattle.banks.specs.Meanings.{Meaning, grains, columns, exactly, bounded}
use Rattle.terms.specs.Checks.{unless, refused_at, decided}
use Rattle.banks.specs.Outcomes.{on_half, making}
use Rattle.banks.specs.declared.table.Table.{Table}

-- the largest entry, in kopecks
abbrev pub most_entry : ℕ
most_entry = 10000000

-- where the entry of a cell stands in the list
abbrev pub entry_at : Half → ℕ → ℕ → ℕ → ℕ
entry_at half line point column = (line * columns + column) * points half + point

-- how many entries a table of so many lines has
abbrev pub entries : Half → ℕ → ℕ
entries half lines = lines * columns * points half

-- whether the entry at a place lies in its field: in columns 0 to 2 it is 0 to 10,000,000 kopecks, elsewhere that much up or down
abbrev pub fits_at : Half → ℕ → ℤ → Bool
fits_at half place entry = elim (nat_lt ((place / points half) % columns) 3) [ true ↦ within (pos 0) (pos 10000000) entry | false ↦ within (negsuc 9999999) (pos 10000000) entry ]

-- the price of a cell, as the list has it
abbrev pub listed : Half → List ℤ → ℕ → ℕ → ℕ → ℤ
listed half list line point column = pos grains *ℤ slice_index_or list (entry_at half line point column) (pos 0)

abbrev pub table_of : Half → ℕ → List ℤ → Meaning
table_of half lines list = exactly half lines (grains * most_entry) (listed half list)

-- 6: a half that no grid has, or lines that are not 1 to 16; 5: a list of another length; 2: the first entry outside its field
abbrev pub table_checks : ℤ → List ℤ → Half → List (Option Refusal)
table_checks lines list grid = unless (within (pos 1) (pos 16) lines) WrongShape ∷ unless (length list == entries grid (unsigned_abs lines)) (WrongLength (entries grid (unsigned_abs lines))) ∷ refused_at OutsideField (failing (fits_at grid) 0 list) ∷ []

abbrev pub table_judged : ℤ → ℤ → List ℤ → Result Half Refusal
table_judged half lines list = on_half (half_of half) (λ grid. decided (table_checks lines list grid) grid)

abbrev pub table_made : ℤ → ℤ → List ℤ → Result Meaning Refusal
table_made half lines list = making (table_judged half lines list) (λ grid. table_of grid (unsigned_abs lines) list)

-- what makes a list a table on a grid
pub record Tabulates (half lines : ℤ) (list : List ℤ) (grid : Half) : Type 0 where
  pub of_half : half_of half ≡ Some grid
  pub few_lines : within (pos 1) (pos 16) lines ≡ true
  pub whole : length list ≡ entries grid (unsigned_abs lines)
  pub fitting : (place : ℕ) → place < length list → fits_at grid place (slice_index_or list place (pos 0)) ≡ true

-- when a list may be a table
abbrev pub MayTabulate : ℤ → ℤ → List ℤ → Type 0
MayTabulate half lines list = (grid : Half) × Tabulates half lines list grid

-- any half, count and list
abbrev pub table_meaning : Table → Meaning
table_meaning t = bounded t.half t.count (grains * most_entry) (listed t.half t.entries.now)
