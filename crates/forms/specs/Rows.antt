-- Rows of prices: seven for each option, by line and column, each with a price at every point of the grid.
use Rattle.std.specs.Prelude.{◌≡◌, ℕ, zero, suc, ◌+◌, ◌/◌, ◌%◌, Bool, true, false, List, [], ◌∷◌, ◌++◌, length, drop, ℤ, pos, negsuc, Ok, Err, codes, ◌==◌, nat_le, nat_lt}
use Rattle.std.specs.List.{AllByRecursion}
use Rattle.terms.specs.Halves.{points}
use Rattle.terms.specs.declared.half.Half.{Half}
use Rattle.terms.specs.declared.refusal.Refusal.TheVariants.{WrongForm}
use Rattle.text.specs.Grammar.{Inner, Outer, Proper, text_of}
use Rattle.forms.specs.Fields.{Asked}
use Rattle.forms.specs.Judged.{same, judge_inner, judge_inners}
use Rattle.forms.specs.Reads.{Told, then, given, outer_in, inner_in, close_in}
use Rattle.forms.specs.declared.field.Allowed.{Allowed}
use Rattle.forms.specs.declared.field.Allowed.TheVariants.{Any, Between}

-- a row's name is its line and its column
abbrev pub line_asked : Asked
line_asked = record { head = codes "line"; count = 1; allowed = Any }

abbrev pub column_asked : Asked
column_asked = record { head = codes "column"; count = 1; allowed = Any }

-- columns 0 to 2 hold prices, and the others changes of a price
abbrev pub price_allowed : ℕ → Allowed
price_allowed column = elim (nat_lt column 3) [ true ↦ Between (pos 0) (pos 10000000) | false ↦ Between (negsuc 9999999) (pos 10000000) ]

-- a price at every point
abbrev pub prices_asked : Half → ℕ → Asked
prices_asked half column = record { head = codes "prices"; count = points half; allowed = price_allowed column }

-- the number that is due
abbrev pub is_due : ℕ → ℤ → Bool
is_due due (pos n) = n == due
is_due due (negsuc n) = false

-- an inner form of one number, which has to be the one that is due; another is refused at the row's bracket
unfoldable pub due_in : Asked → ℕ → ℕ → List ℕ → ℕ → Told (Unit {0})
due_in a due bracket text at = then (inner_in (λ _ _ n. n) a text (pos 0) at) (λ n p. given (is_due due n) (WrongForm bracket) (Ok (tt, p)))

-- the front of a row: its head and its name
unfoldable pub front_in : ℕ → ℕ → List ℕ → ℕ → Told (Unit {0})
front_in line column text at =
    then (outer_in (codes "row") text at) (λ _ p.
    then (due_in line_asked line at text p) (λ _ q.
    due_in column_asked column at text q))

-- a price behind those read so far
abbrev pub added : List ℤ → ℕ → ℤ → List ℤ
added prices index n = prices ++ (n ∷ [])

-- the row that is due: its prices, behind those read so far
unfoldable pub row_in : ℕ → ℕ → Half → List ℕ → List ℤ → ℕ → Told (List ℤ)
row_in line column half text prices at =
    then (front_in line column text at) (λ _ p.
    then (inner_in added (prices_asked half column) text prices p) (λ ps q.
    then (close_in text q) (λ _ u. Ok (ps, u))))

-- so many rows, from an index on: those of the line `first` come first, column by column; a row that finds no room for its prices is refused at its bracket
unfoldable pub rows_in : ℕ → Half → List ℕ → ℕ → ℕ → ℕ → List ℤ → ℕ → Told (List ℤ)
rows_in first half text room zero index prices at = Ok (prices, at)
rows_in first half text room (suc left) index prices at =
    given (nat_le (length prices + points half) room) (WrongForm at)
    (then (row_in (first + index / 7) (index % 7) half text prices at) (λ ps p. rows_in first half text room left (index + 1) ps p))

-- the same of forms, as they were written: an inner form of the number that is due, the first of those that are left, and those behind it
unfoldable pub judge_due : Asked → ℕ → ℕ → List Inner → ℕ → Told (List Inner)
judge_due a due bracket [] at = Err (WrongForm at)
judge_due a due bracket (i ∷ is) at = then (judge_inner (λ _ _ n. n) a i (pos 0) at) (λ n p. given (is_due due n) (WrongForm bracket) (Ok (is, p)))

-- an outer form as the row that is due
unfoldable pub judge_row : ℕ → ℕ → Half → List ℤ → Outer → ℕ → Told (List ℤ)
judge_row line column half prices f at =
    given (same (codes "row") f.head) (WrongForm at)
    (then (judge_due line_asked line at f.inners (at + 1 + length f.head)) (λ is p.
    then (judge_due column_asked column at is p) (λ js q.
    judge_inners (λ _. added) (prices_asked half column ∷ []) js 0 prices q)))

-- so many rows, the first of the forms that are left; a missing one is refused at the end of the text
unfoldable pub judge_rows : ℕ → Half → ℕ → ℕ → ℕ → List ℤ → List Outer → ℕ → Told (List ℤ)
judge_rows first half room zero index prices fs at = Ok (prices, at)
judge_rows first half room (suc left) index prices [] at = Err (WrongForm at)
judge_rows first half room (suc left) index prices (f ∷ fs) at =
    given (nat_le (length prices + points half) room) (WrongForm at)
    (then (judge_row (first + index / 7) (index % 7) half prices f at) (λ ps p. judge_rows first half room left (index + 1) ps fs p))

-- where the lines of outer forms are left of the text, the reader makes of the bytes what the forms are as rows
abbrev pub ReadsRows : Type 0
ReadsRows =
    (first : ℕ) (half : Half) (fs : List Outer) (text : List ℕ) (room left index : ℕ) (prices : List ℤ) (at : ℕ) → AllByRecursion Proper fs → drop at text ≡ text_of fs →
    rows_in first half text room left index prices at ≡ judge_rows first half room left index prices fs at
