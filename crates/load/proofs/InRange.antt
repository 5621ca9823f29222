-- Numbers that a field or a name takes have at most 15 digits.
use Rattle.std.proofs.Common.{◌≡◌, ℕ, zero, suc, ◌+◌, ◌/◌, ◌%◌, ◌≤◌, Bool, true, false, ltb, List, [], ◌∷◌, ◌++◌, take, drop, ℤ, pos, negsuc, ◌≤ℤ◌, refl, div-le_self, arith, lit<}
use native.Mathlib.Nat.{mod-le}
use lib.Signed.{le_z, lt_z}
use Rattle.std.specs.List.{AllByRecursion}
use Rattle.std.proofs.lemmas.Int.{ints}
use Rattle.std.proofs.lemmas.Bool.{and_parts}
use Rattle.terms.specs.Cards.{within}
use Rattle.terms.specs.Halves.{points}
use Rattle.terms.specs.declared.half.Half.{Half}
use Rattle.terms.specs.declared.half.Half.TheVariants.{One, Two, Four, Eight}
use Rattle.text.specs.Grammar.{Outer, Proper}
use Rattle.text.specs.Writing.{InRange}
use Rattle.deck.specs.Judgements.{name_fits}
use Rattle.forms.specs.declared.field.Allowed.TheVariants.{Between}
use Rattle.forms.specs.Fields.{allows}
use Rattle.forms.specs.Rows.{price_allowed}
use Rattle.load.specs.Writing.{row_forms, RowsFit}

pub field_in_lem : (low high n : ℤ) → negsuc 999999999999998 ≤ℤ low → high ≤ℤ pos 999999999999999 → within low high n ≡ true → InRange n
field_in_lem low high n l h e = sides (and_parts (le_z low n) (le_z n high) e)
  where
    sides : (le_z low n ≡ true) × (le_z n high ≡ true) → InRange n
    sides (a, b) = (omega (arith, ints), omega (arith, ints))

pub name_in : (count : ℕ) (n : ℤ) → count ≤ 16 → name_fits count n ≡ true → InRange n
name_in count n few e = sides (and_parts (le_z (pos 0) n) (lt_z n (pos count)) e)
  where
    sides : (le_z (pos 0) n ≡ true) × (lt_z n (pos count) ≡ true) → InRange n
    sides (a, b) = (omega (arith, ints), omega (arith, ints))

pub count_in : (n : ℕ) → n ≤ 999999 → InRange (pos n)
count_in n few = (omega (arith, ints), omega (arith, ints))

price_in : (column : ℕ) (n : ℤ) → allows (price_allowed column) n ≡ true → InRange n
price_in column n e = by (ltb column 3) e
  where
    by : (b : Bool) → allows (elim b [ true ↦ Between (pos 0) (pos 10000000) | false ↦ Between (negsuc 9999999) (pos 10000000) ]) n ≡ true → InRange n
    by true f = field_in_lem (pos 0) (pos 10000000) n (omega (arith, ints)) (omega (arith, ints)) f
    by false f = field_in_lem (negsuc 9999999) (pos 10000000) n (omega (arith, ints)) (omega (arith, ints)) f

prices_in : (column : ℕ) (ns : List ℤ) → AllByRecursion (λ n. allows (price_allowed column) n ≡ true) ns → AllByRecursion InRange ns
prices_in column [] f = tt
prices_in column (n ∷ ns) f = (price_in column n f.0, prices_in column ns f.1)

pub rows_proper : (first : ℕ) (half : Half) (left index : ℕ) (ps : List ℤ) (rest : List Outer) → first + (index + left) ≤ 999999 → RowsFit half left index ps → AllByRecursion Proper rest → AllByRecursion Proper (row_forms first half left index ps ++ rest)
rows_proper first half zero index ps rest few fit p = p
rows_proper first half (suc left) index ps rest few fit p =
    let line = count_in (first + index / 7) (omega (arith, div-le_self index 7)) in
    let column = count_in (index % 7) (omega (arith, mod-le index 7)) in
    (((lit< tt, refl), (((lit< tt, refl), (line, tt)), (((lit< tt, refl), (column, tt)), (((lit< tt, refl), prices_in (index % 7) (take (points half) ps) fit.1), tt)))), rows_proper first half left (index + 1) (drop (points half) ps) rest (omega arith) fit.2 p)

pub points_few : (half : Half) → points half ≤ 17
points_few One = omega arith
points_few Two = omega arith
points_few Four = omega arith
points_few Eight = omega arith
