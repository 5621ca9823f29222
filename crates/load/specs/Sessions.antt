-- What is known of loading: days and their texts.
use Rattle.std.specs.Prelude.{◌≡◌, ℕ, ◌≤◌, List, length, Ok, Err}
use Rattle.terms.specs.Refusals.{number_of}
use Rattle.terms.specs.declared.refusal.Refusal.{Refusal}
use Rattle.terms.specs.declared.refusal.Refusal.TheVariants.{Malformed}
use Rattle.text.specs.Grammar.{WellFormed, FirstFault}
use Rattle.load.specs.Days.{Day}
use Rattle.load.specs.Loading.{wanted, loading}
use Rattle.load.specs.Writing.{writing, Passes}

-- a text that is not too long is accepted as a day exactly where it is the writing of that day and the day passes the checks
abbrev pub LoadsDays : Type 0
LoadsDays =
    (text : List ℕ) (day : Day) → length text ≤ 65536 →
    (Passes day × (text ≡ writing day) → loading wanted text ≡ Ok day)
    × (loading wanted text ≡ Ok day → Passes day × (text ≡ writing day))

-- a text that is no writing of forms is refused at the first byte, or the end, after which no continuation is one
abbrev pub NamesTheFault : Type 0
NamesTheFault = (text : List ℕ) → length text ≤ 65536 → (WellFormed text → ⊥) → (place : ℕ) × (loading wanted text ≡ Err (Malformed place)) × FirstFault text place

-- a well-formed text is refused for its numbers, its forms or its cards alone: 2, 3 or 4
abbrev pub FaultsOfForms : Type 0
FaultsOfForms = (text : List ℕ) (why : Refusal) → length text ≤ 65536 → WellFormed text → loading wanted text ≡ Err why → (2 ≤ number_of why) × (number_of why ≤ 4)
