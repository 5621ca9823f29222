-- From what is told over a bank to what a day is told.
use Rattle.std.proofs.Common.{◌≡◌, Bool, true, false, eqb, length, Ok, Err, Result, Vec, sym, ap, subst}
use Rattle.std.specs.declared.alloc.Global.{Global}
use Rattle.terms.specs.declared.fault.Fault.{Fault}
use Rattle.terms.specs.declared.fault.Fault.TheVariants.{Refused}
use Rattle.terms.specs.declared.refusal.Refusal.{Refusal}
use Rattle.banks.specs.Meanings.{Meaning}
use Rattle.calls.specs.declared.answer.Answer.{Answer}
use Rattle.load.specs.Days.{Day}
use Rattle.load.specs.Loading.{next}
use Rattle.day.specs.Days.{bank_told, beside_table, strip_alone}
use Rattle.day.specs.Told.{ToldOutcome, SafeOver, SafeOn}

abbrev Told : Type 0
Told = Result (Vec (Result Answer Refusal) Global) Fault

-- a bank that is refused refuses the day
pub refused_made : (day : Day) (made : Result Meaning Refusal) (why : Refusal) → made ≡ Err why → ToldOutcome (Err (Refused why)) (next made (bank_told day))
refused_made day made why e = ap (λ (m : Result Meaning Refusal). next m (bank_told day)) e

pub told_made : (day : Day) (made : Result Meaning Refusal) (bank : Meaning) (r : Told) → made ≡ Ok bank → ToldOutcome r (bank_told day bank) → ToldOutcome r (next made (bank_told day))
told_made day made bank r e h = subst (λ (m : Result Meaning Refusal). ToldOutcome r (next m (bank_told day))) (sym e) h

pub safe_made : (day : Day) (made : Result Meaning Refusal) (bank : Meaning) (r : Told) → made ≡ Ok bank → SafeOver day bank r → SafeOn day made r
safe_made day made bank r e h other f = let same : bank ≡ other = cc in subst (λ (b : Meaning). SafeOver day b r) same h

-- the strip alone, or beside the table
pub alone_none : (day : Day) (strip : Meaning) → eqb (length day.options) 0 ≡ true → strip_alone day strip ≡ Ok strip
alone_none day strip e = ap (λ (none : Bool). elim none [ true ↦ Ok strip | false ↦ beside_table day strip ]) e

pub alone_some : (day : Day) (strip : Meaning) → eqb (length day.options) 0 ≡ false → strip_alone day strip ≡ beside_table day strip
alone_some day strip e = ap (λ (none : Bool). elim none [ true ↦ Ok strip | false ↦ beside_table day strip ]) e
