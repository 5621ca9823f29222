-- How making a bank ends: with a bank that has a meaning, or with the first refusal that applies.
use Rattle.std.specs.Prelude.{Some, None, Ok, Err, Option, Result}
use Rattle.terms.specs.declared.half.Half.{Half}
use Rattle.terms.specs.declared.refusal.Refusal.{Refusal}
use Rattle.terms.specs.declared.refusal.Refusal.TheVariants.{WrongShape}
use Rattle.banks.specs.Meanings.{Meaning}

-- the checks of the grid of a size; 6 where no grid has that size
abbrev pub on_half : {X : Type 0} → Option Half → (Half → Result X Refusal) → Result X Refusal
on_half None checks = Err WrongShape
on_half (Some half) checks = checks half

-- what is made of what passed the checks
abbrev pub making : {X : Type 0} → Result X Refusal → (X → Meaning) → Result Meaning Refusal
making (Ok x) meaning = Ok (meaning x)
making (Err why) meaning = Err why

-- what a caller is told: the meaning of the bank that was made, or the refusal
abbrev pub told : {B : Type 0} → (B → Meaning) → Result B Refusal → Result Meaning Refusal
told meaning (Ok bank) = Ok (meaning bank)
told meaning (Err why) = Err why
