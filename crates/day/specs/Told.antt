-- What the caller of a session is told.
use Rattle.std.specs.Prelude.{◌≡◌, List, map, Ok, Err, vec_items, Result, Vec}
use Rattle.std.specs.declared.alloc.Global.{Global}
use Rattle.terms.specs.declared.fault.Fault.{Fault}
use Rattle.terms.specs.declared.fault.Fault.TheVariants.{Refused, Memory}
use Rattle.terms.specs.declared.refusal.Refusal.{Refusal}
use Rattle.banks.specs.Meanings.{Meaning}
use Rattle.account.specs.Account as account
use Rattle.account.specs.Account.{State}
use Rattle.account.specs.Begin.{begin}
use Rattle.calls.specs.declared.answer.Answer.{Answer}
use Rattle.calls.specs.Answers.{told_of}
use Rattle.calls.specs.Safety.{EveryMarginIsSafe}
use Rattle.load.specs.Days.{Day}
use Rattle.load.specs.Loading.{cards_of}
use Rattle.day.specs.Days.{calls_of}

-- the answers are those of the definition, and a refusal is the one that applies; want of memory says nothing
abbrev pub ToldOutcome : Result (Vec (Result Answer Refusal) Global) Fault → Result (List (Result account.Answer Refusal)) Refusal → Type 0
ToldOutcome (Ok told) said = said ≡ Ok (map told_of (vec_items told))
ToldOutcome (Err (Refused why)) said = said ≡ Err why
ToldOutcome (Err Memory) said = Unit {0}

-- the margin among the answers is safe for the account that began over the bank
abbrev pub SafeOver : Day → Meaning → Result (Vec (Result Answer Refusal) Global) Fault → Type 0
SafeOver day bank (Ok told) = (s : State) → begin bank (cards_of day) day.held day.cash ≡ Ok s → EveryMarginIsSafe s (calls_of day.orders) (map told_of (vec_items told))
SafeOver day bank (Err fault) = Unit {0}

-- whatever bank was made
abbrev pub SafeOn : Day → Result Meaning Refusal → Result (Vec (Result Answer Refusal) Global) Fault → Type 0
SafeOn day made r = (bank : Meaning) → made ≡ Ok bank → SafeOver day bank r
