-- What the caller of a session is told.
use Rattle.std.specs.Prelude.{◌≡◌, ℕ, List, map, Ok, Err, vec_items, Result}
use Rattle.terms.specs.declared.fault.Fault.{Fault}
use Rattle.terms.specs.declared.fault.Fault.TheVariants.{Refused, Memory}
use Rattle.terms.specs.declared.refusal.Refusal.{Refusal}
use Rattle.banks.specs.Meanings.{Meaning}
use Rattle.account.specs.Account as account
use Rattle.account.specs.Account.{State}
use Rattle.account.specs.Begin.{begin}
use Rattle.calls.specs.Answers.{told_of}
use Rattle.calls.specs.Safety.{EveryMarginIsSafe}
use Rattle.load.specs.Days.{Day}
use Rattle.load.specs.Loading.{cards_of, wanted, loading}
use Rattle.day.specs.declared.session.Session.{Session}
use Rattle.day.specs.Days.{bank_made, calls_of}

-- collateral and answers are those of the definition, and a refusal is the one that applies; want of memory says nothing
abbrev pub SessionOutcome : Result Session Fault → Result (ℕ × List (Result account.Answer Refusal)) Refusal → Type 0
SessionOutcome (Ok s) said = said ≡ Ok (s.collateral, map told_of (vec_items s.told))
SessionOutcome (Err (Refused why)) said = said ≡ Err why
SessionOutcome (Err Memory) said = Unit {0}

-- the margin among the answers is safe for the account of the day that the file is the writing of
abbrev pub SafeSession : List ℕ → Result Session Fault → Type 0
SafeSession text (Ok session) = (day : Day) (bank : Meaning) (s : State) → loading wanted text ≡ Ok day → bank_made day ≡ Ok bank → begin bank (cards_of day) day.held day.cash ≡ Ok s → EveryMarginIsSafe s (calls_of day.orders) (map told_of (vec_items session.told))
SafeSession text (Err fault) = Unit {0}
