-- What the caller of a run is told.
use Rattle.std.specs.Prelude.{◌≡◌, true, List, map, is_ok, Ok, Err, vec_items, Result, Vec}
use Rattle.std.specs.declared.alloc.Global.{Global}
use Rattle.terms.specs.declared.fault.Fault.{Fault}
use Rattle.terms.specs.declared.fault.Fault.TheVariants.{Refused, Memory}
use Rattle.terms.specs.declared.refusal.Refusal.{Refusal}
use Rattle.margin.specs.Book.{Cards}
use Rattle.account.specs.declared.call.Call.{Call}
use Rattle.account.specs.Account.{State, answers}
use Rattle.calls.specs.declared.answer.Answer.{Answer}
use Rattle.calls.specs.Answers.{told_of}
use Rattle.calls.specs.Safety.{EveryMarginIsSafe}

-- what a begun account answers to its calls; a refusal is the one with which begin refuses; where memory is wanting, no card is refused
abbrev pub RunOutcome : Result (Vec (Result Answer Refusal) Global) Fault → List Call → Result Cards Refusal → Result State Refusal → Type 0
RunOutcome (Ok told) calls judged begun = (s : State) × (begun ≡ Ok s) × (map told_of (vec_items told) ≡ answers s calls)
RunOutcome (Err (Refused why)) calls judged begun = begun ≡ Err why
RunOutcome (Err Memory) calls judged begun = is_ok judged ≡ true

-- every margin among the answers is safe where it was answered
abbrev pub SafeOutcome : Result (Vec (Result Answer Refusal) Global) Fault → List Call → Result State Refusal → Type 0
SafeOutcome (Ok told) calls begun = (s : State) → begun ≡ Ok s → EveryMarginIsSafe s calls (map told_of (vec_items told))
SafeOutcome (Err fault) calls begun = Unit {0}
