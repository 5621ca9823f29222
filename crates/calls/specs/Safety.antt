-- What holds of every margin that an account answers, whatever calls it met since it began.
use Rattle.std.specs.Prelude.{◌≡◌, List, ◌∷◌, ◌++◌, ℤ, Ok, Result}
use Rattle.terms.specs.declared.cards.Held.{Held}
use Rattle.terms.specs.declared.refusal.Refusal.{Refusal}
use Rattle.banks.specs.Meanings.{Meaning}
use Rattle.margin.specs.Book.{Cards}
use Rattle.account.specs.declared.call.Call.{Call}
use Rattle.account.specs.declared.call.Call.TheVariants.{Margin}
use Rattle.account.specs.Account.{State, Answer, Requirement, Required, run, answers}
use Rattle.account.specs.Begin.{begin}
use Rattle.account.specs.Runs.{SafelyMargined}

-- an answer is safe in a state that the account came to from its begin by calls, refused ones among them
abbrev pub SafeIfReached : State → Requirement → Type 0
SafeIfReached s answer = (bank : Meaning) (cards : Cards) (held : List Held) (collateral : ℤ) (begun : State) → begin bank cards held collateral ≡ Ok begun → (calls : List Call) → run begun calls ≡ s → SafelyMargined s answer

-- wherever margin stands among the calls, it was answered there, and its answer is safe
abbrev pub EveryMarginIsSafe : State → List Call → List (Result Answer Refusal) → Type 0
EveryMarginIsSafe begun calls told = (before after : List Call) → calls ≡ before ++ Margin ∷ after → (answer : Requirement) × (told ≡ answers begun before ++ Ok (Required answer) ∷ answers (run begun before) after) × SafelyMargined (run begun before) answer
