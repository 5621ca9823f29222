-- What the answers of the program stand for.
use Rattle.std.specs.Prelude.{ℕ, List, [], ◌∷◌, Some, None, Ok, Err, Option, Result}
use Rattle.terms.specs.declared.refusal.Refusal.{Refusal}
use Rattle.margin.specs.Worlds.{listed_world}
use Rattle.account.specs.Account as account
use Rattle.calls.specs.declared.answer.FamilyWorst.{FamilyWorst}
use Rattle.calls.specs.declared.answer.Requirement.{Requirement}
use Rattle.calls.specs.declared.answer.Answer.{Answer}
use Rattle.calls.specs.declared.answer.Answer.TheVariants.{Numbered, StillLeft, Ended, Collateral, Required}

-- the families that there are
abbrev pub families_of : List (Option FamilyWorst) → List (ℕ × ℕ)
families_of [] = []
families_of (None ∷ fs) = families_of fs
families_of (Some f ∷ fs) = (f.loss, f.point) ∷ families_of fs

abbrev pub requirement_of : Requirement → account.Requirement
requirement_of r = record { amount = r.amount; families = families_of r.families; costliest = r.costliest; world = listed_world r.world }

abbrev pub answer_of : Answer → account.Answer
answer_of (Numbered n) = account.Numbered n
answer_of (StillLeft n) = account.StillLeft n
answer_of (Ended n) = account.Ended n
answer_of (Collateral n) = account.Collateral n
answer_of (Required r) = account.Required (requirement_of r)

abbrev pub told_of : Result Answer Refusal → Result account.Answer Refusal
told_of (Ok answer) = Ok (answer_of answer)
told_of (Err why) = Err why
