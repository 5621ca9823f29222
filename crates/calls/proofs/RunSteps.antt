-- A run, call by call from its front.
use Rattle.std.proofs.Common.{◌≡◌, ℕ, ◌+◌, ◌<◌, List, [], ◌∷◌, ◌++◌, map, length, get_or, take, Result, refl, ap, ◌∙◌, ap₂}
use Rattle.std.proofs.lemmas.List.{take_more, append_assoc, map-append}
use Rattle.terms.specs.declared.refusal.Refusal.{Refusal}
use Rattle.account.specs.declared.call.Call.{Call}
use Rattle.account.specs.Account as account
use Rattle.account.specs.Account.{State, Required, requirement, step, run, answers}
use Rattle.calls.specs.declared.answer.Answer.{Answer}
use Rattle.calls.specs.Answers.{told_of}

pub run_append : (s : State) (before after : List Call) → run s (before ++ after) ≡ run (run s before) after
unfolding run
run_append s [] after = refl
run_append s (call ∷ before) after = run_append (step s call).0 before after

pub answers_append : (s : State) (before after : List Call) → answers s (before ++ after) ≡ answers s before ++ answers (run s before) after
unfolding run answers
answers_append s [] after = refl
answers_append s (call ∷ before) after = ap (λ (told : List (Result account.Answer Refusal)). (step s call).1 ∷ told) (answers_append (step s call).0 before after)

-- one call more
pub run_more : (s : State) (calls : List Call) (i : ℕ) (d : Call) → i < length calls → run s (take (i + 1) calls) ≡ (step (run s (take i calls)) (get_or calls i d)).0
unfolding run
run_more s calls i d inside = ap (run s) (take_more calls i d inside) ∙ run_append s (take i calls) (get_or calls i d ∷ [])

pub answers_more : (s : State) (calls : List Call) (i : ℕ) (d : Call) → i < length calls → answers s (take (i + 1) calls) ≡ answers s (take i calls) ++ (step (run s (take i calls)) (get_or calls i d)).1 ∷ []
unfolding answers
answers_more s calls i d inside = ap (answers s) (take_more calls i d inside) ∙ answers_append s (take i calls) (get_or calls i d ∷ [])

-- what is told so far, and one answer more
pub told_more : (before told : List (Result Answer Refusal)) (new : Result Answer Refusal) (so_far : List (Result account.Answer Refusal)) (answer : Result account.Answer Refusal) → map told_of told ≡ map told_of before ++ so_far → told_of new ≡ answer → map told_of (told ++ new ∷ []) ≡ map told_of before ++ (so_far ++ answer ∷ [])
told_more before told new so_far answer e f =
    map-append told_of told (new ∷ []) ∙ ap₂ (λ (front : List (Result account.Answer Refusal)) (x : Result account.Answer Refusal). front ++ x ∷ []) e f ∙ append_assoc (map told_of before) so_far (answer ∷ [])
