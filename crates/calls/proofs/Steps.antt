-- A step, by the first check that refuses.
use Rattle.std.proofs.Common.{◌≡◌, ℕ, List, [], ◌∷◌, Some, None, Ok, Err, Option, Result, sym, refl, ap, arith}
use Rattle.std.specs.Result.{IsErrAnd}
use Rattle.std.proofs.lemmas.Result.{err_from_is_err_and}
use Rattle.terms.specs.declared.refusal.Refusal.{Refusal}
use Rattle.terms.specs.Checks.{decided}
use Rattle.calls.specs.Accounts.{told_as, judged}
use Rattle.account.specs.declared.call.Call.{Call}
use Rattle.account.specs.Account.{State, Answer, settled, checks, effect, step}
use Rattle.account.specs.Runs.{NoneRefuses}

decided_refused : {X : Type 0} (cs : List (Option Refusal)) (x : X) (why : Refusal) → judged cs ≡ Err why → decided cs x ≡ Err why
decided_refused [] x why e = absurd (let z : ◌≡◌ {A = ℕ} 0 1 = cc in omega arith)
decided_refused (None ∷ cs) x why e = decided_refused cs x why e
decided_refused (Some first ∷ cs) x why e = let same : first ≡ why = cc in ap Err same

decided_none : {X : Type 0} (cs : List (Option Refusal)) (x : X) → judged cs ≡ Ok tt → decided cs x ≡ Ok x
decided_none [] x e = refl
decided_none (None ∷ cs) x e = decided_none cs x e
decided_none (Some why ∷ cs) x e = absurd (let z : ◌≡◌ {A = ℕ} 0 1 = cc in omega arith)

-- what checks decide says what they decide alone
pub judged_err : {X : Type 0} (cs : List (Option Refusal)) (x : X) (why : Refusal) → decided cs x ≡ Err why → judged cs ≡ Err why
judged_err [] x why e = absurd (let z : ◌≡◌ {A = ℕ} 0 1 = cc in omega arith)
judged_err (None ∷ cs) x why e = judged_err cs x why e
judged_err (Some first ∷ cs) x why e = let same : first ≡ why = cc in ap Err same

pub judged_ok : {X : Type 0} (cs : List (Option Refusal)) (x y : X) → decided cs x ≡ Ok y → (judged cs ≡ Ok tt) × (y ≡ x)
judged_ok [] x y e = let same : x ≡ y = cc in (refl, sym same)
judged_ok (None ∷ cs) x y e = judged_ok cs x y e
judged_ok (Some why ∷ cs) x y e = absurd (let z : ◌≡◌ {A = ℕ} 0 1 = cc in omega arith)

pub none_refuses : (cs : List (Option Refusal)) → judged cs ≡ Ok tt → NoneRefuses cs
none_refuses [] e = tt
none_refuses (None ∷ cs) e = (refl, none_refuses cs e)
none_refuses (Some why ∷ cs) e = absurd (let z : ◌≡◌ {A = ℕ} 0 1 = cc in omega arith)

pub refused : (s : State) (call : Call) (why : Refusal) → judged (checks s call) ≡ Err why → step s call ≡ (s, Err why)
unfolding step
refused s call why e = ap (settled s) (decided_refused (checks s call) (effect s call) why e)

pub accepted : (s : State) (call : Call) → judged (checks s call) ≡ Ok tt → step s call ≡ ((effect s call).0, Ok (effect s call).1)
unfolding step
accepted s call e = ap (settled s) (decided_none (checks s call) (effect s call) e)

-- what a call answers that stops at a check which refuses
pub told_refused : (s : State) (call : Call) (kind : ℕ → Answer) (r : Result ℕ Refusal) (why : Refusal) → IsErrAnd r (λ e. e ≡ why) → judged (checks s call) ≡ Err why → (s, told_as kind r) ≡ step s call
told_refused s call kind r why stops e = let p = err_from_is_err_and r stops in rw (p.1, p.2) (sym (refused s call why e))
