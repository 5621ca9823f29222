-- The laws of calls: checks decide, and a refusal changes nothing.
use Rattle.std.proofs.Common.{◌≡◌, ℕ, Bool, true, false, List, [], ◌∷◌, ◌++◌, is_ok, Some, None, Ok, Err, Option, Result, refl, ap, arith}
use Rattle.std.proofs.lemmas.Bool.{false≢true, true≢false}
use Rattle.terms.specs.declared.refusal.Refusal.{Refusal}
use Rattle.terms.specs.Checks.{unless, refused_at, decided}
use Rattle.account.specs.declared.call.Call.{Call}
use Rattle.account.specs.Account.{State, Answer, settled, checks, effect, step}
use Rattle.account.specs.Begin.{begin_checks, begin}
use Rattle.account.specs.Runs.{NoneRefuses, FirstRefusal, Judged, CallLaws}

-- ---- what a check that does not refuse says
pub passed : (b : Bool) (why : Refusal) → unless b why ≡ None → b ≡ true
passed true why e = refl
passed false why e = absurd (let z : ◌≡◌ {A = ℕ} 0 1 = cc in omega arith)

pub no_place : (place : Option ℕ) (why : ℕ → Refusal) → refused_at why place ≡ None → place ≡ None
no_place None why e = refl
no_place (Some k) why e = absurd (let z : ◌≡◌ {A = ℕ} 0 1 = cc in omega arith)

-- a check that refuses is not passed
pub refuses : {P : Type 0} (why : Refusal) → ◌≡◌ {A = Option Refusal} (Some why) None → P
refuses why e = absurd (let z : ◌≡◌ {A = ℕ} 0 1 = cc in omega arith)

-- where none of all checks refuses, none of the first does
pub front_passes : (first later : List (Option Refusal)) → NoneRefuses (first ++ later) → NoneRefuses first
front_passes [] later h = tt
front_passes (check ∷ first) later h = (h.0, front_passes first later h.1)

-- ---- what checks decide
decided_first : {X : Type 0} (checks : List (Option Refusal)) (x : X) (why : Refusal) → decided checks x ≡ Err why → FirstRefusal checks why
decided_first [] x why e = let z : ◌≡◌ {A = ℕ} 0 1 = cc in omega arith
decided_first (None ∷ checks) x why e = decided_first checks x why e
decided_first (Some first ∷ checks) x why e = cc

decided_some : {X : Type 0} (checks : List (Option Refusal)) (x : X) → NoneRefuses checks → decided checks x ≡ Ok x
decided_some [] x h = refl
decided_some (None ∷ checks) x h = decided_some checks x h.1
decided_some (Some why ∷ checks) x h = absurd (let e = h.0 in let z : ◌≡◌ {A = ℕ} 0 1 = cc in omega arith)

pub decided_none : {X : Type 0} (checks : List (Option Refusal)) (x y : X) → decided checks x ≡ Ok y → NoneRefuses checks × (x ≡ y)
decided_none [] x y e = (tt, cc)
decided_none (None ∷ checks) x y e = let later = decided_none checks x y e in ((refl, later.0), later.1)
decided_none (Some why ∷ checks) x y e = absurd (let z : ◌≡◌ {A = ℕ} 0 1 = cc in omega arith)

decided_judged : {X : Type 0} (checks : List (Option Refusal)) (x : X) → Judged checks (decided checks x)
decided_judged {X} checks x = record { accepted_if_none_refuses = λ h. ap is_ok (decided_some checks x h); accepted_only_if_none_refuses = only (decided checks x) refl; refused_by_the_first = λ why e. decided_first checks x why e }
  where
    only : (told : Result X Refusal) → decided checks x ≡ told → is_ok told ≡ true → NoneRefuses checks
    only (Ok y) e h = (decided_none checks x y e).0
    only (Err why) e h = absurd (false≢true h)

-- ---- a step
pub step_judged : (s : State) (call : Call) → Judged (checks s call) (step s call).1
unfolding step
step_judged s call = by (decided (checks s call) (effect s call)) (decided_judged (checks s call) (effect s call))
  where
    by : (told : Result (State × Answer) Refusal) → Judged (checks s call) told → Judged (checks s call) (settled s told).1
    by (Ok x) h = record { accepted_if_none_refuses = h.accepted_if_none_refuses; accepted_only_if_none_refuses = h.accepted_only_if_none_refuses; refused_by_the_first = λ why e. absurd (let z : ◌≡◌ {A = ℕ} 0 1 = cc in omega arith) }
    by (Err first) h = record { accepted_if_none_refuses = h.accepted_if_none_refuses; accepted_only_if_none_refuses = h.accepted_only_if_none_refuses; refused_by_the_first = λ why e. h.refused_by_the_first why (let same : first ≡ why = cc in ap Err same) }

-- the state after a step is the state before, or the effect of a call that no check refuses
pub step_cases : (P : State → Type 0) (s : State) (call : Call) → P s → (NoneRefuses (checks s call) → P (effect s call).0) → P (step s call).0
unfolding step
step_cases P s call old new = by (checks s call) new
  where
    by : (cs : List (Option Refusal)) → (NoneRefuses cs → P (effect s call).0) → P (settled s (decided cs (effect s call))).0
    by [] new = new tt
    by (None ∷ cs) new = by cs (λ h. new (refl, h))
    by (Some why ∷ cs) new = old

pub call_laws : CallLaws
unfolding step begin
call_laws = record {
  begins_exactly_if_no_check_refuses = λ bank cards held collateral. decided_judged (begin_checks bank cards held collateral) _;
  accepted_exactly_if_no_check_refuses = step_judged;
  an_accepted_call_has_its_effect = λ s call h. ap (settled s) (decided_some (checks s call) (effect s call) ((step_judged s call).accepted_only_if_none_refuses h));
  a_refused_call_changes_nothing = λ s call. nothing s (decided (checks s call) (effect s call));
  margin_is_answered_and_changes_nothing = λ s. refl;
}
  where
    nothing : (s : State) (told : Result (State × Answer) Refusal) → is_ok (settled s told).1 ≡ false → (settled s told).0 ≡ s
    nothing s (Ok x) h = absurd (true≢false h)
    nothing s (Err why) h = refl
