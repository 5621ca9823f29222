-- What lets checks pass, what passed, and the law of what is made where all pass.
use Rattle.std.proofs.Common.{◌≡◌, ℕ, Bool, true, false, Some, None, Ok, Err, Option, Result, sym, refl, ap, ◌∙◌, arith}
use Rattle.std.proofs.lemmas.Bool.{false≢true}
use Rattle.terms.specs.declared.refusal.Refusal.{Refusal}
use Rattle.terms.specs.Checks.{unless, refused_at, before}

pub err_is_ok : {X : Type 0} (why : Refusal) (x : X) → ◌≡◌ {A = Result X Refusal} (Err why) (Ok x) → ⊥
err_is_ok why x e = let z : ◌≡◌ {A = ℕ} 0 1 = cc in omega arith

-- ---- what lets a check pass

module _ {X : Type 0} (rest : Result X Refusal) where
  pub pass_unless : (b : Bool) (why : Refusal) → b ≡ true → before (unless b why) rest ≡ rest
  pass_unless b why e = ap (λ t. before (unless t why) rest) e

  pub pass_places : (place : Option ℕ) (why : ℕ → Refusal) → place ≡ None → before (refused_at why place) rest ≡ rest
  pass_places place why e = ap (λ p. before (refused_at why p) rest) e

-- ---- what passed

-- a test that a check passed
pub passed_unless : {X : Type 0} (b : Bool) (why : Refusal) (rest : Result X Refusal) (x : X) → before (unless b why) rest ≡ Ok x → (b ≡ true) × (rest ≡ Ok x)
passed_unless true why rest x e = (refl, e)
passed_unless false why rest x e = absurd (err_is_ok why x e)

-- a place that a check did not find
pub passed_places : {X : Type 0} (place : Option ℕ) (why : ℕ → Refusal) (rest : Result X Refusal) (x : X) → before (refused_at why place) rest ≡ Ok x → (place ≡ None) × (rest ≡ Ok x)
passed_places None why rest x e = (refl, e)
passed_places (Some k) why rest x e = absurd (err_is_ok (why k) x e)

-- ---- the law of a constructor: its checks pass exactly when it may make something

module _ {X : Type 0} (judged : Result X Refusal) (May : X → Type 0) (passes : (x : X) → judged ≡ Ok x → May x) (allowed : (x : X) → May x → judged ≡ Ok x) where
  pub law_made : (x : X) → judged ≡ Ok x → ((x : X) × May x → true ≡ true) × (true ≡ true → (x : X) × May x)
  law_made x e = ((λ _. refl), (λ _. (x, passes x e)))

  pub law_refused : (why : Refusal) → judged ≡ Err why → ((x : X) × May x → false ≡ true) × (false ≡ true → (x : X) × May x)
  law_refused why e =
      ((λ may. absurd (err_is_ok why may.0 (sym e ∙ allowed may.0 may.1))), (λ made. absurd (false≢true made)))
