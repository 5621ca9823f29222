-- Checks: each refuses or lets pass, and the first that refuses decides.
use Rattle.std.specs.Prelude.{◌≡◌, ℕ, Bool, true, false, List, [], ◌∷◌, is_ok, Some, None, Ok, Err, Option, Result}
use Rattle.terms.specs.declared.refusal.Refusal.{Refusal}

-- a check that refuses where a test fails
abbrev pub unless : Bool → Refusal → Option Refusal
unless true why = None
unless false why = Some why

-- a check that refuses at a place, if there is one
abbrev pub refused_at : (ℕ → Refusal) → Option ℕ → Option Refusal
refused_at why None = None
refused_at why (Some place) = Some (why place)

-- a check that goes before all that follows
abbrev pub before : {X : Type 0} → Option Refusal → Result X Refusal → Result X Refusal
before None rest = rest
before (Some why) rest = Err why

-- checks run in their order, and the first that refuses decides
abbrev pub decided : {X : Type 0} → List (Option Refusal) → X → Result X Refusal
decided [] x = Ok x
decided (check ∷ checks) x = before check (decided checks x)

-- something is made exactly when it may be
abbrev pub MadeExactlyWhen : {B : Type 0} → Result B Refusal → Type 0 → Type 0
MadeExactlyWhen r allowed = (allowed → is_ok r ≡ true) × (is_ok r ≡ true → allowed)
