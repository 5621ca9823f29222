-- The first place at which a list fails a test.
use Rattle.std.specs.Prelude.{ℕ, suc, Bool, true, false, List, [], ◌∷◌, Some, None, Option}

-- the first place at which a list fails a test of places and items, counted from i
unfoldable pub failing : {X : Type 0} → (ℕ → X → Bool) → ℕ → List X → Option ℕ
failing test i [] = None
failing test i (x ∷ xs) = elim (test i x) [ true ↦ failing test (suc i) xs | false ↦ Some i ]
