-- The first place that fails a test is the place at which an iterator's `position` finds the test's opposite.
use Rattle.std.proofs.Common.{◌≡◌, ℕ, suc, ◌+◌, Bool, true, false, not, cond, List, [], ◌∷◌, Some, Option, position, refl, ap, ◌∙◌, add-one}
use Rattle.std.proofs.lemmas.Iterator.Adapters.{position_from-zero}
use Rattle.std.specs.List.{position_from, enumerate_from}
use Rattle.terms.specs.Judging.{failing}

-- one item more in front
step : {X : Type 0} (test : ℕ → X → Bool) (i : ℕ) (x : X) (xs : List X) (rest : Option ℕ) → rest ≡ failing test (i + 1) xs → cond (not (test i x)) (Some i) rest ≡ failing test i (x ∷ xs)
unfolding failing
step test i x xs rest e = go (test i x)
  where
    go : (b : Bool) → cond (not b) (Some i) rest ≡ elim b [ true ↦ failing test (suc i) xs | false ↦ Some i ]
    go true = e ∙ ap (λ n. failing test n xs) (add-one i)
    go false = refl

module _ {X : Type 0} (test : ℕ → X → Bool) where
  placed_from : (i : ℕ) (xs : List X) → position_from {K = ℕ × X} (λ p. not (test p.0 p.1)) i (enumerate_from i xs) ≡ failing test i xs
  unfolding failing
  placed_from i [] = refl
  placed_from i (x ∷ xs) = step test i x xs _ (placed_from (i + 1) xs)

  pub failing_enumerated : (xs : List X) (found : Option ℕ) → found ≡ position {X = ℕ × X} (λ p. not (test p.0 p.1)) (enumerate_from 0 xs) → found ≡ failing test 0 xs
  failing_enumerated xs found e =
      e ∙ position_from-zero (λ p. not (test p.0 p.1)) (enumerate_from 0 xs) ∙ placed_from 0 xs
