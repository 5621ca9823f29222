-- The first place at which a list fails a test: what it means that there is none.
use Rattle.std.proofs.Common.{◌≡◌, ℕ, zero, suc, ◌+◌, ◌<◌, Bool, true, false, List, [], ◌∷◌, length, get_or, Some, None, Option, sym, refl, ap, ◌∙◌, subst, suc-le-suc, zero-le, le_of_suc-le-suc, not-suc-le-zero, add-zero, add-suc, suc-add, zero-add, arith}
use Rattle.terms.specs.Judging.{failing}

pub some_is_none : (i : ℕ) → ◌≡◌ {A = Option ℕ} (Some i) None → ⊥
some_is_none i e = let z : ◌≡◌ {A = ℕ} 0 1 = cc in omega arith

module _ {X : Type 0} (test : ℕ → X → Bool) (d : X) where
  all_from : (i : ℕ) (xs : List X) → ((k : ℕ) → k < length xs → test (i + k) (get_or xs k d) ≡ true) → failing test i xs ≡ None
  unfolding failing
  all_from i [] each = refl
  all_from i (x ∷ xs) each =
      ap (λ b. elim b [ true ↦ failing test (suc i) xs | false ↦ Some i ]) (subst (λ n. test n x ≡ true) (add-zero i) (each 0 (suc-le-suc zero-le)))
      ∙ all_from (suc i) xs (λ k h. subst (λ n. test n (get_or xs k d) ≡ true) (add-suc i k ∙ sym (suc-add i k)) (each (suc k) (suc-le-suc h)))

  none_from : (i : ℕ) (xs : List X) → failing test i xs ≡ None → (k : ℕ) → k < length xs → test (i + k) (get_or xs k d) ≡ true
  unfolding failing
  none_from i [] none k h = absurd (not-suc-le-zero h)
  none_from i (x ∷ xs) none k h = go (none_from (suc i) xs) (test i x) refl none k h
    where
      go : (failing test (suc i) xs ≡ None → (k : ℕ) → k < length xs → test (suc i + k) (get_or xs k d) ≡ true) → (b : Bool) → test i x ≡ b → ◌≡◌ {A = Option ℕ} (elim b [ true ↦ failing test (suc i) xs | false ↦ Some i ]) None → (k : ℕ) → k < suc (length xs) → test (i + k) (get_or (x ∷ xs) k d) ≡ true
      go later true e rest zero h = subst (λ n. test n x ≡ true) (sym (add-zero i)) e
      go later true e rest (suc k) h =
          subst (λ n. test n (get_or xs k d) ≡ true) (suc-add i k ∙ sym (add-suc i k)) (later rest k (le_of_suc-le-suc h))
      go later false e rest k h = absurd (some_is_none i rest)

  -- none fails exactly when each passes
  pub all_pass : (xs : List X) → ((k : ℕ) → k < length xs → test k (get_or xs k d) ≡ true) → failing test 0 xs ≡ None
  all_pass xs each = all_from 0 xs (λ k h. subst (λ n. test n (get_or xs k d) ≡ true) (sym (zero-add k)) (each k h))

  pub none_fails : (xs : List X) → failing test 0 xs ≡ None → (k : ℕ) → k < length xs → test k (get_or xs k d) ≡ true
  none_fails xs none k h = subst (λ n. test n (get_or xs k d) ≡ true) (zero-add k) (none_from 0 xs none k h)
