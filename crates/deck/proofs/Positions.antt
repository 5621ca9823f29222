-- Whether all that stands before a place passes a test.
use Rattle.std.proofs.Common.{◌≡◌, ℕ, zero, suc, ◌+◌, ◌≤◌, Bool, true, false, ◌&&◌, leb, List, [], ◌∷◌, take, Some, None, Option, sym, refl, ap, ◌∙◌, add-suc, suc-add, zero-add, arith}
use Rattle.std.proofs.lemmas.Bool.{le-leb, lt-leb}
use Rattle.std.specs.List.{list_all}
use Rattle.terms.specs.Judging.{failing}

module _ {X : Type 0} (test : X → Bool) where
  -- whether all that stands before a place passes
  reached : (i j : ℕ) (xs : List X) → j ≤ i → elim (failing (λ _. test) i xs) [ None ↦ true | Some earliest ↦ leb j earliest ] ≡ true
  unfolding failing
  reached i j [] h = refl
  reached i j (x ∷ xs) h = go (reached (suc i) j xs (omega arith)) (test x)
    where
      go : elim (failing (λ _. test) (suc i) xs) as (λ _. Bool) [ None ↦ true | Some earliest ↦ leb j earliest ] ≡ true → (b : Bool) → elim (elim b as (λ _. Option ℕ) [ true ↦ failing (λ _. test) (suc i) xs | false ↦ Some i ]) as (λ _. Bool) [ None ↦ true | Some earliest ↦ leb j earliest ] ≡ true
      go later true = later
      go later false = le-leb j i h

  passing_from : (i place : ℕ) (xs : List X) → list_all test (take place xs) ≡ elim (failing (λ _. test) i xs) [ None ↦ true | Some earliest ↦ leb (i + place) earliest ]
  unfolding failing
  passing_from i zero xs = sym (reached i (i + 0) xs (omega arith))
  passing_from i (suc place) [] = refl
  passing_from i (suc place) (x ∷ xs) = go (passing_from (suc i) place xs) (test x)
    where
      go : list_all test (take place xs) ≡ elim (failing (λ _. test) (suc i) xs) as (λ _. Bool) [ None ↦ true | Some earliest ↦ leb (suc i + place) earliest ] → (b : Bool) → (b && list_all test (take place xs)) ≡ elim (elim b as (λ _. Option ℕ) [ true ↦ failing (λ _. test) (suc i) xs | false ↦ Some i ]) as (λ _. Bool) [ None ↦ true | Some earliest ↦ leb (i + suc place) earliest ]
      go later true = later ∙ ap (λ n. elim (failing (λ _. test) (suc i) xs) [ None ↦ true | Some earliest ↦ leb n earliest ]) (suc-add i place ∙ sym (add-suc i place))
      go later false = sym (lt-leb (i + suc place) i (omega arith))

  pub passing_before : (place : ℕ) (xs : List X) → list_all test (take place xs) ≡ elim (failing (λ _. test) 0 xs) [ None ↦ true | Some earliest ↦ leb place earliest ]
  passing_before place xs = passing_from 0 place xs ∙ ap (λ n. elim (failing (λ _. test) 0 xs) [ None ↦ true | Some earliest ↦ leb n earliest ]) (zero-add place)
