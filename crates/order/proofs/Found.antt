-- What is found from the back of a list is its least item with its first place.
use Rattle.std.proofs.Common.{◌≡◌, ℕ, zero, suc, ◌+◌, ◌<◌, Bool, true, false, List, [], ◌∷◌, length, get_or, Some, None, Option, sym, refl, ap, ◌∙◌, subst, ⊎_elim, suc-le-suc, zero-le, le_of_suc-le-suc, not-suc-le-zero, add-zero, arith, MatchOption}
use Rattle.std.proofs.lemmas.List.{get_or_default}
use Rattle.std.proofs.lemmas.Bool.{false≢true}
use Rattle.order.specs.Orders.{TotalOrder, lesser_of, least_from, first_least, IsFirstLeast}

module _ {X : Type 0} (at_most : X → X → Bool) where
  -- the j-th item of xs, whose places count from i, is its first least
  Found : ℕ → List X → X × ℕ → ℕ → Type 0
  Found i xs found j = (found.1 ≡ i + j) × (j < length xs) × (found.0 ≡ get_or xs j found.0)
      × ((k : ℕ) → k < length xs → at_most found.0 (get_or xs k found.0) ≡ true)
      × ((k : ℕ) → k < j → at_most (get_or xs k found.0) found.0 ≡ false)

module _ {X : Type 0} {at_most : X → X → Bool} (o : TotalOrder at_most) where
  itself : (x : X) → at_most x x ≡ true
  itself x = ⊎_elim (λ h. h) (λ h. h) (o.total x x)

  pub other_way : (x y : X) → at_most x y ≡ false → at_most y x ≡ true
  other_way x y h = ⊎_elim (λ t. absurd (false≢true (sym h ∙ t))) (λ t. t) (o.total x y)

  alone : (i : ℕ) (x : X) (xs : List X) → length xs ≡ 0 → Found at_most i (x ∷ xs) (x, i) 0
  unfolding Found
  alone i x xs none = (sym (add-zero i), suc-le-suc zero-le, refl, each, (λ k h. absurd (not-suc-le-zero h)))
    where
      each : (k : ℕ) → k < suc (length xs) → at_most x (get_or (x ∷ xs) k x) ≡ true
      each zero h = itself x
      each (suc k) h = absurd (not-suc-le-zero (subst (λ n. k < n) none (le_of_suc-le-suc h)))

  front : (i : ℕ) (x : X) (xs : List X) (later : X × ℕ) (j : ℕ) → at_most x later.0 ≡ true → Found at_most (suc i) xs later j → Found at_most i (x ∷ xs) (x, i) 0
  unfolding Found
  front i x xs later j less found = (sym (add-zero i), suc-le-suc zero-le, refl, each, (λ k h. absurd (not-suc-le-zero h)))
    where
      each : (k : ℕ) → k < suc (length xs) → at_most x (get_or (x ∷ xs) k x) ≡ true
      each zero h = itself x
      each (suc k) h = o.transitive x later.0 (get_or xs k x) less (rw (get_or_default xs k x later.0 (le_of_suc-le-suc h)) (found.3 k (le_of_suc-le-suc h)))

  behind : (i : ℕ) (x : X) (xs : List X) (later : X × ℕ) (j : ℕ) → at_most x later.0 ≡ false → Found at_most (suc i) xs later j → Found at_most i (x ∷ xs) later (suc j)
  unfolding Found
  behind i x xs later j more found = (omega (arith, found.0), suc-le-suc found.1, found.2, each, before)
    where
      each : (k : ℕ) → k < suc (length xs) → at_most later.0 (get_or (x ∷ xs) k later.0) ≡ true
      each zero h = other_way x later.0 more
      each (suc k) h = found.3 k (le_of_suc-le-suc h)

      before : (k : ℕ) → k < suc j → at_most (get_or (x ∷ xs) k later.0) later.0 ≡ false
      before zero h = more
      before (suc k) h = found.4 k (le_of_suc-le-suc h)

  from : (i : ℕ) (xs : List X) → MatchOption (least_from at_most i xs) (length xs ≡ 0) (λ found. (j : ℕ) × Found at_most i xs found j)
  unfolding least_from
  from i [] = refl
  from i (x ∷ xs) = add (least_from at_most (suc i) xs) (from (suc i) xs)
    where
      add : (rest : Option (X × ℕ)) → MatchOption rest (length xs ≡ 0) (λ found. (j : ℕ) × Found at_most (suc i) xs found j) → (j : ℕ) × Found at_most i (x ∷ xs) (lesser_of at_most (x, i) rest) j
      add None none = (0, alone i x xs none)
      add (Some later) (j, found) = go (at_most x later.0) refl
        where
          go : (b : Bool) → at_most x later.0 ≡ b → (j : ℕ) × Found at_most i (x ∷ xs) (elim b [ true ↦ (x, i) | false ↦ later ]) j
          go true e = (0, front i x xs later j e found)
          go false e = (suc j, behind i x xs later j e found)

  pub is_first_least : (xs : List X) → IsFirstLeast at_most xs (first_least at_most xs)
  unfolding Found
  is_first_least xs = places (least_from at_most 0 xs) (from 0 xs)
    where
      places : (r : Option (X × ℕ)) → MatchOption r (length xs ≡ 0) (λ found. (j : ℕ) × Found at_most 0 xs found j) → IsFirstLeast at_most xs r
      places None none = none
      places (Some found) (j, (e, within, read, less, first)) =
          let same : found.1 ≡ j = omega (arith, e) in
          (omega arith, read ∙ ap (λ k. get_or xs k found.0) (sym same), less, (λ k h. first k (omega arith)))
