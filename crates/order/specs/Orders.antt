-- Total orders, and the least item of a list with its first place.
use Rattle.std.specs.Prelude.{◌≡◌, ℕ, suc, ◌<◌, Bool, true, false, ◌⊎◌, List, [], ◌∷◌, length, Some, None, Option, MatchOption, slice_index_or}

-- a comparison under which any two items compare, which chains, and under which only an item itself ties with it
pub record TotalOrder {X : Type 0} (at_most : X → X → Bool) : Type 0 where
  pub total : (x y : X) → (at_most x y ≡ true) ⊎ (at_most y x ≡ true)
  pub transitive : (x y z : X) → at_most x y ≡ true → at_most y z ≡ true → at_most x z ≡ true
  pub antisymmetric : (x y : X) → at_most x y ≡ true → at_most y x ≡ true → x ≡ y

-- of an item and the least of those after it, the one that comes first; the item itself on a tie
abbrev pub lesser_of : {X : Type 0} → (X → X → Bool) → X × ℕ → Option (X × ℕ) → X × ℕ
lesser_of at_most item None = item
lesser_of at_most item (Some later) = elim (at_most item.0 later.0) [ true ↦ item | false ↦ later ]

-- the least item of a list whose places count from i
unfoldable pub least_from : {X : Type 0} → (X → X → Bool) → ℕ → List X → Option (X × ℕ)
least_from at_most i [] = None
least_from at_most i (x ∷ xs) = Some (lesser_of at_most (x, i) (least_from at_most (suc i) xs))

-- the least item of a list with its first place; none of an empty list
abbrev pub first_least : {X : Type 0} → (X → X → Bool) → List X → Option (X × ℕ)
first_least at_most xs = least_from at_most 0 xs

-- what makes an answer the least item and its first place: it is one of the items, none is less, and none before it is as good
abbrev pub IsFirstLeast : {X : Type 0} → (X → X → Bool) → List X → Option (X × ℕ) → Type 0
IsFirstLeast at_most xs r = MatchOption r (length xs ≡ 0) (λ found. (found.1 < length xs) × (found.0 ≡ slice_index_or xs found.1 found.0)
    × ((k : ℕ) → k < length xs → at_most found.0 (slice_index_or xs k found.0) ≡ true)
    × ((k : ℕ) → k < found.1 → at_most (slice_index_or xs k found.0) found.0 ≡ false))
