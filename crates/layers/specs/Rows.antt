-- What it is for a list to hold a row of results, or a row of choices.
use Rattle.std.specs.Prelude.{◌≡◌, ℕ, ◌<◌, ◌≤◌, List, length, ℤ, pos, None, Option, slice_index_or, unsigned_abs}

-- a list of this length holds the row's first i results, and none of its entries is larger than the size
pub record Holds (row : ℕ → ℤ) (size long i : ℕ) (xs : List ℤ) : Type 0 where
  pub length_is : length xs ≡ long
  pub so_far : (k : ℕ) → k < i → slice_index_or xs k (pos 0) ≡ row k
  pub sized : (k : ℕ) → unsigned_abs (slice_index_or xs k (pos 0)) ≤ size

-- a list of this length holds the first i of any kind of items
pub record HoldsFirst {A : Type 0} (none : A) (choice : ℕ → A) (long i : ℕ) (xs : List A) : Type 0 where
  pub length_is : length xs ≡ long
  pub so_far : (k : ℕ) → k < i → slice_index_or xs k none ≡ choice k

-- a list of this length holds the first i of the choices
abbrev pub HoldsChoices : {A : Type 0} → (ℕ → Option A) → ℕ → ℕ → List (Option A) → Type 0
HoldsChoices choice long i xs = HoldsFirst None choice long i xs

-- a list holds every item, and beyond its end stands the one that is none
abbrev pub ListsAll : {A : Type 0} → A → (ℕ → A) → List A → Type 0
ListsAll none choice xs = (k : ℕ) → slice_index_or xs k none ≡ choice k

-- a list holds every choice that is made, and none beyond its end
abbrev pub Lists : {A : Type 0} → (ℕ → Option A) → List (Option A) → Type 0
Lists choice xs = (k : ℕ) → slice_index_or xs k None ≡ choice k
