-- The two families that there may be: the worst of each row with its first point, and what each loses.
use Rattle.std.specs.Prelude.{ℕ, List, [], ◌∷◌, ℤ}
use Rattle.margin.specs.Book.{Cards}
use Rattle.margin.specs.Layers.{family_worst, family_loss}

module _ (last : ℕ) (cards : Cards) (cells : ℕ → ℕ → ℕ → ℤ) where
  abbrev pub each_worst : List (ℤ × ℕ)
  each_worst = family_worst last cards cells 0 ∷ family_worst last cards cells 1 ∷ []

  abbrev pub each_loss : List ℕ
  each_loss = family_loss last cards cells 0 ∷ family_loss last cards cells 1 ∷ []
