-- What the margin is, in terms of worlds.
use Rattle.std.specs.Prelude.{◌≡◌, ℕ, ◌*◌, ◌≤◌, ℤ, pos, ◌≤ℤ◌}
use Rattle.margin.specs.Book.{Cards, Book}
use Rattle.margin.specs.Cells.{cells}
use Rattle.margin.specs.Layers.{grains, margin_of}
use Rattle.margin.specs.Worlds.{World, IsWorld, loss}
use Rattle.margin.specs.HandedOut.{handed_out}

module _ (last : ℕ) (price : ℕ → ℕ → ℕ → ℤ) (cards : Cards) (book : Book) where
  -- the margin of a book, in kopecks
  unfoldable pub margin : ℕ
  margin = margin_of last cards (cells last price cards book)

  -- an amount in kopecks covers the book if no world's loss exceeds it
  abbrev pub Covers : ℕ → Type 0
  Covers amount = (w : World) → IsWorld last cards w → loss last price cards book w ≤ℤ pos (80000 * amount)

  pub record LeastCover : Type 0 where
    pub covers : Covers margin
    pub least_that_covers : (amount : ℕ) → Covers amount → margin ≤ amount
    pub handed_out_is_a_world : IsWorld last cards (handed_out last price cards book)
    pub no_world_loses_more : (w : World) → IsWorld last cards w → loss last price cards book w ≤ℤ loss last price cards book (handed_out last price cards book)

  -- a world in which the book loses most: all that the families lose, before it is rounded
  pub record WorstWorld (w : World) : Type 0 where
    pub is_a_world : IsWorld last cards w
    pub none_loses_more : (other : World) → IsWorld last cards other → loss last price cards book other ≤ℤ loss last price cards book w
    pub loses_all : loss last price cards book w ≡ pos (grains last cards (cells last price cards book))

-- for every grid, prices, cards and book
abbrev pub MarginIsTheLeastCover : Type 0
MarginIsTheLeastCover = (last : ℕ) (price : ℕ → ℕ → ℕ → ℤ) (cards : Cards) (book : Book) → LeastCover last price cards book

-- for any cells: where no cell falls, the margin does not rise
abbrev pub MarginFallsAsCellsRise : Type 0
MarginFallsAsCellsRise = (last : ℕ) (cards : Cards) (lower higher : ℕ → ℕ → ℕ → ℤ) → ((m p k : ℕ) → lower m p k ≤ℤ higher m p k) → margin_of last cards higher ≤ margin_of last cards lower
