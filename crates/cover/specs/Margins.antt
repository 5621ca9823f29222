-- What is blocked for a book at a bank's prices.
use Rattle.std.specs.Prelude.{ℕ, List, ℤ}
use Rattle.banks.specs.Meanings.{Meaning}
use Rattle.margin.specs.Book.{Cards, Book}
use Rattle.margin.specs.Cells.{cells}
use Rattle.margin.specs.Layers.{costliest}
use Rattle.margin.specs.Worlds.{World}
use Rattle.margin.specs.HandedOut.{handed_out}
use Rattle.margin.specs.LeastCover.{margin, LeastCover, WorstWorld}
use Rattle.margin.specs.Lowest.{LowestChosen}
use Rattle.layers.specs.Families.{each_worst, each_loss}
use Rattle.cells.specs.Grids.{last_of}

module _ (bank : Meaning) (cards : Cards) (book : Book) where
  abbrev pub amount_for : ℕ
  amount_for = margin (last_of bank) bank.price cards book

  abbrev pub cells_for : ℕ → ℕ → ℕ → ℤ
  cells_for = cells (last_of bank) bank.price cards book

  -- what every family that there may be loses, and the worst of its row with its first point
  abbrev pub losses_for : List ℕ
  losses_for = each_loss (last_of bank) cards cells_for

  abbrev pub worsts_for : List (ℤ × ℕ)
  worsts_for = each_worst (last_of bank) cards cells_for

  abbrev pub costliest_for : ℕ
  costliest_for = costliest (last_of bank) cards cells_for

  abbrev pub world_for : World
  world_for = handed_out (last_of bank) bank.price cards book

  abbrev pub LeastCoverFor : Type 0
  LeastCoverFor = LeastCover (last_of bank) bank.price cards book

  abbrev pub WorstFor : World → Type 0
  WorstFor w = WorstWorld (last_of bank) bank.price cards book w

  abbrev pub LowestFor : World → Type 0
  LowestFor w = LowestChosen (last_of bank) bank.price cards book w
