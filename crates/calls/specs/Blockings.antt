-- What is blocked for a book, part by part.
use Rattle.std.specs.Prelude.{◌≡◌, ℕ, true, false, List, ℤ, pos, Some, None, Option, nat_lt, slice_index, slice_index_or}
use Rattle.banks.specs.Meanings.{Meaning}
use Rattle.margin.specs.Book.{Cards, Book}
use Rattle.margin.specs.Worlds.{listed_world}
use Rattle.cover.specs.declared.Blocked.{Blocked}
use Rattle.calls.specs.declared.answer.FamilyWorst.{FamilyWorst}
use Rattle.cover.specs.Margins.{amount_for, losses_for, worsts_for, costliest_for, world_for}

pub record BlockedFor (bank : Meaning) (cards : Cards) (book : Book) (b : Blocked) : Type 0 where
  pub amount_is : b.amount ≡ amount_for bank cards book
  pub losses_are : b.losses ≡ losses_for bank cards book
  pub worsts_are : b.worsts ≡ worsts_for bank cards book
  pub costliest_is : b.costliest ≡ costliest_for bank cards book
  pub world_is : listed_world b.world ≡ world_for bank cards book

-- a family of so many, if there is one of that number: what it loses, and the first point of its worst
abbrev pub family_in : List ℕ → List (ℤ × ℕ) → ℕ → ℕ → Option FamilyWorst
family_in losses worsts count f = elim (nat_lt f count) [ true ↦ Some (record { loss = slice_index losses f; point = (slice_index_or worsts f (pos 0, 0)).1 }) | false ↦ None ]
