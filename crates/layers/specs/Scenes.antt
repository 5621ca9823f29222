-- What the program reads the layers from: cards and a table of cells.
use Rattle.std.specs.Prelude.{◌≡◌, ℕ, ◌^◌, ◌<◌, ◌≤◌, true, false, List, [], ◌∷◌, length, get_or, ℤ, pos, Option, slice_index_or, unsigned_abs}
use Rattle.std.specs.Int.{int_min}
use Rattle.margin.specs.Book.{Cards, named, month, netted_family, window_of}
use Rattle.margin.specs.Cells.{gridded}
use Rattle.margin.specs.Layers.{basket_result, worst_within, family_worst}
use Rattle.margin.specs.HandedOut.{up_to, family_point, basket_point, month_kept}
use Rattle.margin.specs.declared.choice.Kept.{Kept}
use Rattle.layers.specs.Rows.{Holds}
use Rattle.layers.specs.Tables.{place_of}
use Rattle.layers.specs.declared.scene.Scene.{Scene}

abbrev pub cards_of : Scene → Cards
cards_of s = record { families = s.families.now; baskets = s.baskets.now; months = s.months.now; lines = s.lines.now; futures = s.futures }

unfoldable pub cells_of : Scene → ℕ → ℕ → ℕ → ℤ
cells_of s = gridded s.last (length s.months.now) (λ m point column. get_or s.cells.now (place_of m point column) (pos 0))

-- what a layer comes to in a scene
abbrev pub in_scene : {X : Type 0} → (ℕ → Cards → (ℕ → ℕ → ℕ → ℤ) → X) → Scene → X
in_scene layer s = layer s.last (cards_of s) (cells_of s)

-- as many cards as an account may have, and a table with room for their cells, none of which is larger than the bound
pub record Fits (s : Scene) : Type 0 where
  pub few_families : length s.families.now ≤ 2
  pub few_baskets : length s.baskets.now ≤ 4
  pub few_months : length s.months.now ≤ 8
  pub few_points : s.last ≤ 16
  pub room : length s.cells.now ≡ 952
  pub bounded : (i : ℕ) → unsigned_abs (slice_index_or s.cells.now i (pos 0)) ≤ 2 ^ 70

-- a row that holds a basket's results at 17 points
abbrev pub HoldsBasket : Scene → ℕ → List ℤ → Type 0
HoldsBasket s b row = Holds (basket_result (cards_of s) (cells_of s) b) (2 ^ 76) 17 17 row

-- rows that hold the results of every basket at 17 points
abbrev pub HoldsBaskets : Scene → List (List ℤ) → Type 0
HoldsBaskets s rows = (length rows ≡ 4) × ((b : ℕ) → b < 4 → HoldsBasket s b (slice_index_or rows b []))

-- what a basket gives to its family at a point
abbrev pub basket_part : Scene → ℕ → ℕ → ℕ → ℤ
basket_part s f p b = elim (netted_family (cards_of s) f) [ true ↦ (worst_within s.last (cards_of s) (cells_of s) (window_of (cards_of s) f) b p).0 | false ↦ int_min (pos 0) (basket_result (cards_of s) (cells_of s) b p) ]

-- the worst of every family's row that there may be
abbrev pub worsts_of : Scene → List (ℤ × ℕ)
worsts_of s = family_worst s.last (cards_of s) (cells_of s) 0 ∷ family_worst s.last (cards_of s) (cells_of s) 1 ∷ []

-- ---- the world handed out
abbrev pub family_choice : Scene → ℕ → Option ℕ
family_choice s = up_to (length s.families.now) (family_point s.last (cards_of s) (cells_of s))

abbrev pub basket_choice : Scene → ℕ → Option ℕ
basket_choice s = up_to (length s.baskets.now) (basket_point s.last (cards_of s) (cells_of s))

abbrev pub month_choice : Scene → ℕ → Option Kept
month_choice s = up_to (length s.months.now) (month_kept s.last (cards_of s) (cells_of s))

-- each month names one of the baskets that there may be
abbrev pub NamesBaskets : Scene → Type 0
NamesBaskets s = (m : ℕ) → m < length s.months.now → named (month (cards_of s) m).basket < 4
