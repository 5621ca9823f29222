-- What a price bank means: one half, one number of lines, one reach, and one whole number of grains for each scenario cell.
use Rattle.std.specs.Prelude.{◌≡◌, ℕ, ◌≤◌, min, max, Bool, true, false, ◌&&◌, ℤ, pos, nat_le, nat_lt, unsigned_abs}
use Rattle.terms.specs.Halves.{points}
use Rattle.terms.specs.declared.half.Half.{Half}

-- money is counted in grains, of which a kopeck has 80,000
abbrev pub grains : ℕ
grains = 80000

-- the scenario columns: 0 to 2 are volatility curves, 3 and 4 moves of the rate curve, 5 and 6 its twists
abbrev pub columns : ℕ
columns = 7

-- the most lines that a bank may have
abbrev pub most_lines : ℕ
most_lines = 16

-- the largest reach that a bank may have, in grains
abbrev pub most_reach : ℕ
most_reach = 2000000000000

pub record Meaning : Type 0 where
  pub half : Half
  pub lines : ℕ
  pub reach : ℕ
  -- the price of one contract of a line at a point and in a column
  pub price : ℕ → ℕ → ℕ → ℤ

-- whether a cell lies on the grid of so many lines
abbrev pub on_grid : Half → ℕ → ℕ → ℕ → ℕ → Bool
on_grid half lines line point column = nat_lt line lines && (nat_lt point (points half) && nat_lt column columns)

-- prices as given on the grid, and 0 outside it
abbrev pub gridded : Half → ℕ → (ℕ → ℕ → ℕ → ℤ) → ℕ → ℕ → ℕ → ℤ
gridded half lines prices line point column = elim (on_grid half lines line point column) [ true ↦ prices line point column | false ↦ pos 0 ]

-- a size that passes a bound reads as 0
abbrev pub capped : ℕ → ℤ → ℤ
capped most size = elim (nat_le (unsigned_abs size) most) [ true ↦ size | false ↦ pos 0 ]

-- any number as a number of lines: at least 1, and at most as many as a bank may have
abbrev pub as_lines : ℕ → ℕ
as_lines n = max 1 (min most_lines n)

-- a meaning as its parts say it
abbrev pub exactly : Half → ℕ → ℕ → (ℕ → ℕ → ℕ → ℤ) → Meaning
exactly half lines reach prices = record { half = half; lines = lines; reach = reach; price = gridded half lines prices }

-- any parts made a bank's meaning: the count is read as a number of lines, the reach is cut at the bound, and a price beyond the reach reads as 0
abbrev pub bounded : Half → ℕ → ℕ → (ℕ → ℕ → ℕ → ℤ) → Meaning
bounded half count reach prices = exactly half (as_lines count) (min most_reach reach) (λ line point column. capped (min most_reach reach) (prices line point column))

-- what every bank owes: 1 to 16 lines, a reach within the bound, no price beyond the reach, and 0 outside the grid
pub record Sound (m : Meaning) : Type 0 where
  pub some_line : 1 ≤ m.lines
  pub few_lines : m.lines ≤ most_lines
  pub small_reach : m.reach ≤ most_reach
  pub within_reach : (line point column : ℕ) → unsigned_abs (m.price line point column) ≤ m.reach
  pub outside : (line point column : ℕ) → on_grid m.half m.lines line point column ≡ false → m.price line point column ≡ pos 0
