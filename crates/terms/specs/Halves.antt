-- The half of a scenario grid, its size and its points.
use Rattle.std.specs.Prelude.{ℕ, ◌+◌, ◌*◌, true, false, ℤ, pos, negsuc, Some, None, Option, ◌==◌}
use Rattle.terms.specs.declared.half.Half.{Half}
use Rattle.terms.specs.declared.half.Half.TheVariants.{One, Two, Four, Eight}

abbrev pub half_size : Half → ℕ
half_size One = 1
half_size Two = 2
half_size Four = 4
half_size Eight = 8

-- the points of a grid are 0 to twice its half
abbrev pub points : Half → ℕ
points h = 2 * half_size h + 1

-- 8 ÷ the half
abbrev pub steps_of : Half → ℕ
steps_of One = 8
steps_of Two = 4
steps_of Four = 2
steps_of Eight = 1

-- the half of a size, if a grid has that size
abbrev pub half_of : ℤ → Option Half
half_of (negsuc n) = None
half_of (pos n) = elim (n == 1) [ true ↦ Some One | false ↦ elim (n == 2) [ true ↦ Some Two | false ↦ elim (n == 4) [ true ↦ Some Four | false ↦ elim (n == 8) [ true ↦ Some Eight | false ↦ None ] ] ] ]
