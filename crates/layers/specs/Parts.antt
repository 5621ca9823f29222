-- What a basket adds up over its months.
use Rattle.std.specs.Prelude.{ℕ, ℤ, pos}
use Rattle.std.specs.Int.{int_min}
use Rattle.margin.specs.Layers.{curve_result, month_result}
use Rattle.layers.specs.declared.part.Part.{Part}
use Rattle.layers.specs.declared.part.Part.TheVariants.{Column, Curves, Losses}

abbrev pub part_of : Part → (ℕ → ℕ → ℕ → ℤ) → ℕ → ℕ → ℤ
part_of (Column k) cells m p = cells m p k
part_of Curves cells m p = curve_result cells m p
part_of Losses cells m p = int_min (pos 0) (month_result cells m p)
