-- Layers: banks over other banks.
use Rattle.std.specs.Prelude.{◌≡◌, ℕ, ◌+◌, ◌-◌, ◌*◌, ◌≤◌, min, max, true, false, [], ◌∷◌, ℤ, pos, ◌*ℤ◌, Result, ◌==◌, nat_le, nat_lt, unsigned_abs}
use Rattle.terms.specs.Cards.{within}
use Rattle.terms.specs.Halves.{half_size}
use Rattle.terms.specs.declared.refusal.Refusal.{Refusal}
use Rattle.terms.specs.declared.refusal.Refusal.TheVariants.{WrongShape, BadQuantity, ReachTooLarge}
use Rattle.banks.specs.Meanings.{Meaning, capped, exactly, most_lines, most_reach}
use Rattle.terms.specs.Checks.{unless, decided}
use Rattle.banks.specs.Outcomes.{making}

-- ---- a pair: two banks of equal half side by side

-- the first bank's lines come first
abbrev pub side_by_side : Meaning → Meaning → ℕ → ℕ → ℕ → ℤ
side_by_side a b line point column = elim (nat_lt line a.lines) [ true ↦ a.price line point column | false ↦ b.price (line - a.lines) point column ]

-- two banks on a grid of so many lines
abbrev pub paired : ℕ → Meaning → Meaning → Meaning
paired lines a b = exactly a.half lines (max a.reach b.reach) (side_by_side a b)

abbrev pub pair_of : Meaning → Meaning → Meaning
pair_of a b = paired (a.lines + b.lines) a b

-- 6: unequal halves, or more lines than a bank may have
abbrev pub pair_made : Meaning → Meaning → Result Meaning Refusal
pair_made a b = decided (unless (half_size a.half == half_size b.half) WrongShape ∷ unless (nat_le (a.lines + b.lines) most_lines) WrongShape ∷ []) (pair_of a b)

-- when two banks may be paired
pub record MayPair (a b : Meaning) : Type 0 where
  pub same_half : a.half ≡ b.half
  pub few_lines : a.lines + b.lines ≤ most_lines

-- any two banks, paired or not yet: the lines are cut at the most that a bank may have
abbrev pub pair_meaning : Meaning → Meaning → Meaning
pair_meaning a b = paired (min most_lines (a.lines + b.lines)) a b

-- ---- a scale: every price, and the reach, times a factor

abbrev pub scale_of : ℕ → Meaning → Meaning
scale_of factor m = record { half = m.half; lines = m.lines; reach = factor * m.reach; price = λ line point column. pos factor *ℤ m.price line point column }

-- 9: a factor that is not 1 to 100; 7: a reach over the bound
abbrev pub scale_judged : ℤ → ℕ → Result ℕ Refusal
scale_judged factor reach = decided (unless (within (pos 1) (pos 100) factor) BadQuantity ∷ unless (nat_le (unsigned_abs factor * reach) most_reach) ReachTooLarge ∷ []) (unsigned_abs factor)

abbrev pub scale_made : ℤ → Meaning → Result Meaning Refusal
scale_made factor m = making (scale_judged factor m.reach) (λ f. scale_of f m)

-- what makes a number the factor of a scale
pub record Scales (factor : ℤ) (m : Meaning) (size : ℕ) : Type 0 where
  pub sized : unsigned_abs factor ≡ size
  pub in_range : within (pos 1) (pos 100) factor ≡ true
  pub small_reach : size * m.reach ≤ most_reach

-- when a bank may be scaled
abbrev pub MayScale : ℤ → Meaning → Type 0
MayScale factor m = (size : ℕ) × Scales factor m size

-- any bank under any factor: the reach is cut at the bound, and a price beyond it reads as 0
abbrev pub scale_meaning : ℕ → Meaning → Meaning
scale_meaning factor m = record { half = m.half; lines = m.lines; reach = min most_reach (factor * m.reach); price = λ line point column. capped most_reach (pos factor *ℤ m.price line point column) }
