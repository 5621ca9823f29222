-- Proofs that what `bounded`, a pair and a scale make of any parts is what every bank owes.
use Rattle.std.specs.Prelude.{◌≡◌, ℕ, zero, suc, ◌+◌, ◌-◌, ◌*◌, ◌≤◌, min, max, Bool, true, false, ℤ, pos, negsuc, ◌*ℤ◌, neg_ℤ, nat_le, nat_lt, unsigned_abs, refl}
use Rattle.std.proofs.Common.{ap, ◌∙◌, zero-le, le_refl, le_trans, mul-le-mul_left, arith}
use Rattle.std.proofs.Math.IntN.{*ℤ-zero}
use Rattle.std.proofs.lemmas.Bool.{leb-true, le-leb}
use Rattle.terms.specs.declared.half.Half.{Half}
use Rattle.banks.specs.Meanings.{Meaning, Sound, on_grid, gridded, capped, bounded, as_lines, most_reach, most_lines}
use Rattle.banks.specs.Layers.{side_by_side, pair_meaning, scale_meaning}

-- ---- sizes of integers

pub size_neg : (n : ℕ) → unsigned_abs (neg_ℤ (pos n)) ≡ n
size_neg zero = refl
size_neg (suc n) = refl

pub size_product : (a b : ℤ) → unsigned_abs (a *ℤ b) ≡ unsigned_abs a * unsigned_abs b
size_product (pos a) (pos b) = refl
size_product (pos a) (negsuc b) = size_neg (a * suc b)
size_product (negsuc a) (pos b) = size_neg (suc a * b)
size_product (negsuc a) (negsuc b) = refl

-- ---- what the grid's edge and a cap do to prices

module _ (half : Half) (lines : ℕ) (prices : ℕ → ℕ → ℕ → ℤ) where
  pub grid_size : (most : ℕ) → ((line point column : ℕ) → unsigned_abs (prices line point column) ≤ most) → (line point column : ℕ) → unsigned_abs (gridded half lines prices line point column) ≤ most
  grid_size most each line point column = elim (on_grid half lines line point column) as (λ on. unsigned_abs (elim on [ true ↦ prices line point column | false ↦ pos 0 ]) ≤ most) [ true ↦ each line point column | false ↦ zero-le ]

  pub grid_outside : (line point column : ℕ) → on_grid half lines line point column ≡ false → gridded half lines prices line point column ≡ pos 0
  grid_outside line point column off = ap (λ on. elim on [ true ↦ prices line point column | false ↦ pos 0 ]) off

pub cap_size : (most : ℕ) (price : ℤ) → unsigned_abs (capped most price) ≤ most
cap_size most price = go (nat_le (unsigned_abs price) most) refl
  where
    go : (b : Bool) → nat_le (unsigned_abs price) most ≡ b → unsigned_abs (elim b [ true ↦ price | false ↦ pos 0 ]) ≤ most
    go true fits = leb-true (unsigned_abs price) most fits
    go false over = zero-le

pub cap_shrinks : (most : ℕ) (price : ℤ) → unsigned_abs (capped most price) ≤ unsigned_abs price
cap_shrinks most price = elim (nat_le (unsigned_abs price) most) as (λ b. unsigned_abs (elim b [ true ↦ price | false ↦ pos 0 ]) ≤ unsigned_abs price) [ true ↦ le_refl (unsigned_abs price) | false ↦ zero-le ]

pub cap_keeps : (most : ℕ) (price : ℤ) → unsigned_abs price ≤ most → capped most price ≡ price
cap_keeps most price fits = ap (λ b. elim b [ true ↦ price | false ↦ pos 0 ]) (le-leb (unsigned_abs price) most fits)

-- ---- any parts made a meaning

pub bounded_sound : (half : Half) (count reach : ℕ) (prices : ℕ → ℕ → ℕ → ℤ) → Sound (bounded half count reach prices)
bounded_sound half count reach prices = record {
  some_line = omega arith;
  few_lines = omega arith;
  small_reach = omega arith;
  within_reach = grid_size half (as_lines count) (λ line point column. capped (min most_reach reach) (prices line point column)) (min most_reach reach) (λ line point column. cap_size (min most_reach reach) (prices line point column));
  outside = grid_outside half (as_lines count) (λ line point column. capped (min most_reach reach) (prices line point column));
}

-- ---- layers

pub pair_sound : (a b : Meaning) → Sound a → Sound b → Sound (pair_meaning a b)
pair_sound a b sa sb = record {
  some_line = omega (arith, sa.some_line);
  few_lines = omega arith;
  small_reach = omega (arith, sa.small_reach, sb.small_reach);
  within_reach = grid_size a.half lines (side_by_side a b) (max a.reach b.reach) each;
  outside = grid_outside a.half lines (side_by_side a b);
}
  where
    lines : ℕ
    lines = min most_lines (a.lines + b.lines)

    each : (line point column : ℕ) → unsigned_abs (side_by_side a b line point column) ≤ max a.reach b.reach
    each line point column = elim (nat_lt line a.lines) as (λ f. unsigned_abs (elim f [ true ↦ a.price line point column | false ↦ b.price (line - a.lines) point column ]) ≤ max a.reach b.reach) [
      | true ↦ omega (arith, sa.within_reach line point column)
      | false ↦ omega (arith, sb.within_reach (line - a.lines) point column)
    ]

pub scaled_size : (factor : ℕ) (m : Meaning) → Sound m → (line point column : ℕ) → unsigned_abs (pos factor *ℤ m.price line point column) ≤ factor * m.reach
scaled_size factor m sm line point column =
    rw (size_product (pos factor) (m.price line point column)) (mul-le-mul_left factor (sm.within_reach line point column))

pub scale_sound : (factor : ℕ) (m : Meaning) → Sound m → Sound (scale_meaning factor m)
scale_sound factor m sm = record {
  some_line = sm.some_line;
  few_lines = sm.few_lines;
  small_reach = omega arith;
  within_reach = λ line point column. omega (arith, cap_size most_reach (pos factor *ℤ m.price line point column), le_trans (cap_shrinks most_reach (pos factor *ℤ m.price line point column)) (scaled_size factor m sm line point column));
  outside = λ line point column off. ap (λ price. capped most_reach (pos factor *ℤ price)) (sm.outside line point column off) ∙ ap (capped most_reach) (*ℤ-zero (pos factor));
}
