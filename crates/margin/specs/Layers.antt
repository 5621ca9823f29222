-- From cells to the margin, for any cells: cells m p k is the cell of month m at point p and column k, and last is the grid's last point.
use Rattle.std.specs.Prelude.{ℕ, zero, suc, ◌+◌, ◌-◌, ◌/◌, min, true, false, length, ℤ, pos, negsuc, ◌+ℤ◌, int_le}
use Rattle.std.specs.Int.{int_min}
use Rattle.order.specs.Items.{costlier}
use Rattle.margin.specs.Sums.{least, least3}
use Rattle.margin.specs.Book.{Cards, netted_family, netted_basket, window_of, over_baskets, over_months}

-- minus a result, or 0 if that is greater
unfoldable pub loss_of : ℤ → ℕ
loss_of (pos n) = 0
loss_of (negsuc n) = suc n

-- the points of the grid that lie within w points of p begin at the one and end at the other
abbrev pub window_start : ℕ → ℕ → ℕ
window_start w p = p - w

abbrev pub window_end : ℕ → ℕ → ℕ → ℕ
window_end last w p = min (p + w) last

-- ---- a month at a point
module _ (cells : ℕ → ℕ → ℕ → ℤ) where
  -- the least of the volatility columns, with the lowest column that has it
  unfoldable pub volatility_result : ℕ → ℕ → ℤ × ℕ
  volatility_result m p = least3 (cells m p 0) (cells m p 1) (cells m p 2)

  -- the least of 0 and the two rate columns; place 0 is no column, 1 the first and 2 the second
  unfoldable pub rate_result : ℕ → ℕ → ℤ × ℕ
  rate_result m p = least3 (pos 0) (cells m p 3) (cells m p 4)

  -- and of 0 and the two twist columns
  unfoldable pub twist_result : ℕ → ℕ → ℤ × ℕ
  twist_result m p = least3 (pos 0) (cells m p 5) (cells m p 6)

  unfoldable pub curve_result : ℕ → ℕ → ℤ
  curve_result m p = (rate_result m p).0 +ℤ (twist_result m p).0

  unfoldable pub month_result : ℕ → ℕ → ℤ
  month_result m p = (volatility_result m p).0 +ℤ curve_result m p

-- ---- a basket at a point
module _ (cards : Cards) (cells : ℕ → ℕ → ℕ → ℤ) where
  -- a netted basket's volatility columns, each added up over its months: the least, with the lowest column that has it
  unfoldable pub netted_column : ℕ → ℕ → ℤ × ℕ
  netted_column b p =
      least3 (over_months cards b (λ m. cells m p 0)) (over_months cards b (λ m. cells m p 1)) (over_months cards b (λ m. cells m p 2))

  unfoldable pub netted_basket_result : ℕ → ℕ → ℤ
  netted_basket_result b p = (netted_column b p).0 +ℤ over_months cards b (λ m. curve_result cells m p)

  unfoldable pub half_basket_result : ℕ → ℕ → ℤ
  half_basket_result b p = over_months cards b (λ m. int_min (pos 0) (month_result cells m p))

  unfoldable pub basket_result : ℕ → ℕ → ℤ
  basket_result b p = elim (netted_basket cards b) [ true ↦ netted_basket_result b p | false ↦ half_basket_result b p ]

-- ---- a family at a point
module _ (last : ℕ) (cards : Cards) (cells : ℕ → ℕ → ℕ → ℤ) where
  -- the worst of a basket within w points of p, with its first point
  unfoldable pub worst_within : ℕ → ℕ → ℕ → ℤ × ℕ
  worst_within w b p = least int_le (basket_result cards cells b) (window_start w p) (window_end last w p - window_start w p)

  unfoldable pub netted_family_result : ℕ → ℕ → ℤ
  netted_family_result f p = over_baskets cards f (λ b. (worst_within (window_of cards f) b p).0)

  unfoldable pub half_family_result : ℕ → ℕ → ℤ
  half_family_result f p = over_baskets cards f (λ b. int_min (pos 0) (basket_result cards cells b p))

  unfoldable pub family_result : ℕ → ℕ → ℤ
  family_result f p = elim (netted_family cards f) [ true ↦ netted_family_result f p | false ↦ half_family_result f p ]

  -- the worst of a family's row, with its first point
  unfoldable pub family_worst : ℕ → ℤ × ℕ
  family_worst f = least int_le (family_result f) 0 last

  unfoldable pub family_loss : ℕ → ℕ
  family_loss f = loss_of (family_worst f).0

  -- ---- the margin
  unfoldable pub losses_below : ℕ → ℕ
  losses_below zero = 0
  losses_below (suc f) = losses_below f + family_loss f

  -- the sum of the families' losses, in grains
  unfoldable pub grains : ℕ
  grains = losses_below (length cards.families)

  -- in kopecks of 80,000 grains, rounded up once
  unfoldable pub margin_of : ℕ
  margin_of = (grains + 79999) / 80000

  -- the family with the greatest loss, the lowest among equals
  unfoldable pub costliest : ℕ
  costliest = (least costlier (λ f. record { family = f; loss = family_loss f }) 0 (length cards.families - 1)).1
