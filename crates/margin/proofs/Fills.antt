-- What a fill does to results and reaches, over bare numbers.
use Rattle.std.proofs.Common.{◌≡◌, ◌⊎◌, ℤ, pos, ◌+ℤ◌, ◌-ℤ◌, ◌*ℤ◌, neg_ℤ, ◌≤ℤ◌, ◌<ℤ◌, ap, ◌∙◌, inl, inr, arith}
use lib.IntN.{*ℤ_comm}
use Rattle.std.specs.Int.{int_min, int_max}
use Rattle.std.proofs.lemmas.Int.{ints, clamps, by_lt_z}
use Rattle.margin.proofs.Products.{times_sum, times_neg, times_minus, both_up, both_down, apart_down, scaled, multiple}

-- f is some of q, with its sign, and the price is no worse than the limit
abbrev pub Part : ℤ → ℤ → ℤ → ℤ → Type 0
Part q limit f x = ((pos 0 ≤ℤ f) × (f ≤ℤ q) × (x ≤ℤ limit)) ⊎ ((f ≤ℤ pos 0) × (q ≤ℤ f) × (limit ≤ℤ x))

-- a price no worse than the limit
no_worse_lem : (q limit f x : ℤ) → Part q limit f x → (f *ℤ x) ≤ℤ (f *ℤ limit)
no_worse_lem q limit f x (inl (up, some, better)) = scaled f x limit up better
no_worse_lem q limit f x (inr (down, some, better)) = flipped _ _ _ _ (scaled (neg_ℤ f) limit x (omega (arith, ints)) better) (times_neg f limit) (times_neg f x)
  where
    flipped : (a b c d : ℤ) → a ≤ℤ b → a ≡ neg_ℤ c → b ≡ neg_ℤ d → d ≤ℤ c
    flipped a b c d h e g = omega (arith, ints)

-- what is filled and what is left over, at any gain y of one contract
left_over : (q limit f x y : ℤ) → Part q limit f x → int_min (pos 0) (q *ℤ y) ≤ℤ (f *ℤ y +ℤ int_min (pos 0) ((q -ℤ f) *ℤ y))
left_over q limit f x y part = by_lt_z y (pos 0) (λ loss. falling part loss) (λ gain. rising part gain)
  where
    filled : (qy fy ry : ℤ) → ry ≡ qy -ℤ fy → pos 0 ≤ℤ fy → int_min (pos 0) qy ≤ℤ (fy +ℤ int_min (pos 0) ry)
    filled qy fy ry e h = omega (arith, ints, clamps)

    over : (qy fy ry : ℤ) → ry ≡ qy -ℤ fy → ry ≤ℤ pos 0 → int_min (pos 0) qy ≤ℤ (fy +ℤ int_min (pos 0) ry)
    over qy fy ry e h = omega (arith, ints, clamps)

    falling : Part q limit f x → y <ℤ pos 0 → int_min (pos 0) (q *ℤ y) ≤ℤ (f *ℤ y +ℤ int_min (pos 0) ((q -ℤ f) *ℤ y))
    falling (inl (up, some, better)) loss = over (q *ℤ y) (f *ℤ y) ((q -ℤ f) *ℤ y) (times_minus q f y) (apart_down (q -ℤ f) y (omega (arith, ints)) (omega (arith, ints)))
    falling (inr (down, some, better)) loss = filled (q *ℤ y) (f *ℤ y) ((q -ℤ f) *ℤ y) (times_minus q f y) (both_down f y down (omega (arith, ints)))

    rising : Part q limit f x → pos 0 ≤ℤ y → int_min (pos 0) (q *ℤ y) ≤ℤ (f *ℤ y +ℤ int_min (pos 0) ((q -ℤ f) *ℤ y))
    rising (inl (up, some, better)) gain = filled (q *ℤ y) (f *ℤ y) ((q -ℤ f) *ℤ y) (times_minus q f y) (both_up f y up gain)
    rising (inr (down, some, better)) gain = over (q *ℤ y) (f *ℤ y) ((q -ℤ f) *ℤ y) (times_minus q f y) (swapped (apart_down y (q -ℤ f) gain (omega (arith, ints))) (*ℤ_comm y (q -ℤ f)))
      where
        swapped : {a b : ℤ} → a ≤ℤ pos 0 → a ≡ b → b ≤ℤ pos 0
        swapped h e = omega (arith, ints)

-- ---- results of a position and of what is left of the order
pub change_results : (n q limit f x P rest : ℤ) → Part q limit f x → (n *ℤ P +ℤ (rest +ℤ int_min (pos 0) (q *ℤ P))) ≤ℤ ((n +ℤ f) *ℤ P +ℤ (rest +ℤ int_min (pos 0) ((q -ℤ f) *ℤ P)))
change_results n q limit f x P rest part = joined _ _ _ rest _ _ (times_sum n f P) (left_over q limit f x P part)
  where
    joined : (nf np fp r a b : ℤ) → nf ≡ np +ℤ fp → a ≤ℤ (fp +ℤ b) → (np +ℤ (r +ℤ a)) ≤ℤ (nf +ℤ (r +ℤ b))
    joined nf np fp r a b e h = omega (arith, ints)

pub price_results : (n c q limit f x P rest : ℤ) → Part q limit f x → (n *ℤ P -ℤ c +ℤ (rest +ℤ int_min (pos 0) (q *ℤ (P -ℤ pos 80000 *ℤ limit)))) ≤ℤ ((n +ℤ f) *ℤ P -ℤ (c +ℤ pos 80000 *ℤ f *ℤ x) +ℤ (rest +ℤ int_min (pos 0) ((q -ℤ f) *ℤ (P -ℤ pos 80000 *ℤ limit))))
price_results n c q limit f x P rest part =
    joined _ _ _ c rest _ _ _ _ _ _ (times_sum n f P) (left_over q limit f x (P -ℤ pos 80000 *ℤ limit) part) gain (multiple 80000 f x) (no_worse_lem q limit f x part)
  where
    gain : f *ℤ (P -ℤ pos 80000 *ℤ limit) ≡ f *ℤ P -ℤ pos 80000 *ℤ (f *ℤ limit)
    gain =
        *ℤ_comm f (P -ℤ pos 80000 *ℤ limit) ∙ times_minus P (pos 80000 *ℤ limit) f
        ∙ ap (λ (z : ℤ). z -ℤ pos 80000 *ℤ limit *ℤ f) (*ℤ_comm P f)
        ∙ ap (λ (z : ℤ). f *ℤ P -ℤ z) (multiple 80000 limit f ∙ ap (λ (z : ℤ). pos 80000 *ℤ z) (*ℤ_comm limit f))

    joined : (nf np fp c r a b fy fx fl cost : ℤ) → nf ≡ np +ℤ fp → a ≤ℤ (fy +ℤ b) → fy ≡ fp -ℤ pos 80000 *ℤ fl → cost ≡ pos 80000 *ℤ fx → fx ≤ℤ fl → (np -ℤ c +ℤ (r +ℤ a)) ≤ℤ (nf -ℤ (c +ℤ cost) +ℤ (r +ℤ b))
    joined nf np fp c r a b fy fx fl cost e h g k w = omega (arith, ints)

-- ---- reaches
pub long_reach_lem : (n q limit f x b : ℤ) → Part q limit f x → int_max (pos 0) (n +ℤ f +ℤ (b +ℤ int_max (pos 0) (q -ℤ f))) ≤ℤ int_max (pos 0) (n +ℤ (b +ℤ int_max (pos 0) q))
long_reach_lem n q limit f x b (inl part) = omega (arith, ints, clamps)
long_reach_lem n q limit f x b (inr part) = omega (arith, ints, clamps)

pub short_reach_lem : (n q limit f x s : ℤ) → Part q limit f x → int_max (pos 0) (s +ℤ int_max (pos 0) (neg_ℤ (q -ℤ f)) -ℤ (n +ℤ f)) ≤ℤ int_max (pos 0) (s +ℤ int_max (pos 0) (neg_ℤ q) -ℤ n)
short_reach_lem n q limit f x s (inl part) = omega (arith, ints, clamps)
short_reach_lem n q limit f x s (inr part) = omega (arith, ints, clamps)
