-- Products of integers: over sums and opposites on the right, and of numbers on one side of 0.
use Rattle.std.proofs.Common.{◌≡◌, ◌⊎◌, ℤ, pos, ◌+ℤ◌, ◌*ℤ◌, neg_ℤ, ◌≤ℤ◌, inl, inr, arith}
use lib.IntN.{*ℤ_comm}
use Rattle.std.proofs.lemmas.Int.{ints, by_lt_z}
use Rattle.margin.proofs.Products.{times_sum, times_neg as neg-times, both_up, both_down, apart_down}

pub times_add : (a b c : ℤ) → a *ℤ (b +ℤ c) ≡ a *ℤ b +ℤ a *ℤ c
times_add a b c = let e = times_sum b c a in let l = *ℤ_comm a (b +ℤ c) in let m = *ℤ_comm a b in let n = *ℤ_comm a c in omega (arith, ints)

pub times_neg : (a b : ℤ) → a *ℤ neg_ℤ b ≡ neg_ℤ (a *ℤ b)
times_neg a b = let e = neg-times b a in let l = *ℤ_comm a (neg_ℤ b) in let m = *ℤ_comm a b in omega (arith, ints)

-- ---- numbers on one side of 0
abbrev pub OneSide : ℤ → ℤ → Type 0
OneSide a b = ((pos 0 ≤ℤ a) × (pos 0 ≤ℤ b)) ⊎ ((a ≤ℤ pos 0) × (b ≤ℤ pos 0))

-- they stay so when both are multiplied
pub both_times : (a b y : ℤ) → OneSide a b → OneSide (a *ℤ y) (b *ℤ y)
both_times a b y side = by_lt_z y (pos 0) (λ h. low (omega (arith, ints)) side) (λ h. high h side)
  where
    up_down : (c : ℤ) → pos 0 ≤ℤ y → c ≤ℤ pos 0 → (c *ℤ y) ≤ℤ pos 0
    up_down c h k = let p = apart_down y c h k in let e = *ℤ_comm y c in omega (arith, ints)

    high : pos 0 ≤ℤ y → OneSide a b → OneSide (a *ℤ y) (b *ℤ y)
    high h (inl (k, l)) = inl (both_up a y k h, both_up b y l h)
    high h (inr (k, l)) = inr (up_down a h k, up_down b h l)

    low : y ≤ℤ pos 0 → OneSide a b → OneSide (a *ℤ y) (b *ℤ y)
    low h (inl (k, l)) = inr (apart_down a y k h, apart_down b y l h)
    low h (inr (k, l)) = inl (both_down a y k h, both_down b y l h)

-- the product of two on one side is not below 0
pub one_side_times : (a b : ℤ) → OneSide a b → pos 0 ≤ℤ (a *ℤ b)
one_side_times a b (inl (h, k)) = both_up a b h k
one_side_times a b (inr (h, k)) = both_down a b h k
