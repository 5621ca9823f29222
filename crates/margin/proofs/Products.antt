-- Products of integers: sums, signs, order.
use Rattle.std.proofs.Common.{◌≡◌, ℕ, zero, suc, ℤ, pos, negsuc, ◌+ℤ◌, ◌-ℤ◌, ◌*ℤ◌, neg_ℤ, ◌≤ℤ◌, sym, ap, ◌∙◌, subst, arith}
use lib.IntN.{suc_ℤ, pred_ℤ, ℤ_ind, +ℤ_one, -ℤ_one, +ℤ-suc_ℤ, +ℤ-pred_ℤ, suc_ℤ-*ℤ, pred_ℤ-*ℤ, zero-*ℤ, +ℤ_idr, +ℤ_invr, *ℤ_comm}
use Rattle.std.proofs.lemmas.Int.{ints}

pub times_sum : (a b k : ℤ) → (a +ℤ b) *ℤ k ≡ a *ℤ k +ℤ b *ℤ k
times_sum a b k = ℤ_ind P at_0 (λ n h. subst P (sym (+ℤ_one (pos n))) (up (pos n) h)) (λ n h. subst P (sym (-ℤ_one (neg_ℤ (pos n)))) (down (neg_ℤ (pos n)) h)) b
  where
    P : ℤ → Type 0
    P b = (a +ℤ b) *ℤ k ≡ a *ℤ k +ℤ b *ℤ k

    at_0 : P (pos 0)
    at_0 = ap (λ (z : ℤ). z *ℤ k) (+ℤ_idr a) ∙ sym (ap (λ (z : ℤ). a *ℤ k +ℤ z) (zero-*ℤ k) ∙ +ℤ_idr (a *ℤ k))

    more : (x y z u : ℤ) → x ≡ y +ℤ z → x +ℤ u ≡ y +ℤ (z +ℤ u)
    more x y z u e = omega (arith, ints)

    less : (x y z u : ℤ) → x ≡ y +ℤ z → x -ℤ u ≡ y +ℤ (z -ℤ u)
    less x y z u e = omega (arith, ints)

    up : (b : ℤ) → P b → P (suc_ℤ b)
    up b h = ap (λ (z : ℤ). z *ℤ k) (+ℤ-suc_ℤ a b) ∙ suc_ℤ-*ℤ (a +ℤ b) k ∙ more ((a +ℤ b) *ℤ k) (a *ℤ k) (b *ℤ k) k h ∙ sym (ap (λ (z : ℤ). a *ℤ k +ℤ z) (suc_ℤ-*ℤ b k))

    down : (b : ℤ) → P b → P (pred_ℤ b)
    down b h = ap (λ (z : ℤ). z *ℤ k) (+ℤ-pred_ℤ a b) ∙ pred_ℤ-*ℤ (a +ℤ b) k ∙ less ((a +ℤ b) *ℤ k) (a *ℤ k) (b *ℤ k) k h ∙ sym (ap (λ (z : ℤ). a *ℤ k +ℤ z) (pred_ℤ-*ℤ b k))

pub times_neg : (a k : ℤ) → neg_ℤ a *ℤ k ≡ neg_ℤ (a *ℤ k)
times_neg a k = opposite (a *ℤ k) (neg_ℤ a *ℤ k) (sym (times_sum a (neg_ℤ a) k) ∙ ap (λ (z : ℤ). z *ℤ k) (+ℤ_invr a) ∙ zero-*ℤ k)
  where
    opposite : (x y : ℤ) → x +ℤ y ≡ pos 0 → y ≡ neg_ℤ x
    opposite x y e = omega (arith, ints)

pub times_minus : (a b k : ℤ) → (a -ℤ b) *ℤ k ≡ a *ℤ k -ℤ b *ℤ k
times_minus a b k = times_sum a (neg_ℤ b) k ∙ ap (λ (z : ℤ). a *ℤ k +ℤ z) (times_neg b k)

-- ---- signs
pub both_up : (a b : ℤ) → pos 0 ≤ℤ a → pos 0 ≤ℤ b → pos 0 ≤ℤ (a *ℤ b)
both_up (pos a) (pos b) h k = omega (arith, ints)
both_up (pos a) (negsuc b) h k = absurd k.le
both_up (negsuc a) b h k = absurd h.le

pub both_down : (a b : ℤ) → a ≤ℤ pos 0 → b ≤ℤ pos 0 → pos 0 ≤ℤ (a *ℤ b)
both_down a b h k = subst (λ (z : ℤ). pos 0 ≤ℤ z) same (both_up (neg_ℤ a) (neg_ℤ b) (omega (arith, ints)) (omega (arith, ints)))
  where
    back : (z : ℤ) → neg_ℤ (neg_ℤ z) ≡ z
    back z = omega (arith, ints)

    same : neg_ℤ a *ℤ neg_ℤ b ≡ a *ℤ b
    same = times_neg a (neg_ℤ b) ∙ ap neg_ℤ (*ℤ_comm a (neg_ℤ b) ∙ times_neg b a ∙ ap neg_ℤ (*ℤ_comm b a)) ∙ back (a *ℤ b)

-- a factor that is not negative keeps the order
pub scaled : (a x y : ℤ) → pos 0 ≤ℤ a → x ≤ℤ y → (a *ℤ x) ≤ℤ (a *ℤ y)
scaled a x y h k = apart ((y -ℤ x) *ℤ a) (x *ℤ a) (y *ℤ a) (both_up (y -ℤ x) a (omega (arith, ints)) h) (times_minus y x a) (*ℤ_comm a x) (*ℤ_comm a y)
  where
    apart : {u v : ℤ} (d p q : ℤ) → pos 0 ≤ℤ d → d ≡ q -ℤ p → u ≡ p → v ≡ q → u ≤ℤ v
    apart d p q h e f g = omega (arith, ints)

-- ---- a whole multiple
pub multiple : (n : ℕ) (a b : ℤ) → pos n *ℤ a *ℤ b ≡ pos n *ℤ (a *ℤ b)
multiple zero a b = ap (λ (z : ℤ). z *ℤ b) (zero-*ℤ a) ∙ zero-*ℤ b ∙ sym (zero-*ℤ (a *ℤ b))
multiple (suc n) a b =
    ap (λ (z : ℤ). z *ℤ b) (suc_ℤ-*ℤ (pos n) a) ∙ times_sum (pos n *ℤ a) a b ∙ ap (λ (z : ℤ). z +ℤ a *ℤ b) (multiple n a b) ∙ sym (suc_ℤ-*ℤ (pos n) (a *ℤ b))

pub apart_down : (a b : ℤ) → pos 0 ≤ℤ a → b ≤ℤ pos 0 → (a *ℤ b) ≤ℤ pos 0
apart_down a b h k = flipped (a *ℤ b) (neg_ℤ b *ℤ a) (both_up (neg_ℤ b) a (omega (arith, ints)) h) (times_neg b a ∙ ap neg_ℤ (*ℤ_comm b a))
  where
    flipped : (x y : ℤ) → pos 0 ≤ℤ y → y ≡ neg_ℤ x → x ≤ℤ pos 0
    flipped x y h e = omega (arith, ints)
