-- The two kinds of item that are picked from, each with its total order.
use Rattle.std.specs.Prelude.{◌≡◌, ℕ, ◌<◌, ◌≤◌, Bool, true, ◌&&◌, ◌||◌, ◌⊎◌, ℤ, pos, negsuc, ◌==◌, int_le, nat_le, nat_lt, refl}
use Rattle.std.proofs.Common.{ap, sym, ◌∙◌, inl, inr, ⊎_elim, le_trans, le_antisymm, le_of_lt, arith}
use Rattle.std.proofs.lemmas.Bool.{leb-true, le-leb, cases_lt, ltb-true, lt-ltb, eqb-true, eq-eqb, cases_order, false≢true, or_left, or_right, or_cases, and_from, and_parts}
use Rattle.order.specs.Orders.{TotalOrder}
use Rattle.order.specs.declared.FamilyLoss.{FamilyLoss}

-- ---- integers, the lower first

leb_total : (a b : ℕ) → (nat_le a b ≡ true) ⊎ (nat_le b a ≡ true)
leb_total a b = ⊎_elim (λ h. inl (le-leb a b (le_of_lt h))) (λ h. inr (le-leb b a h)) (cases_lt a b)

leb_chain : (a b c : ℕ) → nat_le a b ≡ true → nat_le b c ≡ true → nat_le a c ≡ true
leb_chain a b c h k = le-leb a c (le_trans (leb-true a b h) (leb-true b c k))

leb_tie : (a b : ℕ) → nat_le a b ≡ true → nat_le b a ≡ true → a ≡ b
leb_tie a b h k = le_antisymm (leb-true a b h) (leb-true b a k)

integers_total : (x y : ℤ) → (int_le x y ≡ true) ⊎ (int_le y x ≡ true)
integers_total (pos a) (pos b) = leb_total a b
integers_total (pos a) (negsuc b) = inr refl
integers_total (negsuc a) (pos b) = inl refl
integers_total (negsuc a) (negsuc b) = leb_total b a

integers_chain : (x y z : ℤ) → int_le x y ≡ true → int_le y z ≡ true → int_le x z ≡ true
integers_chain (pos a) (pos b) (pos c) h k = leb_chain a b c h k
integers_chain (pos a) (pos b) (negsuc c) h k = k
integers_chain (pos a) (negsuc b) z h k = absurd (false≢true h)
integers_chain (negsuc a) (pos b) (pos c) h k = refl
integers_chain (negsuc a) (pos b) (negsuc c) h k = absurd (false≢true k)
integers_chain (negsuc a) (negsuc b) (pos c) h k = refl
integers_chain (negsuc a) (negsuc b) (negsuc c) h k = leb_chain c b a k h

integers_tie : (x y : ℤ) → int_le x y ≡ true → int_le y x ≡ true → x ≡ y
integers_tie (pos a) (pos b) h k = ap pos (leb_tie a b h k)
integers_tie (pos a) (negsuc b) h k = absurd (false≢true h)
integers_tie (negsuc a) (pos b) h k = absurd (false≢true k)
integers_tie (negsuc a) (negsuc b) h k = ap negsuc (leb_tie a b k h)

pub integers_ordered : TotalOrder int_le
integers_ordered = record { total = integers_total; transitive = integers_chain; antisymmetric = integers_tie }

-- ---- families by their losses, the greater loss first, and of equal losses the lower number

abbrev pub costlier : FamilyLoss → FamilyLoss → Bool
costlier x y = nat_lt y.loss x.loss || (x.loss == y.loss && nat_le x.family y.family)

-- the same order as a fact
abbrev Costlier : FamilyLoss → FamilyLoss → Type 0
Costlier x y = (y.loss < x.loss) ⊎ ((x.loss ≡ y.loss) × (x.family ≤ y.family))

to_test : (x y : FamilyLoss) → Costlier x y → costlier x y ≡ true
to_test x y (inl more) = or_left _ _ (lt-ltb y.loss x.loss more)
to_test x y (inr (same, lower)) =
    or_right _ _ (and_from _ _ (eq-eqb x.loss y.loss same) (le-leb x.family y.family lower))

from_test : (x y : FamilyLoss) → costlier x y ≡ true → Costlier x y
from_test x y h =
    ⊎_elim (λ t. inl (ltb-true y.loss x.loss t)) (λ t. inr (tied (and_parts (x.loss == y.loss) (nat_le x.family y.family) t))) (or_cases _ _ h)
  where
    tied : ((x.loss == y.loss) ≡ true) × (nat_le x.family y.family ≡ true) → (x.loss ≡ y.loss) × (x.family ≤ y.family)
    tied (same, lower) = (eqb-true x.loss y.loss same, leb-true x.family y.family lower)

costlier_total : (x y : FamilyLoss) → Costlier x y ⊎ Costlier y x
costlier_total x y = ⊎_elim same (⊎_elim (λ h. inr (inl h)) (λ h. inl (inl h))) (cases_order x.loss y.loss)
  where
    same : x.loss ≡ y.loss → Costlier x y ⊎ Costlier y x
    same e = ⊎_elim (λ h. inl (inr (e, le_of_lt h))) (λ h. inr (inr (sym e, h))) (cases_lt x.family y.family)

costlier_chain : (x y z : FamilyLoss) → Costlier x y → Costlier y z → Costlier x z
costlier_chain x y z (inl h) (inl k) = inl (omega arith)
costlier_chain x y z (inl h) (inr k) = inl (omega arith)
costlier_chain x y z (inr h) (inl k) = inl (omega arith)
costlier_chain x y z (inr h) (inr k) = inr (omega arith)

costlier_tie : (x y : FamilyLoss) → Costlier x y → Costlier y x → (x.loss ≡ y.loss) × (x.family ≡ y.family)
costlier_tie x y (inl h) (inl k) = omega arith
costlier_tie x y (inl h) (inr k) = omega arith
costlier_tie x y (inr h) (inl k) = omega arith
costlier_tie x y (inr h) (inr k) = omega arith

pub family_losses_ordered : TotalOrder costlier
family_losses_ordered = record {
  total = λ x y. ⊎_elim (λ h. inl (to_test x y h)) (λ h. inr (to_test y x h)) (costlier_total x y);
  transitive = λ x y z h k. to_test x z (costlier_chain x y z (from_test x y h) (from_test y z k));
  antisymmetric = λ x y h k. alike x y (costlier_tie x y (from_test x y h) (from_test y x k));
}
  where
    made : ℕ → ℕ → FamilyLoss
    made family loss = record { family = family; loss = loss }

    alike : (x y : FamilyLoss) → (x.loss ≡ y.loss) × (x.family ≡ y.family) → x ≡ y
    alike x y (e, f) = ap (λ n. made n x.loss) f ∙ ap (λ n. made y.family n) e
