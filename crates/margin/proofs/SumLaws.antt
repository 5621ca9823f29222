-- The laws of `total`, of `least` and of `least3`.
use Rattle.std.proofs.Common.{◌≡◌, ℕ, zero, suc, ◌+◌, ◌<◌, ◌≤◌, Bool, true, false, ℤ, pos, ◌+ℤ◌, ◌≤ℤ◌, Some, sym, refl, ap, ◌∙◌, subst, ap₂, add-one, arith}
use native.Mathlib.Decide.{dec_le}
use lib.Signed.{le_z, lt_z, ≤ℤ_refl}
use Rattle.order.specs.Orders.{lesser_of}
use Rattle.std.proofs.lemmas.Int.{ints}
use Rattle.margin.specs.Sums.{total, least, of3, least3}

pub ≤ℤ-trans : (a b c : ℤ) → a ≤ℤ b → b ≤ℤ c → a ≤ℤ c
≤ℤ-trans a b c h k = omega (arith, ints)

pub sum_le : (a b c d : ℤ) → a ≤ℤ b → c ≤ℤ d → (a +ℤ c) ≤ℤ (b +ℤ d)
sum_le a b c d h k = omega (arith, ints)

pub under : (a b : ℤ) → lt_z a b ≡ true → a ≤ℤ b
under a b e = omega (arith, ints)

pub not_under : (a b : ℤ) → lt_z a b ≡ false → b ≤ℤ a
not_under a b e = omega (arith, ints)

pub at_most : (a b : ℤ) → le_z a b ≡ true → a ≤ℤ b
at_most a b e = omega (arith, ints)

pub not_at_most : (a b : ℤ) → le_z a b ≡ false → b ≤ℤ a
not_at_most a b e = omega (arith, ints)

-- ---- sums
-- a sum does not fall where none of its parts does
pub total_le : (n : ℕ) (test : ℕ → Bool) (f g : ℕ → ℤ) → ((i : ℕ) → i < n → test i ≡ true → f i ≤ℤ g i) → total n test f ≤ℤ total n test g
unfolding total
total_le zero test f g h = ≤ℤ_refl (pos 0)
total_le (suc n) test f g h = sum_le _ _ _ _ (total_le n test f g (λ i less. h i (omega arith))) (here (test n) refl)
  where
    here : (b : Bool) → test n ≡ b → (elim b [ true ↦ f n | false ↦ pos 0 ]) ≤ℤ (elim b [ true ↦ g n | false ↦ pos 0 ])
    here true e = h n (omega arith) e
    here false e = ≤ℤ_refl (pos 0)

-- one number more, as a loop that counts up by one has it
pub total_next : (n : ℕ) (test : ℕ → Bool) (part : ℕ → ℤ) (x : ℤ) → x ≡ (elim (test n) [ true ↦ part n | false ↦ pos 0 ]) → total (n + 1) test part ≡ total n test part +ℤ x
unfolding total
total_next n test part x e = ap (λ (k : ℕ). total k test part) (add-one n) ∙ ap (λ (z : ℤ). total n test part +ℤ z) (sym e)

pub total_add : (n : ℕ) (test : ℕ → Bool) (f g : ℕ → ℤ) → total n test (λ i. f i +ℤ g i) ≡ total n test f +ℤ total n test g
unfolding total
total_add zero test f g = refl
total_add (suc n) test f g = let before = total_add n test f g in let now = here (test n) in omega (arith, ints)
  where
    here : (b : Bool) → (elim b [ true ↦ f n +ℤ g n | false ↦ pos 0 ]) ≡ (elim b [ true ↦ f n | false ↦ pos 0 ]) +ℤ (elim b [ true ↦ g n | false ↦ pos 0 ])
    here true = refl
    here false = refl

-- ---- the least of a row
-- what holds of the least of a row's items from a to a + n, and of its place
pub record IsLeast (row : ℕ → ℤ) (a n : ℕ) (r : ℤ × ℕ) : Type 0 where
  pub at : row r.1 ≡ r.0
  pub from : a ≤ r.1
  pub to : r.1 ≤ a + n
  pub none_less : (i : ℕ) → a ≤ i → i ≤ a + n → r.0 ≤ℤ row i

-- an item of one more in front is the new one, or one of those after
in_front : (a i : ℕ) (P : ℕ → Type 0) → a ≤ i → P a → (suc a ≤ i → P i) → P i
in_front a i P h new old = elim (dec_le (suc a) i) [ yes k ↦ old k | no k ↦ (let e : a ≡ i = omega arith in subst P e new) ]

pub least_is : (row : ℕ → ℤ) (a n : ℕ) → IsLeast row a n (least le_z row a n)
unfolding least
least_is row a zero = record { at = refl; from = omega arith; to = omega arith; none_less = λ i h k. in_front a i (λ j. row a ≤ℤ row j) h (≤ℤ_refl (row a)) (λ k'. absurd (omega arith)) }
least_is row a (suc n) = choose (least le_z row (suc a) n) (least_is row (suc a) n) (le_z (row a) (least le_z row (suc a) n).0) refl
  where
    choose : (later : ℤ × ℕ) → IsLeast row (suc a) n later → (b : Bool) → le_z (row a) later.0 ≡ b → IsLeast row a (suc n) (elim b [ true ↦ (row a, a) | false ↦ later ])
    choose later old true e = record { at = refl; from = omega arith; to = omega arith; none_less = λ i h k. in_front a i (λ j. row a ≤ℤ row j) h (≤ℤ_refl (row a)) (λ k'. ≤ℤ-trans _ _ _ (at_most _ _ e) (old.none_less i k' (omega arith))) }
    choose later old false e = record { at = old.at; from = omega (arith, old.from); to = omega (arith, old.to); none_less = λ i h k. in_front a i (λ j. later.0 ≤ℤ row j) h (not_at_most _ _ e) (λ k'. old.none_less i k' (omega arith)) }

-- ---- the least of three
pub least3_is : (a b c : ℤ) → IsLeast (of3 a b c) 0 2 (least3 a b c)
unfolding least3
least3_is a b c = least_is (of3 a b c) 0 2

-- rows that agree have the same least, under any order
pub least_same : {A : Type 0} (at_most : A → A → Bool) (f g : ℕ → A) (a n : ℕ) → ((i : ℕ) → a ≤ i → i ≤ a + n → f i ≡ g i) → least at_most f a n ≡ least at_most g a n
unfolding least
least_same {A} at_most f g a zero h = ap (λ (x : A). pair x a) (h a (omega arith) (omega arith))
  where
    pair : A → ℕ → A × ℕ
    pair x k = (x, k)
least_same {A} at_most f g a (suc n) h =
    ap₂ (λ (x : A) (later : A × ℕ). lesser_of at_most (x, a) (Some later)) (h a (omega arith) (omega arith)) (least_same at_most f g (suc a) n (λ i k l. h i (omega arith) (omega arith)))
