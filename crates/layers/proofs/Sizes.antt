-- Sums that fit i128, and their sizes.
use Rattle.std.proofs.Common.{◌≡◌, ℕ, ◌+◌, ◌^◌, ◌≤◌, Bool, true, false, ℤ, pos, ◌+ℤ◌, nat_abs, refl, subst, arith, to_z, of_z}
use mir.Syntax.{w128}
use Rattle.std.proofs.lemmas.Int.{ints}
use Rattle.margin.specs.Sums.{total}
use Rattle.margin.proofs.SumLaws.{total_next}

-- the sum r of two numbers a and b that are far from the ends of i128, with its size
pub record Sum (x y : ℤ) (size : ℕ) (r : ℤ) : Type 0 where
  pub value : r ≡ x +ℤ y
  pub size_is : nat_abs r ≤ size

pub added : (a b x y : ℤ) (m n : ℕ) → m ≤ 2 ^ 100 → n ≤ 2 ^ 100 → nat_abs a ≤ m → nat_abs b ≤ n → a ≡ x → b ≡ y → Sum x y (m + n) (to_z w128 (of_z w128 (to_z w128 (of_z w128 a) +ℤ to_z w128 (of_z w128 b))))
added a b x y m n hm hn h k e f = record { value = omega (arith, ints); size_is = omega (arith, ints) }

one_more : (sum part now next : ℤ) → sum ≡ now → next ≡ now +ℤ part → nat_abs sum ≤ 2 ^ 100 → nat_abs part ≤ 2 ^ 100 → to_z w128 (of_z w128 (sum +ℤ to_z w128 (of_z w128 part))) ≡ next
one_more sum part now next e f h k = omega (arith, ints)

-- a loop's step: what a sum comes to where one part more is taken in, and where it is passed over
module _ (n : ℕ) (test : ℕ → Bool) (row : ℕ → ℤ) (sum : ℤ) (so_far : sum ≡ total n test row) where
  pub taken_in : (part : ℤ) → true ≡ test n → part ≡ row n → nat_abs sum ≤ 2 ^ 100 → nat_abs part ≤ 2 ^ 100 → to_z w128 (of_z w128 (sum +ℤ to_z w128 (of_z w128 part))) ≡ total (n + 1) test row
  taken_in part e is h k = one_more sum part _ _ so_far (total_next n test row part (subst (λ (b : Bool). part ≡ (elim b [ true ↦ row n | false ↦ pos 0 ])) e is)) h k

  pub passed_over : false ≡ test n → sum ≡ total (n + 1) test row
  passed_over e =
      let next : total (n + 1) test row ≡ total n test row +ℤ pos 0 = total_next n test row (pos 0) (subst (λ (b : Bool). ◌≡◌ {A = ℤ} (pos 0) (elim b [ true ↦ row n | false ↦ pos 0 ])) e refl) in
      omega (arith, ints)
