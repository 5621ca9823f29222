-- A loop's step where a sum of signed numbers stays far from the ends of its type.
use Rattle.std.proofs.Common.{◌≡◌, ℕ, ◌+◌, ◌*◌, ◌^◌, ◌≤◌, Bool, true, false, ℤ, pos, ◌+ℤ◌, ◌-ℤ◌, nat_abs, sym, ap, ◌∙◌, le_refl, le_trans, add-mul, mul-le-mul, one-mul, arith, lit≤, w64, to_z, of_z}
use Rattle.std.proofs.lemmas.Int.{ints}
use Rattle.margin.specs.Sums.{total}
use Rattle.margin.proofs.SumLaws.{total_next}

pub one_more : (sum part now next : ℤ) → sum ≡ now → next ≡ now +ℤ part → nat_abs sum ≤ 2 ^ 61 → nat_abs part ≤ 2 ^ 61 → to_z w64 (of_z w64 (sum +ℤ to_z w64 (of_z w64 part))) ≡ next
one_more sum part now next e f h k = omega (arith, ints)

-- a sum of parts, none larger than the most
module _ (i most : ℕ) where
  pub parts_le : i ≤ 32 → most ≤ 28000000000000000 → i * most ≤ 2 ^ 61
  parts_le h k = le_trans (mul-le-mul h k) (lit≤ tt)

  pub part_more : (sum part r : ℤ) → r ≡ sum +ℤ part → nat_abs sum ≤ i * most → nat_abs part ≤ most → nat_abs r ≤ (i + 1) * most
  part_more sum part r e h k =
      let both : (i + 1) * most ≡ i * most + most = add-mul i 1 most ∙ ap (λ n. i * most + n) (one-mul most) in
      rw both (omega (arith, ints))

  pub none_more : (sum : ℤ) → nat_abs sum ≤ i * most → nat_abs sum ≤ (i + 1) * most
  none_more sum h = le_trans h (mul-le-mul (let next : i ≤ i + 1 = omega arith in next) (le_refl most))

  pub parts_end : (sum : ℤ) → i ≤ 32 → nat_abs sum ≤ i * most → nat_abs sum ≤ 32 * most
  parts_end sum h k = le_trans k (mul-le-mul h (le_refl most))

-- a position less charges, and its orders
pub record Cell (h c o r : ℤ) : Type 0 where
  pub value : r ≡ h -ℤ c +ℤ o
  pub size : nat_abs r ≤ 2 ^ 61

pub cell_is : (h c o : ℤ) → nat_abs h ≤ 2 ^ 57 → nat_abs c ≤ 1088000000000000000 → nat_abs o ≤ 896000000000000000 → Cell h c o (to_z w64 (of_z w64 (to_z w64 (of_z w64 (to_z w64 (of_z w64 h) -ℤ to_z w64 (of_z w64 c))) +ℤ to_z w64 (of_z w64 o))))
cell_is h c o a b d = record { value = omega (arith, ints); size = omega (arith, ints) }

-- a sum with one number more, which passes the test or does not
module _ (n : ℕ) (test : ℕ → Bool) (part : ℕ → ℤ) where
  either : Bool → ℤ
  either b = elim b [ true ↦ part n | false ↦ pos 0 ]

  pub total_taken : (x : ℤ) → test n ≡ true → x ≡ part n → total (n + 1) test part ≡ total n test part +ℤ x
  unfolding either
  total_taken x passes is = total_next n test part x (is ∙ sym (ap either passes))

  pub total_passed : test n ≡ false → total (n + 1) test part ≡ total n test part
  unfolding either
  total_passed fails = let more = total_next n test part (pos 0) (sym (ap either fails)) in omega (arith, ints)
