-- A product of two numbers of known sizes, as the code computes it.
use Rattle.std.proofs.Common.{◌≡◌, ℕ, ◌*◌, ◌^◌, ◌<◌, ◌≤◌, ℤ, ◌*ℤ◌, nat_abs, le_trans, lt_of_le_of_lt, mul-le-mul, w64, SFits, to_z, of_z}
use Rattle.banks.specs.Soundness.{size_product}
use Rattle.banks.proofs.Products.{product_fits, product_is}

module _ (a b : ℤ) (fa : SFits w64 a) (fb : SFits w64 b) (m n most : ℕ) (ha : nat_abs a ≤ m) (hb : nat_abs b ≤ n) (top : m * n ≤ most) (far : most < 2 ^ 63) where
  few : nat_abs a * nat_abs b ≤ most
  few = le_trans (mul-le-mul ha hb) top

  pub fits : SFits w64 (to_z w64 (of_z w64 a) *ℤ to_z w64 (of_z w64 b))
  fits = product_fits w64 a b fa fb (lt_of_le_of_lt few far)

  pub value : to_z w64 (of_z w64 (to_z w64 (of_z w64 a) *ℤ to_z w64 (of_z w64 b))) ≡ a *ℤ b
  value = product_is w64 a b fa fb (lt_of_le_of_lt few far)

  pub size : nat_abs (to_z w64 (of_z w64 (to_z w64 (of_z w64 a) *ℤ to_z w64 (of_z w64 b)))) ≤ most
  size = rw (value, size_product a b) few
