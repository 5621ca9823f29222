-- A product of two signed numbers, as the code computes it, over the width.
use Rattle.std.proofs.Common.{◌≡◌, ◌*◌, ◌^◌, ◌<◌, ◌≤◌, ℤ, pos, negsuc, ◌*ℤ◌, nat_abs, refl, ◌∙◌, le_refl, lt_of_le_of_lt, SFits, to_z, of_z}
use native.Mathlib.Nat.{le-suc}
use lib.Signed.{mag}
use mir.Syntax.{Width}
use mir.Val.{hbits}
use Rattle.std.proofs.lemmas.Int.{to_z-of_z}
use Rattle.banks.specs.Soundness.{size_product}

mag_le_size : (z : ℤ) → mag z ≤ nat_abs z
mag_le_size (pos n) = le_refl n
mag_le_size (negsuc n) = le-suc n

module _ (w : Width) (a b : ℤ) (fa : SFits w a) (fb : SFits w b) (small : nat_abs a * nat_abs b < 2 ^ hbits w) where
  pub product_fits : SFits w (to_z w (of_z w a) *ℤ to_z w (of_z w b))
  product_fits =
      rw (to_z-of_z w a fa, to_z-of_z w b fb) (record { sfits = lt_of_le_of_lt (mag_le_size (a *ℤ b)) (rw (size_product a b) small) })

  pub product_is : to_z w (of_z w (to_z w (of_z w a) *ℤ to_z w (of_z w b))) ≡ a *ℤ b
  product_is = to_z-of_z w (to_z w (of_z w a) *ℤ to_z w (of_z w b)) product_fits ∙ rw (to_z-of_z w a fa, to_z-of_z w b fb) refl
