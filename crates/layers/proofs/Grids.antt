-- A cell that stands on the grid.
use Rattle.std.proofs.Common.{◌≡◌, ℕ, ◌<◌, ◌≤◌, Bool, true, false, ◌&&◌, ltb, leb, ℤ, pos, refl, ap, arith}
use Rattle.std.proofs.lemmas.Bool.{leb-true, ltb-true}
use Rattle.std.proofs.lemmas.Bool.Decides.{nat_tests}
use Rattle.margin.specs.Cells.{gridded}

pub on_grid : (last months : ℕ) (cells : ℕ → ℕ → ℕ → ℤ) (m p k : ℕ) → m < months → p ≤ last → k < 7 → gridded last months cells m p k ≡ cells m p k
unfolding gridded
on_grid last months cells m p k h i j =
    let on : (ltb m months && (leb p last && ltb k 7)) ≡ true = grind (arith, nat_tests) in
    ap (λ (b : Bool). elim b as (λ c. ℤ) [ true ↦ cells m p k | false ↦ pos 0 ]) on

pub off_grid : (last months : ℕ) (cells : ℕ → ℕ → ℕ → ℤ) (m p k : ℕ) → (m < months → p ≤ last → k < 7 → ⊥) → gridded last months cells m p k ≡ pos 0
unfolding gridded
off_grid last months cells m p k out =
    let off : (ltb m months && (leb p last && ltb k 7)) ≡ false = outside (ltb m months) (leb p last) (ltb k 7) refl refl refl in
    ap (λ (b : Bool). elim b as (λ c. ℤ) [ true ↦ cells m p k | false ↦ pos 0 ]) off
  where
    outside : (a b c : Bool) → ltb m months ≡ a → leb p last ≡ b → ltb k 7 ≡ c → (a && (b && c)) ≡ false
    outside true true true e f g = absurd (out (ltb-true m months e) (leb-true p last f) (ltb-true k 7 g))
    outside true true false e f g = refl
    outside true false c e f g = refl
    outside false b c e f g = refl
