-- Parts that lie within a bank's bounds are kept as they are.
use Rattle.std.proofs.Common.{◌≡◌, ℕ, ◌<◌, ◌≤◌, min, Bool, true, false, ltb, ℤ, pos, nat_abs, refl, ap, ◌∙◌, arith}
use mathlib.Core.Path.{fun_ext}
use Rattle.std.proofs.lemmas.Bool.{ltb-true, and_parts}
use Rattle.terms.specs.Halves.{points}
use Rattle.terms.specs.declared.half.Half.{Half}
use Rattle.banks.specs.Meanings.{most_reach, on_grid, gridded, capped, as_lines, exactly, bounded}
use Rattle.banks.specs.Soundness.{cap_keeps}

-- prices that agree on the grid
pub grid_same : (half : Half) (lines : ℕ) (f g : ℕ → ℕ → ℕ → ℤ) → ((line point column : ℕ) → line < lines → point < points half → f line point column ≡ g line point column) → gridded half lines f ≡ gridded half lines g
grid_same half lines f g same = fun_ext λ line. fun_ext λ point. fun_ext λ column. go line point column (on_grid half lines line point column) refl
  where
    go : (line point column : ℕ) (b : Bool) → on_grid half lines line point column ≡ b → ◌≡◌ {A = ℤ} (elim b [ true ↦ f line point column | false ↦ pos 0 ]) (elim b [ true ↦ g line point column | false ↦ pos 0 ])
    go line point column true on =
        let parts = and_parts (ltb line lines) _ on in
        same line point column (ltb-true line lines parts.0) (ltb-true point (points half) (and_parts (ltb point (points half)) _ parts.1).0)
    go line point column false off = refl

module _ (half : Half) (lines reach : ℕ) (prices : ℕ → ℕ → ℕ → ℤ) (some : 1 ≤ lines) (few : lines ≤ 16) (small : reach ≤ most_reach) (sized : (line point column : ℕ) → line < lines → point < points half → nat_abs (prices line point column) ≤ reach) where
  pub bounded_is : bounded half lines reach prices ≡ exactly half lines reach prices
  bounded_is =
      ap (λ n. exactly half n (min most_reach reach) (cut (min most_reach reach))) counted
      ∙ ap (λ most. exactly half lines most (cut most)) kept
      ∙ ap (λ on_grid. record { half = half; lines = lines; reach = reach; price = on_grid }) (grid_same half lines (cut reach) prices (λ line point column a b. cap_keeps reach (prices line point column) (sized line point column a b)))
    where
      cut : ℕ → ℕ → ℕ → ℕ → ℤ
      cut most line point column = capped most (prices line point column)

      counted : as_lines lines ≡ lines
      counted = omega arith

      kept : min most_reach reach ≡ reach
      kept = omega arith
