-- What is taken and what is left out.
use Rattle.std.proofs.Common.{◌≡◌, ℕ, zero, suc, ◌+◌, ◌-◌, ◌≤◌, ℤ, Some, None, Option, sym, ap, ◌∙◌, arith}
use Rattle.std.specs.Option.{MatchOption, SomeIff, IsSomeAnd}
use Rattle.margin.specs.declared.choice.Kept.{Kept}
use Rattle.margin.specs.Book.{Cards, named, basket, month}
use Rattle.margin.specs.HandedOut.{column_at, month_in, basket_in, family_point, basket_point, month_kept}
use Rattle.margin.specs.Layers.{family_result, family_worst}
use Rattle.margin.proofs.Reached.{take_cases}
use Rattle.margin.proofs.SumLaws.{least_is}

pub column_by : (first place : ℕ) (o r : Option ℕ) (P : ℕ → ℕ → Type 0) → SomeIff o (1 ≤ place) (place - 1) → ((x y : ℕ) → P x y → y ≡ first + x) → MatchOption o (r ≡ None) (λ x. IsSomeAnd r (P x)) → r ≡ column_at first place
unfolding column_at
column_by first zero None r P is says m = m
column_by first zero (Some x) r P is says m = absurd (omega (arith, is.0))
column_by first (suc n) None r P is says m = absurd (is (omega arith))
column_by first (suc n) (Some x) None P is says m = absurd m
column_by first (suc n) (Some x) (Some y) P is says m = ap Some (says x y m ∙ (omega (arith, is.1)))

-- a family that is taken stands on the grid
pub point_on_grid : (last : ℕ) (cards : Cards) (cells : ℕ → ℕ → ℕ → ℤ) (f p : ℕ) → family_point last cards cells f ≡ Some p → p ≤ last
unfolding family_point family_worst
point_on_grid last cards cells f p =
    take_cases (family_worst last cards cells f).0 (family_worst last cards cells f).1 (λ o. o ≡ Some p → p ≤ last)
    (λ h e. let z : ◌≡◌ {A = ℕ} 0 1 = cc in absurd (omega arith))
    (λ h k e. let at : (family_worst last cards cells f).1 ≡ p = cc in omega (arith, (least_is (family_result last cards cells f) 0 last).to))

-- ---- a basket by its family's point, and a month by its basket's
module _ (last : ℕ) (cards : Cards) (cells : ℕ → ℕ → ℕ → ℤ) where
  basket_by : (b f : ℕ) (o : Option ℕ) → f ≡ named (basket cards b).family → family_point last cards cells f ≡ o → (elim o as (λ x. Option ℕ) [ None ↦ None | Some p ↦ basket_in last cards cells f p b ]) ≡ basket_point last cards cells b
  unfolding basket_point
  basket_by b f o e at = ap (by f) (sym at) ∙ ap (λ (g : ℕ). by g (family_point last cards cells g)) e
    where
      by : ℕ → Option ℕ → Option ℕ
      by g o = elim o [ None ↦ None | Some p ↦ basket_in last cards cells g p b ]

  pub basket_taken_lem : (b f p : ℕ) → f ≡ named (basket cards b).family → family_point last cards cells f ≡ Some p → basket_in last cards cells f p b ≡ basket_point last cards cells b
  basket_taken_lem b f p e at = basket_by b f (Some p) e at

  pub basket_out : (b f : ℕ) → f ≡ named (basket cards b).family → family_point last cards cells f ≡ None → None ≡ basket_point last cards cells b
  basket_out b f e at = basket_by b f None e at

  month_by : (m b : ℕ) (o : Option ℕ) → b ≡ named (month cards m).basket → basket_point last cards cells b ≡ o → (elim o as (λ x. Option Kept) [ None ↦ None | Some p ↦ month_in last cards cells b p m ]) ≡ month_kept last cards cells m
  unfolding month_kept
  month_by m b o e at = ap (by b) (sym at) ∙ ap (λ (g : ℕ). by g (basket_point last cards cells g)) e
    where
      by : ℕ → Option ℕ → Option Kept
      by g o = elim o [ None ↦ None | Some p ↦ month_in last cards cells g p m ]

  pub month_taken_lem : (m b p : ℕ) → b ≡ named (month cards m).basket → basket_point last cards cells b ≡ Some p → month_in last cards cells b p m ≡ month_kept last cards cells m
  month_taken_lem m b p e at = month_by m b (Some p) e at

  pub month_out : (m b : ℕ) → b ≡ named (month cards m).basket → basket_point last cards cells b ≡ None → None ≡ month_kept last cards cells m
  month_out m b e at = month_by m b None e at
