-- What a basket and a family come to, by their rule.
use Rattle.std.proofs.Common.{◌≡◌, ℕ, Bool, true, false, ℤ, Some, ap}
use Rattle.margin.specs.Book.{Cards, netted_family, netted_basket, window_of}
use Rattle.margin.specs.HandedOut.{take_if_below0, kept_with, month_in, basket_in}
use Rattle.margin.specs.Layers.{volatility_result, month_result, netted_column, worst_within, netted_basket_result, half_basket_result, basket_result, netted_family_result, half_family_result, family_result}

-- a choice between two by a test whose answer is known
pub chosen : {A : Type 0} (x y : A) (b c : Bool) → b ≡ c → ◌≡◌ {A = A} (elim b [ true ↦ x | false ↦ y ]) (elim c [ true ↦ x | false ↦ y ])
chosen {A} x y b c e = ap (λ (t : Bool). elim t as (λ u. A) [ true ↦ x | false ↦ y ]) e

module _ (last : ℕ) (cards : Cards) (cells : ℕ → ℕ → ℕ → ℤ) where
  pub netted_basket_lem : (b p : ℕ) → netted_basket cards b ≡ true → basket_result cards cells b p ≡ netted_basket_result cards cells b p
  unfolding basket_result
  netted_basket_lem b p e = chosen (netted_basket_result cards cells b p) (half_basket_result cards cells b p) _ _ e

  pub half_basket : (b p : ℕ) → netted_basket cards b ≡ false → basket_result cards cells b p ≡ half_basket_result cards cells b p
  unfolding basket_result
  half_basket b p e = chosen (netted_basket_result cards cells b p) (half_basket_result cards cells b p) _ _ e

  pub netted_family_lem : (f p : ℕ) → netted_family cards f ≡ true → family_result last cards cells f p ≡ netted_family_result last cards cells f p
  unfolding family_result
  netted_family_lem f p e = chosen (netted_family_result last cards cells f p) (half_family_result last cards cells f p) _ _ e

  pub half_family : (f p : ℕ) → netted_family cards f ≡ false → family_result last cards cells f p ≡ half_family_result last cards cells f p
  unfolding family_result
  half_family f p e = chosen (netted_family_result last cards cells f p) (half_family_result last cards cells f p) _ _ e

  -- what the world handed out takes of a month in a basket, and of a basket in a family
  pub netted_month : (b p m : ℕ) → netted_basket cards b ≡ true → month_in last cards cells b p m ≡ Some (kept_with cells (netted_column cards cells b p).1 m p)
  unfolding month_in
  netted_month b p m e = chosen (Some (kept_with cells (netted_column cards cells b p).1 m p)) (take_if_below0 (month_result cells m p) (kept_with cells (volatility_result cells m p).1 m p)) _ _ e

  pub half_month : (b p m : ℕ) → netted_basket cards b ≡ false → month_in last cards cells b p m ≡ take_if_below0 (month_result cells m p) (kept_with cells (volatility_result cells m p).1 m p)
  unfolding month_in
  half_month b p m e = chosen (Some (kept_with cells (netted_column cards cells b p).1 m p)) (take_if_below0 (month_result cells m p) (kept_with cells (volatility_result cells m p).1 m p)) _ _ e

  pub netted_choice : (f p b : ℕ) → netted_family cards f ≡ true → basket_in last cards cells f p b ≡ Some (worst_within last cards cells (window_of cards f) b p).1
  unfolding basket_in
  netted_choice f p b e = chosen (Some (worst_within last cards cells (window_of cards f) b p).1) (take_if_below0 (basket_result cards cells b p) p) _ _ e

  pub half_choice : (f p b : ℕ) → netted_family cards f ≡ false → basket_in last cards cells f p b ≡ take_if_below0 (basket_result cards cells b p) p
  unfolding basket_in
  half_choice f p b e = chosen (Some (worst_within last cards cells (window_of cards f) b p).1) (take_if_below0 (basket_result cards cells b p) p) _ _ e
