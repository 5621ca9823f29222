-- No world takes less than the families' worsts, for any cells: a lemma for each layer. The world may count cells higher than those that the layers read.
use Rattle.std.proofs.Common.{◌≡◌, ℕ, zero, suc, ◌+◌, ◌-◌, ◌<◌, ◌≤◌, Bool, true, false, length, ℤ, pos, ◌+ℤ◌, ◌≤ℤ◌, Some, None, Option, sym, refl, subst, inl, inr, arith}
use lib.Signed.{≤ℤ_refl}
use Rattle.std.specs.Int.{int_min}
use Rattle.std.proofs.lemmas.Int.{ints, clamps}
use Rattle.margin.specs.declared.choice.Kept.{Kept}
use Rattle.margin.specs.Sums.{total, least3}
use Rattle.margin.specs.Book.{Cards, netted_family, netted_basket, window_of, in_family, over_months}
use Rattle.margin.specs.Layers.{window_start, window_end, volatility_result, rate_result, twist_result, curve_result, month_result, netted_column, netted_basket_result, half_basket_result, basket_result, worst_within, netted_family_result, half_family_result, family_result, family_worst}
use Rattle.margin.specs.Worlds.{World, AtMostOne, Curves, HalfMonth, NettedMonth, Months, BasketAt, FamilyAt, IsWorld, column_taken, month_taken, basket_taken, family_taken, taken}
use Rattle.margin.proofs.ByRule.{netted_basket_lem, half_basket, netted_family_lem, half_family}
use Rattle.margin.proofs.SumLaws.{≤ℤ-trans, sum_le, total_le, total_add, least_is, least3_is}

-- the lesser of 0 and a result
pub lesser_0 : (r : ℤ) → int_min (pos 0) r ≤ℤ pos 0
lesser_0 r = omega (arith, ints, clamps)

pub lesser_r : (r : ℤ) → int_min (pos 0) r ≤ℤ r
lesser_r r = omega (arith, ints, clamps)

module _ (cells higher : ℕ → ℕ → ℕ → ℤ) (up : (m p k : ℕ) → cells m p k ≤ℤ higher m p k) where
  -- ---- a month
  -- the least of 0 and two columns is at most what one of them, or none, gives
  column_below : (m p first : ℕ) (choice : Option ℕ) → AtMostOne first choice → (least3 (pos 0) (cells m p first) (cells m p (first + 1))).0 ≤ℤ column_taken (higher m p) choice
  column_below m p first None h = (least3_is (pos 0) _ _).none_less 0 (omega arith) (omega arith)
  column_below m p first (Some k) (inl e) = rw e (≤ℤ-trans _ _ _ ((least3_is (pos 0) (cells m p first) _).none_less 1 (omega arith) (omega arith)) (up m p first))
  column_below m p first (Some k) (inr e) = rw e (≤ℤ-trans _ _ _ ((least3_is (pos 0) _ (cells m p (first + 1))).none_less 2 (omega arith) (omega arith)) (up m p (first + 1)))

  curves_below : (m p : ℕ) (kept : Kept) → Curves kept → curve_result cells m p ≤ℤ (column_taken (higher m p) kept.rate +ℤ column_taken (higher m p) kept.twist)
  unfolding curve_result rate_result twist_result
  curves_below m p kept h = sum_le _ _ _ _ (column_below m p 3 kept.rate h.one_rate) (column_below m p 5 kept.twist h.one_twist)

  volatility_below : (m p k : ℕ) → k ≤ 2 → (volatility_result cells m p).0 ≤ℤ higher m p k
  unfolding volatility_result
  volatility_below m p k h = ≤ℤ-trans _ _ _ (three k h) (up m p k)
    where
      three : (k : ℕ) → k ≤ 2 → (least3 (cells m p 0) (cells m p 1) (cells m p 2)).0 ≤ℤ cells m p k
      three zero h = (least3_is _ _ _).none_less 0 (omega arith) (omega arith)
      three (suc zero) h = (least3_is _ _ _).none_less 1 (omega arith) (omega arith)
      three (suc (suc zero)) h = (least3_is _ _ _).none_less 2 (omega arith) (omega arith)
      three (suc (suc (suc k))) h = absurd (omega arith)

  half_month_below : (m p : ℕ) (choice : Option Kept) → HalfMonth choice → int_min (pos 0) (month_result cells m p) ≤ℤ month_taken higher m p choice
  unfolding month_result
  half_month_below m p None h = lesser_0 (month_result cells m p)
  half_month_below m p (Some kept) h = ≤ℤ-trans _ _ _ (lesser_r (month_result cells m p)) (sum_le _ _ _ _ (volatility_below m p kept.volatility h.0) (curves_below m p kept h.1))

  netted_month_below : (m p k : ℕ) (choice : Option Kept) → NettedMonth k choice → (cells m p k +ℤ curve_result cells m p) ≤ℤ month_taken higher m p choice
  netted_month_below m p k None h = absurd h
  netted_month_below m p k (Some kept) h = sum_le _ _ _ _ (subst (λ (j : ℕ). cells m p k ≤ℤ higher m p j) (sym h.0) (up m p k)) (curves_below m p kept h.1)

  module _ (last : ℕ) (cards : Cards) (w : World) where
    -- ---- a basket
    column_sum_below : (b p k : ℕ) → k ≤ 2 → (netted_column cards cells b p).0 ≤ℤ over_months cards b (λ m. cells m p k)
    unfolding netted_column
    column_sum_below b p zero h = (least3_is _ _ _).none_less 0 (omega arith) (omega arith)
    column_sum_below b p (suc zero) h = (least3_is _ _ _).none_less 1 (omega arith) (omega arith)
    column_sum_below b p (suc (suc zero)) h = (least3_is _ _ _).none_less 2 (omega arith) (omega arith)
    column_sum_below b p (suc (suc (suc k))) h = absurd (omega arith)

    basket_below : (b p : ℕ) (netted : Bool) → netted_basket cards b ≡ netted → Months last cards w b netted → basket_result cards cells b p ≤ℤ basket_taken cards higher w b (Some p)
    unfolding netted_basket_result half_basket_result
    basket_below b p true e (k, h, each) =
        rw (netted_basket_lem last cards cells b p e) (≤ℤ-trans _ _ _
        (sum_le _ _ _ _ (column_sum_below b p k h) (≤ℤ_refl (over_months cards b (λ m. curve_result cells m p))))
        (rw (← total_add _ _ (λ m. cells m p k) (λ m. curve_result cells m p))
        (total_le _ _ _ _ (λ m less inside. netted_month_below m p k (w.months m) (each m less inside)))))
    basket_below b p false e each = rw (half_basket last cards cells b p e) (total_le _ _ _ _ (λ m less inside. half_month_below m p (w.months m) (each m less inside)))

    -- ---- a family
    basket_at_below : (f p b : ℕ) (choice : Option ℕ) → BasketAt last cards w f p b false choice → int_min (pos 0) (basket_result cards cells b p) ≤ℤ basket_taken cards higher w b choice
    basket_at_below f p b None h = lesser_0 (basket_result cards cells b p)
    basket_at_below f p b (Some q) h =
        ≤ℤ-trans _ _ _ (lesser_r (basket_result cards cells b p))
        (subst (λ (j : ℕ). basket_result cards cells b p ≤ℤ basket_taken cards higher w b (Some j)) (sym h.0) (basket_below b p (netted_basket cards b) refl h.1))

    basket_near_below : (f p b : ℕ) (choice : Option ℕ) → BasketAt last cards w f p b true choice → (worst_within last cards cells (window_of cards f) b p).0 ≤ℤ basket_taken cards higher w b choice
    unfolding worst_within
    basket_near_below f p b None h = absurd h
    basket_near_below f p b (Some q) h =
        ≤ℤ-trans _ _ _
        ((least_is (basket_result cards cells b) (window_start (window_of cards f) p) (window_end last (window_of cards f) p - window_start (window_of cards f) p)).none_less q (omega (arith, h.0)) (omega (arith, h.0)))
        (basket_below b q (netted_basket cards b) refl h.1)

    family_at_below : (f p : ℕ) (netted : Bool) → netted_family cards f ≡ netted → ((b : ℕ) → b < length cards.baskets → in_family cards f b ≡ true → BasketAt last cards w f p b netted (w.baskets b)) → family_result last cards cells f p ≤ℤ family_taken cards higher w f (Some p)
    unfolding netted_family_result half_family_result
    family_at_below f p true e each = rw (netted_family_lem last cards cells f p e) (total_le _ _ _ _ (λ b less inside. basket_near_below f p b (w.baskets b) (each b less inside)))
    family_at_below f p false e each = rw (half_family last cards cells f p e) (total_le _ _ _ _ (λ b less inside. basket_at_below f p b (w.baskets b) (each b less inside)))

    family_below : (f : ℕ) (choice : Option ℕ) → FamilyAt last cards w f choice → int_min (pos 0) (family_worst last cards cells f).0 ≤ℤ family_taken cards higher w f choice
    unfolding family_worst
    family_below f None h = lesser_0 (family_worst last cards cells f).0
    family_below f (Some p) h =
        ≤ℤ-trans _ _ _ (lesser_r (family_worst last cards cells f).0)
        (≤ℤ-trans _ _ _ ((least_is (family_result last cards cells f) 0 last).none_less p (omega arith) (omega (arith, h.0))) (family_at_below f p (netted_family cards f) refl h.1))

    pub world_below : IsWorld last cards w → total (length cards.families) (λ f. true) (λ f. int_min (pos 0) (family_worst last cards cells f).0) ≤ℤ taken cards higher w
    unfolding taken
    world_below h = total_le _ _ _ _ (λ f less each. family_below f (w.families f) (h f less))
