-- The choices of the world handed out make a world, and what it takes is no more than the families' worsts, for any cells: a lemma for each layer.
use Rattle.std.proofs.Common.{◌≡◌, ℕ, zero, suc, ◌+◌, ◌-◌, ◌<◌, ◌≤◌, Bool, true, false, T, ltb, length, ℤ, pos, negsuc, ◌+ℤ◌, ◌≤ℤ◌, Some, None, Option, sym, refl, ap, ◌∙◌, subst, inl, inr, arith, eqb→eq}
use lib.Signed.{lt_z, ≤ℤ_refl}
use Rattle.std.specs.Int.{int_min}
use Rattle.std.proofs.lemmas.Int.{ints, clamps}
use Rattle.std.proofs.lemmas.Bool.{lt-ltb}
use Rattle.margin.specs.declared.choice.Kept.{Kept}
use Rattle.margin.specs.declared.choice.Counted.{Counted}
use Rattle.margin.specs.Sums.{total, of3, least3}
use Rattle.margin.specs.Book.{Cards, names, named, basket, month, netted_family, netted_basket, window_of, in_family, in_basket, over_baskets, over_months}
use Rattle.margin.specs.Layers.{window_start, window_end, volatility_result, rate_result, twist_result, curve_result, month_result, netted_column, netted_basket_result, half_basket_result, basket_result, worst_within, netted_family_result, half_family_result, family_result, family_worst}
use Rattle.margin.specs.Worlds.{World, Near, AtMostOne, HalfMonth, NettedMonth, Months, BasketAt, FamilyAt, IsWorld, column_taken, month_taken, basket_taken, family_taken, taken}
use Rattle.margin.specs.HandedOut.{up_to, take_if_below0, column_at, kept_with, month_in, basket_in, family_point, basket_point, month_kept, choices}
use Rattle.margin.proofs.ByRule.{chosen, netted_basket_lem, half_basket, netted_family_lem, half_family, netted_month, half_month, netted_choice, half_choice}
use Rattle.margin.proofs.SumLaws.{under, not_under, total_le, total_add, least_is, least3_is}

-- a card that names a number has it
pub named_is : (z : ℤ) (i : ℕ) → names z i ≡ true → named z ≡ i
unfolding names named
named_is (pos n) i e = eqb→eq n i (subst T (sym e) tt)
named_is (negsuc n) i e = absurd (subst (λ (b : Bool). T b) (sym e) tt)

-- what may be left out is left out at 0 and above, and taken below
pub take_cases : {A : Type 0} (r : ℤ) (a : A) (P : Option A → Type 0) → (pos 0 ≤ℤ r → P None) → (r ≤ℤ pos 0 → take_if_below0 r a ≡ Some a → P (Some a)) → P (take_if_below0 r a)
unfolding take_if_below0
take_cases {A} r a P out in' = by (lt_z r (pos 0)) refl
  where
    by : (b : Bool) → lt_z r (pos 0) ≡ b → P (elim b [ true ↦ Some a | false ↦ None ])
    by true e = in' (under _ _ e) (chosen (Some a) None _ _ e)
    by false e = out (not_under _ _ e)

pub take_reached : {A : Type 0} (r : ℤ) (a : A) (value : Option A → ℤ) → value None ≤ℤ pos 0 → (take_if_below0 r a ≡ Some a → value (Some a) ≤ℤ r) → value (take_if_below0 r a) ≤ℤ int_min (pos 0) r
take_reached r a value none some = take_cases r a (λ o. value o ≤ℤ int_min (pos 0) r) (λ h. out (value None) none h) (λ h e. kept (value (Some a)) (some e) h)
  where
    out : (v : ℤ) → v ≤ℤ pos 0 → pos 0 ≤ℤ r → v ≤ℤ int_min (pos 0) r
    out v h k = omega (arith, ints, clamps)

    kept : (v : ℤ) → v ≤ℤ r → r ≤ℤ pos 0 → v ≤ℤ int_min (pos 0) r
    kept v h k = omega (arith, ints, clamps)

-- a number below the bound has its choice, and what is chosen is that choice
pub up_to_is : {A : Type 0} (n : ℕ) (choice : ℕ → Option A) (i : ℕ) → i < n → up_to n choice i ≡ choice i
unfolding up_to
up_to_is n choice i h = chosen (choice i) None (ltb i n) true (lt-ltb i n h)

pub up_to_some : {A : Type 0} (n : ℕ) (choice : ℕ → Option A) (i : ℕ) (a : A) → up_to n choice i ≡ Some a → choice i ≡ Some a
unfolding up_to
up_to_some {A} n choice i a e = by (ltb i n) e
  where
    by : (b : Bool) → ◌≡◌ {A = Option A} (elim b [ true ↦ choice i | false ↦ None ]) (Some a) → choice i ≡ Some a
    by true k = k
    by false k = let z : ◌≡◌ {A = ℕ} 0 1 = cc in absurd (omega arith)

-- the column at a place of the three: none, the first or the one after
pub column_at_lem : (first n : ℕ) → n ≤ 2 → AtMostOne first (column_at first n)
unfolding column_at
column_at_lem first zero h = tt
column_at_lem first (suc zero) h = inl (omega arith)
column_at_lem first (suc (suc zero)) h = inr refl
column_at_lem first (suc (suc (suc n))) h = absurd (omega arith)

module _ (cells : ℕ → ℕ → ℕ → ℤ) where
  -- ---- a month
  column_is : (m p first n : ℕ) → n ≤ 2 → column_taken (cells m p) (column_at first n) ≡ of3 (pos 0) (cells m p first) (cells m p (first + 1)) n
  unfolding column_at
  column_is m p first zero h = refl
  column_is m p first (suc zero) h = ap (cells m p) (omega arith)
  column_is m p first (suc (suc zero)) h = refl
  column_is m p first (suc (suc (suc n))) h = absurd (omega arith)

  column_reached : (m p first : ℕ) → let r = least3 (pos 0) (cells m p first) (cells m p (first + 1)) in column_taken (cells m p) (column_at first r.1) ≡ r.0
  column_reached m p first =
      let is = least3_is (pos 0) (cells m p first) (cells m p (first + 1)) in
      column_is m p first _ (omega (arith, is.to)) ∙ is.at

  pub kept_allowed : (k m p : ℕ) → k ≤ 2 → HalfMonth (Some (kept_with cells k m p))
  unfolding kept_with rate_result twist_result
  kept_allowed k m p h = (h, record { one_rate = column_at_lem 3 _ (omega (arith, (least3_is (pos 0) (cells m p 3) (cells m p 4)).to)); one_twist = column_at_lem 5 _ (omega (arith, (least3_is (pos 0) (cells m p 5) (cells m p 6)).to)) })

  kept_reached : (k m p : ℕ) → month_taken cells m p (Some (kept_with cells k m p)) ≡ cells m p k +ℤ curve_result cells m p
  unfolding kept_with curve_result rate_result twist_result
  kept_reached k m p = ap (λ (z : ℤ). cells m p k +ℤ z) (cc (column_reached m p 3, column_reached m p 5))

  of_volatility : (m p n : ℕ) → n ≤ 2 → cells m p n ≡ of3 (cells m p 0) (cells m p 1) (cells m p 2) n
  of_volatility m p zero h = refl
  of_volatility m p (suc zero) h = refl
  of_volatility m p (suc (suc zero)) h = refl
  of_volatility m p (suc (suc (suc n))) h = absurd (omega arith)

  volatility_place : (m p : ℕ) → (volatility_result cells m p).1 ≤ 2
  unfolding volatility_result
  volatility_place m p = omega (arith, (least3_is (cells m p 0) (cells m p 1) (cells m p 2)).to)

  volatility_reached : (m p : ℕ) → cells m p (volatility_result cells m p).1 ≡ (volatility_result cells m p).0
  unfolding volatility_result
  volatility_reached m p = of_volatility m p _ (volatility_place m p) ∙ (least3_is (cells m p 0) (cells m p 1) (cells m p 2)).at

  half_month_same : (m p : ℕ) → month_taken cells m p (Some (kept_with cells (volatility_result cells m p).1 m p)) ≤ℤ month_result cells m p
  unfolding month_result
  half_month_same m p = rw (kept_reached (volatility_result cells m p).1 m p, volatility_reached m p) (≤ℤ_refl _)

  half_month_reached : (m p : ℕ) → month_taken cells m p (take_if_below0 (month_result cells m p) (kept_with cells (volatility_result cells m p).1 m p)) ≤ℤ int_min (pos 0) (month_result cells m p)
  half_month_reached m p = take_reached (month_result cells m p) (kept_with cells (volatility_result cells m p).1 m p) (month_taken cells m p) (≤ℤ_refl (pos 0)) (λ e. half_month_same m p)

  module _ (last : ℕ) (cards : Cards) (orders : ℕ → Counted) where
    handed : World
    handed = choices last cards cells orders

    -- ---- a basket
    column_place : (b p : ℕ) → (netted_column cards cells b p).1 ≤ 2
    unfolding netted_column
    column_place b p = omega (arith, (least3_is (over_months cards b (λ m. cells m p 0)) (over_months cards b (λ m. cells m p 1)) (over_months cards b (λ m. cells m p 2))).to)

    column_sum : (b p n : ℕ) → n ≤ 2 → over_months cards b (λ m. cells m p n) ≡ of3 (over_months cards b (λ m. cells m p 0)) (over_months cards b (λ m. cells m p 1)) (over_months cards b (λ m. cells m p 2)) n
    column_sum b p zero h = refl
    column_sum b p (suc zero) h = refl
    column_sum b p (suc (suc zero)) h = refl
    column_sum b p (suc (suc (suc n))) h = absurd (omega arith)

    column_sum_reached : (b p : ℕ) → over_months cards b (λ m. cells m p (netted_column cards cells b p).1) ≡ (netted_column cards cells b p).0
    unfolding netted_column
    column_sum_reached b p = column_sum b p _ (column_place b p) ∙ (least3_is (over_months cards b (λ m. cells m p 0)) (over_months cards b (λ m. cells m p 1)) (over_months cards b (λ m. cells m p 2))).at

    -- a month of a basket that is taken
    pub month_is : (b p m : ℕ) → basket_point last cards cells b ≡ Some p → in_basket cards b m ≡ true → month_kept last cards cells m ≡ month_in last cards cells b p m
    unfolding month_kept in_basket
    month_is b p m e inside = ap (λ (c : ℕ). by c (basket_point last cards cells c)) (named_is (month cards m).basket b inside) ∙ ap (by b) e
      where
        by : ℕ → Option ℕ → Option Kept
        by c o = elim o [ None ↦ None | Some q ↦ month_in last cards cells c q m ]

    in_list : (m : ℕ) → m < length cards.months → up_to (length cards.months) (month_kept last cards cells) m ≡ month_kept last cards cells m
    in_list m less = up_to_is (length cards.months) (month_kept last cards cells) m less

    basket_reached : (b p : ℕ) (netted : Bool) → netted_basket cards b ≡ netted → basket_point last cards cells b ≡ Some p → basket_taken cards cells handed b (Some p) ≤ℤ basket_result cards cells b p
    unfolding handed choices netted_basket_result half_basket_result
    basket_reached b p true e at =
        rw (netted_basket_lem last cards cells b p e, ← column_sum_reached b p)
        (rw (← total_add _ _ (λ m. cells m p (netted_column cards cells b p).1) (λ m. curve_result cells m p))
        (total_le _ _ _ _ (λ m less inside. rw (in_list m less, month_is b p m at inside, netted_month last cards cells b p m e, kept_reached (netted_column cards cells b p).1 m p) (≤ℤ_refl _))))
    basket_reached b p false e at =
        rw (half_basket last cards cells b p e)
        (total_le _ _ _ _ (λ m less inside. rw (in_list m less, month_is b p m at inside, half_month last cards cells b p m e) (half_month_reached m p)))

    -- ---- a family
    -- a basket of a family that is taken
    pub basket_is : (f p b : ℕ) → family_point last cards cells f ≡ Some p → in_family cards f b ≡ true → basket_point last cards cells b ≡ basket_in last cards cells f p b
    unfolding basket_point in_family
    basket_is f p b e inside = ap (λ (c : ℕ). by c (family_point last cards cells c)) (named_is (basket cards b).family f inside) ∙ ap (by f) e
      where
        by : ℕ → Option ℕ → Option ℕ
        by c o = elim o [ None ↦ None | Some q ↦ basket_in last cards cells c q b ]

    worst_reached : (w b p : ℕ) → basket_result cards cells b (worst_within last cards cells w b p).1 ≡ (worst_within last cards cells w b p).0
    unfolding worst_within
    worst_reached w b p = (least_is (basket_result cards cells b) (window_start w p) (window_end last w p - window_start w p)).at

    netted_basket_reached : (f p b : ℕ) → basket_point last cards cells b ≡ Some (worst_within last cards cells (window_of cards f) b p).1 → basket_taken cards cells handed b (basket_point last cards cells b) ≤ℤ (worst_within last cards cells (window_of cards f) b p).0
    netted_basket_reached f p b e = rw (← worst_reached (window_of cards f) b p) (subst (λ (o : Option ℕ). basket_taken cards cells handed b o ≤ℤ basket_result cards cells b (worst_within last cards cells (window_of cards f) b p).1) (sym e) (basket_reached b _ (netted_basket cards b) refl e))

    half_basket_reached : (p b : ℕ) → basket_point last cards cells b ≡ take_if_below0 (basket_result cards cells b p) p → basket_taken cards cells handed b (basket_point last cards cells b) ≤ℤ int_min (pos 0) (basket_result cards cells b p)
    half_basket_reached p b e = subst (λ (o : Option ℕ). basket_taken cards cells handed b o ≤ℤ int_min (pos 0) (basket_result cards cells b p)) (sym e)
        (take_reached (basket_result cards cells b p) p (basket_taken cards cells handed b) (≤ℤ_refl (pos 0)) (λ k. basket_reached b p (netted_basket cards b) refl (e ∙ k)))

    family_at_reached : (f p : ℕ) (netted : Bool) → netted_family cards f ≡ netted → family_point last cards cells f ≡ Some p → over_baskets cards f (λ b. basket_taken cards cells handed b (up_to (length cards.baskets) (basket_point last cards cells) b)) ≤ℤ family_result last cards cells f p
    unfolding netted_family_result half_family_result
    family_at_reached f p true e at =
        rw (netted_family_lem last cards cells f p e)
        (total_le _ _ _ _ (λ b less inside. rw (up_to_is (length cards.baskets) (basket_point last cards cells) b less) (netted_basket_reached f p b (basket_is f p b at inside ∙ netted_choice last cards cells f p b e))))
    family_at_reached f p false e at =
        rw (half_family last cards cells f p e)
        (total_le _ _ _ _ (λ b less inside. rw (up_to_is (length cards.baskets) (basket_point last cards cells) b less) (half_basket_reached p b (basket_is f p b at inside ∙ half_choice last cards cells f p b e))))

    row_reached : (f : ℕ) → family_result last cards cells f (family_worst last cards cells f).1 ≡ (family_worst last cards cells f).0
    unfolding family_worst
    row_reached f = (least_is (family_result last cards cells f) 0 last).at

    family_reached : (f : ℕ) → family_taken cards cells handed f (family_point last cards cells f) ≤ℤ int_min (pos 0) (family_worst last cards cells f).0
    unfolding family_point handed choices
    family_reached f =
        take_reached (family_worst last cards cells f).0 (family_worst last cards cells f).1 (family_taken cards cells handed f) (≤ℤ_refl (pos 0))
        (λ e. rw (← row_reached f) (family_at_reached f (family_worst last cards cells f).1 (netted_family cards f) refl e))

    pub world_reached : taken cards cells (choices last cards cells orders) ≤ℤ total (length cards.families) (λ f. true) (λ f. int_min (pos 0) (family_worst last cards cells f).0)
    unfolding taken handed choices
    world_reached = total_le _ _ _ _ (λ f less each. rw (up_to_is (length cards.families) (family_point last cards cells) f less) (family_reached f))

    -- ---- the choices make a world
    month_in_allowed : (b p m : ℕ) (netted : Bool) → netted_basket cards b ≡ netted → HalfMonth (month_in last cards cells b p m)
    month_in_allowed b p m true e = rw (netted_month last cards cells b p m e) (kept_allowed _ m p (column_place b p))
    month_in_allowed b p m false e = rw (half_month last cards cells b p m e) (take_cases _ _ HalfMonth (λ h. tt) (λ h k. kept_allowed _ m p (volatility_place m p)))

    pub month_allowed : (m : ℕ) → HalfMonth (month_kept last cards cells m)
    unfolding month_kept
    month_allowed m = by (basket_point last cards cells (named (month cards m).basket))
      where
        by : (o : Option ℕ) → HalfMonth (elim o [ None ↦ None | Some q ↦ month_in last cards cells (named (month cards m).basket) q m ])
        by None = tt
        by (Some q) = month_in_allowed (named (month cards m).basket) q m (netted_basket cards (named (month cards m).basket)) refl

    months_allowed : (b p : ℕ) (netted : Bool) → netted_basket cards b ≡ netted → basket_point last cards cells b ≡ Some p → Months last cards (choices last cards cells orders) b netted
    unfolding choices kept_with
    months_allowed b p true e at = (
      (netted_column cards cells b p).1,
      column_place b p,
      λ m less inside. subst (λ (o : Option Kept). NettedMonth (netted_column cards cells b p).1 o) (sym (in_list m less ∙ month_is b p m at inside ∙ netted_month last cards cells b p m e)) (at_column m),
    )
      where
        at_column : (m : ℕ) → NettedMonth (netted_column cards cells b p).1 (Some (kept_with cells (netted_column cards cells b p).1 m p))
        at_column m = (refl, (kept_allowed _ m p (column_place b p)).1)
    months_allowed b p false e at = λ m less inside. rw (in_list m less) (month_allowed m)

    worst_near : (w b p : ℕ) → p ≤ last → Near last w p (worst_within last cards cells w b p).1
    unfolding worst_within
    worst_near w b p h =
        let is = least_is (basket_result cards cells b) (window_start w p) (window_end last w p - window_start w p) in
        record { below = omega (arith, is.from, is.to); beyond = omega (arith, is.from, is.to); on_grid = omega (arith, is.from, is.to) }

    basket_allowed : (f p b : ℕ) (netted : Bool) → netted_family cards f ≡ netted → p ≤ last → family_point last cards cells f ≡ Some p → in_family cards f b ≡ true → BasketAt last cards (choices last cards cells orders) f p b netted (basket_point last cards cells b)
    basket_allowed f p b true e h at inside =
        let is = basket_is f p b at inside ∙ netted_choice last cards cells f p b e in
        subst (λ (o : Option ℕ). BasketAt last cards (choices last cards cells orders) f p b true o) (sym is)
        (worst_near (window_of cards f) b p h, months_allowed b _ (netted_basket cards b) refl is)
    basket_allowed f p b false e h at inside =
        let is = basket_is f p b at inside ∙ half_choice last cards cells f p b e in
        subst (λ (o : Option ℕ). BasketAt last cards (choices last cards cells orders) f p b false o) (sym is)
        (take_cases (basket_result cards cells b p) p (BasketAt last cards (choices last cards cells orders) f p b false) (λ k. tt) (λ k t. (refl, months_allowed b p (netted_basket cards b) refl (is ∙ t))))

    family_allowed : (f : ℕ) → FamilyAt last cards (choices last cards cells orders) f (family_point last cards cells f)
    unfolding family_point family_worst choices
    family_allowed f =
        take_cases (family_worst last cards cells f).0 (family_worst last cards cells f).1 (FamilyAt last cards (choices last cards cells orders) f) (λ k. tt)
        (λ k at.
        let on_grid : (family_worst last cards cells f).1 ≤ last = omega (arith, (least_is (family_result last cards cells f) 0 last).to) in
        (on_grid, λ b less inside. rw (up_to_is (length cards.baskets) (basket_point last cards cells) b less) (basket_allowed f _ b (netted_family cards f) refl on_grid at inside)))

    pub choices_make_a_world : IsWorld last cards (choices last cards cells orders)
    unfolding choices
    choices_make_a_world f less = rw (up_to_is (length cards.families) (family_point last cards cells) f less) (family_allowed f)
