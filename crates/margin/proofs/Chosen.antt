-- The world handed out takes the lowest among equals.
use Rattle.std.proofs.Common.{◌≡◌, ℕ, zero, suc, ◌+◌, ◌-◌, ◌<◌, ◌≤◌, Bool, true, false, leb, ◌⊎◌, length, ℤ, pos, ◌≤ℤ◌, ◌<ℤ◌, Some, None, Option, sym, refl, ap, ◌∙◌, subst, inl, inr, arith}
use native.Mathlib.Decide.{dec_le}
use lib.Signed.{le_z, lt_z}
use Rattle.std.proofs.lemmas.Int.{ints}
use Rattle.std.proofs.lemmas.Bool.{le-leb}
use Rattle.margin.specs.Sums.{least, of3, least3}
use Rattle.margin.specs.declared.book.Open.{Open}
use Rattle.margin.specs.declared.choice.Counted.{Counted}
use Rattle.margin.specs.declared.choice.Kept.{Kept}
use Rattle.margin.specs.Book.{Cards, Book, named, month, line, order, netted_family, netted_basket, window_of, in_family, in_basket, in_month, over_months}
use Rattle.margin.specs.Cells.{cells}
use Rattle.margin.specs.Worlds.{AtMostOne, HalfMonth, counted_in}
use Rattle.margin.specs.HandedOut.{take_if_below0, column_at, kept_with, family_point, basket_point, month_kept, choices, order_loses, order_loses_in, order_counted_at, counted_of, handed_out}
use Rattle.margin.specs.Layers.{window_start, window_end, volatility_result, rate_result, twist_result, month_result, netted_column, basket_result, worst_within, family_result, family_worst}
use Rattle.margin.specs.Lowest.{Lowest, ColumnChosen, Keeps, RestChosen, MonthChosen, MonthsChosen, BasketChosen, FamilyChosen, HandedOutIsLowest}
use Rattle.margin.proofs.Counting.{counted_same}
use Rattle.margin.proofs.ByRule.{chosen, netted_month, half_month, netted_choice, half_choice}
use Rattle.margin.proofs.Reached.{named_is, kept_allowed, up_to_is, month_is, basket_is}
use Rattle.margin.proofs.SumLaws.{≤ℤ-trans, least_is}

-- ---- the least of a row
none_before : (row : ℕ → ℤ) (a n : ℕ) → (i : ℕ) → a ≤ i → i < (least le_z row a n).1 → (least le_z row a n).0 <ℤ row i
unfolding least
none_before row a zero i h k = absurd (omega arith)
none_before row a (suc n) i h k = choose (least le_z row (suc a) n) (λ j. none_before row (suc a) n j) (le_z (row a) (least le_z row (suc a) n).0) refl k
  where
    choose : (later : ℤ × ℕ) → ((j : ℕ) → suc a ≤ j → j < later.1 → later.0 <ℤ row j) → (b : Bool) → le_z (row a) later.0 ≡ b → i < (elim b as (λ c. ℤ × ℕ) [ true ↦ (row a, a) | false ↦ later ]).1 → (elim b as (λ c. ℤ × ℕ) [ true ↦ (row a, a) | false ↦ later ]).0 <ℤ row i
    choose later old true e k = absurd (omega arith)
    choose later old false e k = elim (dec_le (suc a) i) [ yes next ↦ old i next k | no here ↦ (let same : a ≡ i = omega arith in subst (λ (j : ℕ). later.0 <ℤ row j) same (beyond (row a) later.0 e)) ]
      where
        beyond : (x y : ℤ) → le_z x y ≡ false → y <ℤ x
        beyond x y e = omega (arith, ints)

pub lowest_of : (row : ℕ → ℤ) (a n end : ℕ) → a + n ≡ end → Lowest row a end (least le_z row a n).1
lowest_of row a n end e =
    let is = least_is row a n in
    record {
      from = is.from;
      to = omega (arith, is.to, e);
      none_less = λ i h k. rw is.at (is.none_less i h (omega (arith, e)));
      none_before = λ i h k. rw is.at (none_before row a n i h k);
    }

-- rows that agree are lowest at the same place
lowest_same : (f g : ℕ → ℤ) (first end place : ℕ) → ((i : ℕ) → i ≤ end → f i ≡ g i) → Lowest f first end place → Lowest g first end place
lowest_same f g first end place same low = record {
  from = low.from;
  to = low.to;
  none_less = λ i h k. rw (← same place low.to, ← same i k) (low.none_less i h k);
  none_before = λ i h k. let near : i ≤ end = omega (arith, low.to) in rw (← same place low.to, ← same i near) (low.none_before i h k);
}

-- what may be left out is taken exactly below 0
take_exactly : {A : Type 0} (r : ℤ) (a : A) (P : Option A → Type 0) → (pos 0 ≤ℤ r → P None) → (r <ℤ pos 0 → take_if_below0 r a ≡ Some a → P (Some a)) → P (take_if_below0 r a)
unfolding take_if_below0
take_exactly {A} r a P out in' = by (lt_z r (pos 0)) refl
  where
    by : (b : Bool) → lt_z r (pos 0) ≡ b → P (elim b [ true ↦ Some a | false ↦ None ])
    by true e = in' (omega (arith, ints)) (chosen (Some a) None _ _ e)
    by false e = out (omega (arith, ints))

-- ---- a month's columns
-- one of two columns, or none, by its place among 0 and the two
column_chosen : (cell : ℕ → ℤ) (first n : ℕ) → Lowest (of3 (pos 0) (cell first) (cell (first + 1))) 0 2 n → ColumnChosen cell first (column_at first n)
unfolding column_at
column_chosen cell first zero low = (low.none_less 1 (omega arith) (omega arith), low.none_less 2 (omega arith) (omega arith))
column_chosen cell first (suc zero) low =
    let at : first ≡ first + 0 = omega arith in
    subst (λ (k : ℕ). ColumnChosen cell first (Some k)) at (
      low.none_before 0 (omega arith) (omega arith),
      record {
        from = omega arith;
        to = omega arith;
        none_less = λ i h k. two i (λ j. cell first ≤ℤ cell j) h k (low.none_less 1 (omega arith) (omega arith)) (low.none_less 2 (omega arith) (omega arith));
        none_before = λ i h k. absurd (omega arith);
      },
    )
  where
    two : (i : ℕ) (P : ℕ → Type 0) → first ≤ i → i ≤ first + 1 → P first → P (first + 1) → P i
    two i P h k a b = elim (dec_le (first + 1) i) [ yes next ↦ (let e : first + 1 ≡ i = omega arith in subst P e b) | no here ↦ (let e : first ≡ i = omega arith in subst P e a) ]
column_chosen cell first (suc (suc zero)) low = (
  low.none_before 0 (omega arith) (omega arith),
  record {
    from = omega arith;
    to = omega arith;
    none_less = λ i h k. two i (λ j. cell (first + 1) ≤ℤ cell j) h k (low.none_less 1 (omega arith) (omega arith)) (low.none_less 2 (omega arith) (omega arith));
    none_before = λ i h k. let e : first ≡ i = omega arith in subst (λ (j : ℕ). cell (first + 1) <ℤ cell j) e (low.none_before 1 (omega arith) (omega arith));
  },
)
  where
    two : (i : ℕ) (P : ℕ → Type 0) → first ≤ i → i ≤ first + 1 → P first → P (first + 1) → P i
    two i P h k a b = elim (dec_le (first + 1) i) [ yes next ↦ (let e : first + 1 ≡ i = omega arith in subst P e b) | no here ↦ (let e : first ≡ i = omega arith in subst P e a) ]
column_chosen cell first (suc (suc (suc n))) low = absurd (omega (arith, low.to))

lowest_of_3 : (a b c : ℤ) → Lowest (of3 a b c) 0 2 (least3 a b c).1
unfolding least3
lowest_of_3 a b c = lowest_of (of3 a b c) 0 2 2 refl

of_three : (row : ℕ → ℤ) (i : ℕ) → i ≤ 2 → of3 (row 0) (row 1) (row 2) i ≡ row i
of_three row zero h = refl
of_three row (suc zero) h = refl
of_three row (suc (suc zero)) h = refl
of_three row (suc (suc (suc i))) h = absurd (omega arith)

-- ---- the world handed out
module _ (last : ℕ) (price : ℕ → ℕ → ℕ → ℤ) (cards : Cards) (book : Book) where
  -- an order of a month that is kept
  counted_is : (m p i : ℕ) (kept : Kept) → basket_point last cards (cells last price cards book) (named (month cards m).basket) ≡ Some p → month_kept last cards (cells last price cards book) m ≡ Some kept → in_month cards m (order book i).line ≡ true → counted_of last price cards book i ≡ order_counted_at price (order book i) (Some p) (Some kept)
  unfolding in_month
  counted_is m p i kept point is inside =
      let at-month : named (line cards (order book i).line).month ≡ m = named_is (line cards (order book i).line).month m inside in
      counted_same last price cards book i
      ∙ ap (λ (n : ℕ). order_counted_at price (order book i) (basket_point last cards (cells last price cards book) (named (month cards n).basket)) (month_kept last cards (cells last price cards book) n)) at-month
      ∙ ap (λ (o : Option ℕ). order_counted_at price (order book i) o (month_kept last cards (cells last price cards book) m)) point
      ∙ ap (order_counted_at price (order book i) (Some p)) is

  counted_in_lem : (o : Open) (p : ℕ) (kept : Kept) → HalfMonth (Some kept) → (k : ℕ) → Keeps kept k → counted_in (order_counted_at price o (Some p) (Some kept)) k ≡ order_loses price o p k
  unfolding counted_in
  counted_in_lem o p kept h k (inl e) = rw e (chosen (order_loses price o p kept.volatility) _ (leb kept.volatility 2) true (le-leb kept.volatility 2 h.0))
  counted_in_lem o p kept h k (inr (inl e)) = by (subst (AtMostOne 3) e h.1.one_rate)
    where
      by : (k ≡ 3) ⊎ (k ≡ 3 + 1) → counted_in (order_counted_at price o (Some p) (Some kept)) k ≡ order_loses price o p k
      by (inl a) = rw a (ap (order_loses_in price o p) (e ∙ ap Some a))
      by (inr a) = rw a (ap (order_loses_in price o p) (e ∙ ap Some a))
  counted_in_lem o p kept h k (inr (inr e)) = by (subst (AtMostOne 5) e h.1.one_twist)
    where
      by : (k ≡ 5) ⊎ (k ≡ 5 + 1) → counted_in (order_counted_at price o (Some p) (Some kept)) k ≡ order_loses price o p k
      by (inl a) = rw a (ap (order_loses_in price o p) (e ∙ ap Some a))
      by (inr a) = rw a (ap (order_loses_in price o p) (e ∙ ap Some a))

  rate_chosen : (m p k : ℕ) → ColumnChosen (cells last price cards book m p) 3 (kept_with (cells last price cards book) k m p).rate
  unfolding kept_with rate_result
  rate_chosen m p k = column_chosen (cells last price cards book m p) 3 _ (lowest_of_3 (pos 0) (cells last price cards book m p 3) (cells last price cards book m p 4))

  twist_chosen : (m p k : ℕ) → ColumnChosen (cells last price cards book m p) 5 (kept_with (cells last price cards book) k m p).twist
  unfolding kept_with twist_result
  twist_chosen m p k = column_chosen (cells last price cards book m p) 5 _ (lowest_of_3 (pos 0) (cells last price cards book m p 5) (cells last price cards book m p 6))

  rest_chosen : (k m p : ℕ) → k ≤ 2 → basket_point last cards (cells last price cards book) (named (month cards m).basket) ≡ Some p → month_kept last cards (cells last price cards book) m ≡ Some (kept_with (cells last price cards book) k m p) → RestChosen last price cards book (handed_out last price cards book) m p (kept_with (cells last price cards book) k m p)
  unfolding handed_out choices
  rest_chosen k m p few point is = record {
    rate = rate_chosen m p k;
    twist = twist_chosen m p k;
    orders = λ i inside column keeps. ap (λ (c : Counted). counted_in c column) (counted_is m p i (kept_with (cells last price cards book) k m p) point is inside) ∙ counted_in_lem (order book i) p (kept_with (cells last price cards book) k m p) (kept_allowed (cells last price cards book) k m p few) column keeps;
  }

  -- ---- a month
  netted_lowest : (b p m : ℕ) → Lowest (λ k. over_months cards b (λ n. cells last price cards book n p k)) 0 2 (kept_with (cells last price cards book) (netted_column cards (cells last price cards book) b p).1 m p).volatility
  unfolding netted_column kept_with
  netted_lowest b p m =
      let row = λ (k : ℕ). over_months cards b (λ n. cells last price cards book n p k) in
      lowest_same (of3 (row 0) (row 1) (row 2)) row 0 2 _ (of_three row) (lowest_of_3 (row 0) (row 1) (row 2))

  half_lowest : (m p : ℕ) → Lowest (cells last price cards book m p) 0 2 (kept_with (cells last price cards book) (volatility_result (cells last price cards book) m p).1 m p).volatility
  unfolding volatility_result kept_with
  half_lowest m p =
      let row = cells last price cards book m p in
      lowest_same (of3 (row 0) (row 1) (row 2)) row 0 2 _ (of_three row) (lowest_of_3 (row 0) (row 1) (row 2))

  few_columns : (k m p : ℕ) {row : ℕ → ℤ} → Lowest row 0 2 (kept_with (cells last price cards book) k m p).volatility → k ≤ 2
  unfolding kept_with
  few_columns k m p low = low.to

  month_chosen : (b p m : ℕ) (netted : Bool) → netted_basket cards b ≡ netted → basket_point last cards (cells last price cards book) b ≡ Some p → in_basket cards b m ≡ true → MonthChosen last price cards book (handed_out last price cards book) b p m netted (month_kept last cards (cells last price cards book) m)
  unfolding in_basket
  month_chosen b p m true e at inside =
      let column = (netted_column cards (cells last price cards book) b p).1 in
      let is = month_is (cells last price cards book) last cards (counted_of last price cards book) b p m at inside ∙ netted_month last cards (cells last price cards book) b p m e in
      let point = ap (basket_point last cards (cells last price cards book)) (named_is (month cards m).basket b inside) ∙ at in
      let low = netted_lowest b p m in
      subst (λ (o : Option Kept). MonthChosen last price cards book (handed_out last price cards book) b p m true o) (sym is)
      (low, rest_chosen column m p (few_columns column m p low) point is)
  month_chosen b p m false e at inside =
      let column = (volatility_result (cells last price cards book) m p).1 in
      let is = month_is (cells last price cards book) last cards (counted_of last price cards book) b p m at inside ∙ half_month last cards (cells last price cards book) b p m e in
      let point = ap (basket_point last cards (cells last price cards book)) (named_is (month cards m).basket b inside) ∙ at in
      let low = half_lowest m p in
      subst (λ (o : Option Kept). MonthChosen last price cards book (handed_out last price cards book) b p m false o) (sym is)
      (take_exactly (month_result (cells last price cards book) m p) (kept_with (cells last price cards book) column m p) (MonthChosen last price cards book (handed_out last price cards book) b p m false) (λ out. out)
      (λ below t. (below, low, rest_chosen column m p (few_columns column m p low) point (is ∙ t))))

  months_chosen : (b p : ℕ) → basket_point last cards (cells last price cards book) b ≡ Some p → MonthsChosen last price cards book (handed_out last price cards book) b p
  unfolding handed_out choices
  months_chosen b p at = λ m less inside.
      subst (λ (o : Option Kept). MonthChosen last price cards book (handed_out last price cards book) b p m (netted_basket cards b) o)
      (sym (up_to_is (length cards.months) (month_kept last cards (cells last price cards book)) m less))
      (month_chosen b p m (netted_basket cards b) refl at inside)

  -- ---- a basket
  window_lowest : (w b p : ℕ) → p ≤ last → Lowest (basket_result cards (cells last price cards book) b) (window_start w p) (window_end last w p) (worst_within last cards (cells last price cards book) w b p).1
  unfolding worst_within
  window_lowest w b p h = lowest_of (basket_result cards (cells last price cards book) b) (window_start w p) (window_end last w p - window_start w p) (window_end last w p) (omega arith)

  basket_chosen : (f p b : ℕ) (netted : Bool) → netted_family cards f ≡ netted → p ≤ last → family_point last cards (cells last price cards book) f ≡ Some p → in_family cards f b ≡ true → BasketChosen last price cards book (handed_out last price cards book) f p b netted (basket_point last cards (cells last price cards book) b)
  basket_chosen f p b true e h at inside =
      let is = basket_is (cells last price cards book) last cards (counted_of last price cards book) f p b at inside ∙ netted_choice last cards (cells last price cards book) f p b e in
      subst (λ (o : Option ℕ). BasketChosen last price cards book (handed_out last price cards book) f p b true o) (sym is)
      (window_lowest (window_of cards f) b p h, months_chosen b _ is)
  basket_chosen f p b false e h at inside =
      let is = basket_is (cells last price cards book) last cards (counted_of last price cards book) f p b at inside ∙ half_choice last cards (cells last price cards book) f p b e in
      subst (λ (o : Option ℕ). BasketChosen last price cards book (handed_out last price cards book) f p b false o) (sym is)
      (take_exactly (basket_result cards (cells last price cards book) b p) p (BasketChosen last price cards book (handed_out last price cards book) f p b false) (λ out. out)
      (λ below t. (refl, below, months_chosen b p (is ∙ t))))

  -- ---- a family
  family_chosen : (f : ℕ) → FamilyChosen last price cards book (handed_out last price cards book) f (family_point last cards (cells last price cards book) f)
  unfolding family_point family_worst handed_out choices
  family_chosen f =
      let row = family_result last cards (cells last price cards book) f in
      let is = least_is row 0 last in
      take_exactly (family_worst last cards (cells last price cards book) f).0 (family_worst last cards (cells last price cards book) f).1 (FamilyChosen last price cards book (handed_out last price cards book) f)
      (λ out q h. ≤ℤ-trans _ _ _ out (is.none_less q (omega arith) (omega arith)))
      (λ below at.
      let on_grid : (family_worst last cards (cells last price cards book) f).1 ≤ last = omega (arith, is.to) in (
        rw is.at below,
        lowest_of row 0 last last (omega arith),
        λ b less inside.
            subst (λ (o : Option ℕ). BasketChosen last price cards book (handed_out last price cards book) f (family_worst last cards (cells last price cards book) f).1 b (netted_family cards f) o)
            (sym (up_to_is (length cards.baskets) (basket_point last cards (cells last price cards book)) b less))
            (basket_chosen f _ b (netted_family cards f) refl on_grid at inside),
      ))

pub handed_out_is_lowest : HandedOutIsLowest
unfolding handed_out choices
handed_out_is_lowest last price cards book f less =
    subst (λ (o : Option ℕ). FamilyChosen last price cards book (handed_out last price cards book) f o)
    (sym (up_to_is (length cards.families) (family_point last cards (cells last price cards book)) f less))
    (family_chosen last price cards book f)
