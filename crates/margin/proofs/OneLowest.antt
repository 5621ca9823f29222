-- Two worlds that take the lowest among equals take the same.
use Rattle.std.proofs.Common.{◌≡◌, ℕ, ◌+◌, Bool, true, false, ℤ, pos, ◌≤ℤ◌, ◌<ℤ◌, Some, None, Option, sym, refl, ap, ◌∙◌, subst, arith}
use native.Mathlib.Decide.{dec_le}
use Rattle.std.proofs.lemmas.Int.{ints}
use Rattle.margin.specs.declared.choice.Kept.{Kept}
use Rattle.margin.specs.Book.{Cards, Book, netted_family, netted_basket}
use Rattle.margin.specs.Cells.{cells}
use Rattle.margin.specs.Worlds.{World}
use Rattle.margin.specs.Lowest.{Lowest, ColumnChosen, Keeps, RestChosen, MonthChosen, MonthsChosen, BasketChosen, FamilyChosen, WhereTaken, SameOrders, SameMonths, SameBaskets, NoOtherIsLowest}

never_both : (x : ℤ) → pos 0 ≤ℤ x → x <ℤ pos 0 → ⊥
never_both x h k = omega (arith, ints)

turned : (x y : ℤ) → x ≤ℤ y → y <ℤ x → ⊥
turned x y h k = omega (arith, ints)

lowest_is_one : (row : ℕ → ℤ) (first end p q : ℕ) → Lowest row first end p → Lowest row first end q → p ≡ q
lowest_is_one row first end p q low also = elim (dec_le p q) [
  | yes h ↦ elim (dec_le q p) [
    | yes k ↦ omega arith
    | no k ↦ absurd (turned (row p) (row q) (low.none_less q also.from also.to) (also.none_before p low.from (omega arith)))
  ]
  | no h ↦ absurd (turned (row q) (row p) (also.none_less p low.from low.to) (low.none_before q also.from (omega arith)))
]

-- where neither of two columns is below 0, none of them is
neither : (cell : ℕ → ℤ) (first k : ℕ) → ColumnChosen cell first None → ColumnChosen cell first (Some k) → ⊥
neither cell first k a b = elim (dec_le (first + 1) k) [ yes h ↦ (let e : first + 1 ≡ k = omega (arith, b.1.to) in never_both (cell k) (subst (λ (j : ℕ). pos 0 ≤ℤ cell j) e a.1) b.0) | no h ↦ (let e : first ≡ k = omega (arith, b.1.from) in never_both (cell k) (subst (λ (j : ℕ). pos 0 ≤ℤ cell j) e a.0) b.0) ]

column_is_one : (cell : ℕ → ℤ) (first : ℕ) (o also : Option ℕ) → ColumnChosen cell first o → ColumnChosen cell first also → o ≡ also
column_is_one cell first None None a b = refl
column_is_one cell first None (Some k) a b = absurd (neither cell first k a b)
column_is_one cell first (Some k) None a b = absurd (neither cell first k b a)
column_is_one cell first (Some k) (Some j) a b = ap Some (lowest_is_one cell first (first + 1) k j a.1 b.1)

module _ (last : ℕ) (price : ℕ → ℕ → ℕ → ℤ) (cards : Cards) (book : Book) (w v : World) where
  -- ---- a month
  kept_same : (m p : ℕ) (row : ℕ → ℤ) (kept also : Kept) → Lowest row 0 2 kept.volatility → Lowest row 0 2 also.volatility → RestChosen last price cards book w m p kept → RestChosen last price cards book v m p also → kept ≡ also
  kept_same m p row kept also low too rest other =
      let volatility = lowest_is_one row 0 2 kept.volatility also.volatility low too in
      let rate = column_is_one (cells last price cards book m p) 3 kept.rate also.rate rest.rate other.rate in
      let twist = column_is_one (cells last price cards book m p) 5 kept.twist also.twist rest.twist other.twist in
      λ i. record { volatility = volatility i; rate = rate i; twist = twist i }

  kept_both : (m p : ℕ) (row : ℕ → ℤ) (kept also : Kept) → Lowest row 0 2 kept.volatility → Lowest row 0 2 also.volatility → RestChosen last price cards book w m p kept → RestChosen last price cards book v m p also → (◌≡◌ {A = Option Kept} (Some kept) (Some also)) × SameOrders last cards book w v m kept
  kept_both m p row kept also low too rest other =
      let same = kept_same m p row kept also low too rest other in
      (ap Some same, λ i inside k keeps. rest.orders i inside k keeps ∙ sym (other.orders i inside k (subst (λ (c : Kept). Keeps c k) same keeps)))

  month_same : (b p m : ℕ) (netted : Bool) (o also : Option Kept) → MonthChosen last price cards book w b p m netted o → MonthChosen last price cards book v b p m netted also → (o ≡ also) × WhereTaken o (SameOrders last cards book w v m)
  month_same b p m true None also x y = absurd x
  month_same b p m true (Some kept) None x y = absurd y
  month_same b p m true (Some kept) (Some also) x y = kept_both m p _ kept also x.0 y.0 x.1 y.1
  month_same b p m false None None x y = (refl, tt)
  month_same b p m false None (Some also) x y = absurd (never_both _ x y.0)
  month_same b p m false (Some kept) None x y = absurd (never_both _ y x.0)
  month_same b p m false (Some kept) (Some also) x y = kept_both m p _ kept also x.1 y.1 x.2 y.2

  months_same : (b p : ℕ) → MonthsChosen last price cards book w b p → MonthsChosen last price cards book v b p → SameMonths last cards book w v b
  months_same b p x y = λ m less inside. month_same b p m (netted_basket cards b) (w.months m) (v.months m) (x m less inside) (y m less inside)

  -- ---- a basket
  basket_same : (f p b : ℕ) (netted : Bool) (o also : Option ℕ) → BasketChosen last price cards book w f p b netted o → BasketChosen last price cards book v f p b netted also → (o ≡ also) × WhereTaken o (λ q. SameMonths last cards book w v b)
  basket_same f p b true None also x y = absurd x
  basket_same f p b true (Some q) None x y = absurd y
  basket_same f p b true (Some q) (Some r) x y =
      let same = lowest_is_one _ _ _ q r x.0 y.0 in
      (ap Some same, months_same b q x.1 (subst (MonthsChosen last price cards book v b) (sym same) y.1))
  basket_same f p b false None None x y = (refl, tt)
  basket_same f p b false None (Some r) x y = absurd (never_both _ x y.1)
  basket_same f p b false (Some q) None x y = absurd (never_both _ y x.1)
  basket_same f p b false (Some q) (Some r) x y =
      let same = x.0 ∙ sym y.0 in
      (ap Some same, months_same b q x.2 (subst (MonthsChosen last price cards book v b) (sym same) y.2))

  -- ---- a family
  family_same : (f : ℕ) (o also : Option ℕ) → FamilyChosen last price cards book w f o → FamilyChosen last price cards book v f also → (o ≡ also) × WhereTaken o (λ p. SameBaskets last cards book w v f)
  family_same f None None x y = (refl, tt)
  family_same f None (Some q) x y = absurd (never_both _ (x q y.1.to) y.0)
  family_same f (Some p) None x y = absurd (never_both _ (y p x.1.to) x.0)
  family_same f (Some p) (Some q) x y =
      let same = lowest_is_one _ _ _ p q x.1 y.1 in
      (ap Some same, λ b less inside. basket_same f p b (netted_family cards f) (w.baskets b) (v.baskets b) (x.2 b less inside) (subst (λ (r : ℕ). BasketChosen last price cards book v f r b (netted_family cards f) (v.baskets b)) (sym same) (y.2 b less inside)))

pub no_other_is_lowest : NoOtherIsLowest
no_other_is_lowest last price cards book w v x y = λ f less. family_same last price cards book w v f (w.families f) (v.families f) (x f less) (y f less)
