-- What counting an order or not does to a cell: the margin's cells are lowest, and the world handed out has them in each cell that it takes.
use Rattle.std.proofs.Common.{◌≡◌, ℕ, ◌≤◌, Bool, true, false, ◌&&◌, T, ltb, leb, length, ℤ, pos, ◌-ℤ◌, ◌≤ℤ◌, Some, None, Option, sym, refl, ap, ◌∙◌, subst, inl, inr, arith, eqb→eq}
use lib.Signed.{lt_z, ≤ℤ_refl}
use Rattle.std.specs.Int.{int_min}
use Rattle.std.proofs.lemmas.Int.{ints, clamps}
use Rattle.std.proofs.lemmas.Bool.Decides.{nat_tests}
use Rattle.margin.specs.declared.choice.Kept.{Kept}
use Rattle.margin.specs.declared.choice.Counted.{Counted}
use Rattle.margin.specs.Book.{Cards, Book, named, month, line, order, of_line, in_month, in_basket, position, over_lines}
use Rattle.margin.specs.Cells.{position_result, order_result, charged, gridded, line_cell, month_cell, cells}
use Rattle.margin.specs.Worlds.{World, AtMostOne, HalfMonth, column_taken, month_taken, basket_taken, family_taken, taken, counted_in, world_cells}
use Rattle.margin.specs.HandedOut.{up_to, basket_point, month_kept, choices, order_loses, order_loses_in, order_counted_at, counted_of, handed_out}
use Rattle.margin.proofs.ByRule.{chosen}
use Rattle.margin.proofs.SumLaws.{sum_le, under, not_under, total_le}
use Rattle.margin.proofs.Counting.{counted_same}
use Rattle.margin.proofs.Below.{lesser_0, lesser_r}
use Rattle.margin.proofs.Reached.{named_is, up_to_some, month_allowed}

-- an order that is counted exactly if it loses adds no more than the lesser of 0 and its result
as_it_loses : (b : Bool) (r : ℤ) → b ≡ lt_z r (pos 0) → (elim b [ true ↦ r | false ↦ pos 0 ]) ≤ℤ int_min (pos 0) r
as_it_loses true r e = let h = under r (pos 0) (sym e) in omega (arith, ints, clamps)
as_it_loses false r e = let h = not_under r (pos 0) (sym e) in omega (arith, ints, clamps)

-- ---- a world that takes lower cells takes less in all
module _ (cards : Cards) (w : World) (lower higher : ℕ → ℕ → ℕ → ℤ) (each : (m p : ℕ) → w.baskets (named (month cards m).basket) ≡ Some p → month_taken lower m p (w.months m) ≤ℤ month_taken higher m p (w.months m)) where
  basket_taken_le : (b : ℕ) (o : Option ℕ) → w.baskets b ≡ o → basket_taken cards lower w b o ≤ℤ basket_taken cards higher w b o
  unfolding in_basket
  basket_taken_le b None e = ≤ℤ_refl (pos 0)
  basket_taken_le b (Some p) e = total_le _ _ _ _ (λ m less inside. each m p (ap w.baskets (named_is (month cards m).basket b inside) ∙ e))

  family_taken_le : (f : ℕ) (o : Option ℕ) → family_taken cards lower w f o ≤ℤ family_taken cards higher w f o
  family_taken_le f None = ≤ℤ_refl (pos 0)
  family_taken_le f (Some p) = total_le _ _ _ _ (λ b less inside. basket_taken_le b (w.baskets b) refl)

  pub taken_le : taken cards lower w ≤ℤ taken cards higher w
  unfolding taken
  taken_le = total_le _ _ _ _ (λ f less always. family_taken_le f (w.families f))

module _ (last : ℕ) (price : ℕ → ℕ → ℕ → ℤ) (cards : Cards) (book : Book) where
  -- ---- cells in which each order adds no more
  pub cell_le : (f g : ℕ → ℤ → ℤ) (m p k : ℕ) → ((l i : ℕ) → in_month cards m l ≡ true → of_line book l i ≡ true → f i (order_result (order book i) (price l p k) k) ≤ℤ g i (order_result (order book i) (price l p k) k)) → month_cell last price cards book f m p k ≤ℤ month_cell last price cards book g m p k
  unfolding month_cell line_cell gridded
  cell_le f g m p k h = by (ltb m (length cards.months) && (leb p last && ltb k 7))
    where
      by : (on : Bool) → (elim on [ true ↦ over_lines cards m (λ l. line_cell last price cards book f l p k) | false ↦ pos 0 ]) ≤ℤ (elim on [ true ↦ over_lines cards m (λ l. line_cell last price cards book g l p k) | false ↦ pos 0 ])
      by true =
          total_le _ _ _ _ (λ l less inside. sum_le _ _ _ _ (≤ℤ_refl (position_result (position book l) (price l p k) k -ℤ charged last cards book l p k))
          (total_le _ _ _ _ (λ i less' its. h l i inside its)))
      by false = ≤ℤ_refl (pos 0)

  counted_below : (b : Bool) (r : ℤ) → int_min (pos 0) r ≤ℤ (elim b [ true ↦ r | false ↦ pos 0 ])
  counted_below true r = lesser_r r
  counted_below false r = lesser_0 r

  -- the margin's cells are at most any world's
  pub cells_lowest : (w : World) (m p k : ℕ) → cells last price cards book m p k ≤ℤ world_cells last price cards book w m p k
  unfolding cells world_cells
  cells_lowest w m p k = cell_le _ _ m p k (λ l i inside its. counted_below (counted_in (w.orders i) k) (order_result (order book i) (price l p k) k))

  -- ---- the world handed out
  -- an order's month, in a cell that the month takes
  module _ (m p : ℕ) (kept : Kept) (point : basket_point last cards (cells last price cards book) (named (month cards m).basket) ≡ Some p) (is : month_kept last cards (cells last price cards book) m ≡ Some kept) where
    counted_is : (l i : ℕ) → in_month cards m l ≡ true → of_line book l i ≡ true → counted_of last price cards book i ≡ order_counted_at price (order book i) (Some p) (Some kept)
    unfolding in_month of_line
    counted_is l i inside its =
        let at-line : (order book i).line ≡ l = eqb→eq _ _ (subst T (sym its) tt) in
        let at-month : named (line cards (order book i).line).month ≡ m = ap (λ (n : ℕ). named (line cards n).month) at-line ∙ named_is (line cards l).month m inside in
        counted_same last price cards book i
        ∙ ap (λ (n : ℕ). by (basket_point last cards (cells last price cards book) (named (month cards n).basket)) (month_kept last cards (cells last price cards book) n)) at-month
        ∙ ap (λ (o : Option ℕ). by o (month_kept last cards (cells last price cards book) m)) point
        ∙ ap (by (Some p)) is
      where
        by : Option ℕ → Option Kept → Counted
        by = order_counted_at price (order book i)

    cell_lowest : (k : ℕ) → ((i : ℕ) → counted_in (order_counted_at price (order book i) (Some p) (Some kept)) k ≡ order_loses price (order book i) p k) → world_cells last price cards book (handed_out last price cards book) m p k ≤ℤ cells last price cards book m p k
    unfolding cells world_cells handed_out choices of_line
    cell_lowest k h = cell_le _ _ m p k (λ l i inside its.
        let at-line : (order book i).line ≡ l = eqb→eq _ _ (subst T (sym its) tt) in
        as_it_loses _ (order_result (order book i) (price l p k) k)
        (ap (λ (c : Counted). counted_in c k) (counted_is l i inside its) ∙ h i ∙ ap (λ (n : ℕ). lt_z (order_result (order book i) (price n p k) k) (pos 0)) at-line))

    volatility_lowest : kept.volatility ≤ 2 → world_cells last price cards book (handed_out last price cards book) m p kept.volatility ≤ℤ cells last price cards book m p kept.volatility
    unfolding counted_in
    volatility_lowest h = cell_lowest kept.volatility (λ i. chosen (order_loses price (order book i) p kept.volatility) _ (leb kept.volatility 2) true (grind (arith, nat_tests)))

    rate_lowest : (o : Option ℕ) → kept.rate ≡ o → AtMostOne 3 o → column_taken (world_cells last price cards book (handed_out last price cards book) m p) o ≤ℤ column_taken (cells last price cards book m p) o
    unfolding counted_in
    rate_lowest None e h = ≤ℤ_refl (pos 0)
    rate_lowest (Some k) e (inl a) = rw a (cell_lowest 3 (λ i. ap (order_loses_in price (order book i) p) (e ∙ ap Some a)))
    rate_lowest (Some k) e (inr a) = rw a (cell_lowest 4 (λ i. ap (order_loses_in price (order book i) p) (e ∙ ap Some a)))

    twist_lowest : (o : Option ℕ) → kept.twist ≡ o → AtMostOne 5 o → column_taken (world_cells last price cards book (handed_out last price cards book) m p) o ≤ℤ column_taken (cells last price cards book m p) o
    unfolding counted_in
    twist_lowest None e h = ≤ℤ_refl (pos 0)
    twist_lowest (Some k) e (inl a) = rw a (cell_lowest 5 (λ i. ap (order_loses_in price (order book i) p) (e ∙ ap Some a)))
    twist_lowest (Some k) e (inr a) = rw a (cell_lowest 6 (λ i. ap (order_loses_in price (order book i) p) (e ∙ ap Some a)))

    kept_lowest : HalfMonth (Some kept) → month_taken (world_cells last price cards book (handed_out last price cards book)) m p (Some kept) ≤ℤ month_taken (cells last price cards book) m p (Some kept)
    kept_lowest h = sum_le _ _ _ _ (volatility_lowest h.0) (sum_le _ _ _ _ (rate_lowest kept.rate refl h.1.one_rate) (twist_lowest kept.twist refl h.1.one_twist))

  month_lowest : (m p : ℕ) → basket_point last cards (cells last price cards book) (named (month cards m).basket) ≡ Some p → (o : Option Kept) → up_to (length cards.months) (month_kept last cards (cells last price cards book)) m ≡ o → month_taken (world_cells last price cards book (handed_out last price cards book)) m p o ≤ℤ month_taken (cells last price cards book) m p o
  month_lowest m p e None is = ≤ℤ_refl (pos 0)
  month_lowest m p e (Some kept) is =
      let kept-is = up_to_some (length cards.months) (month_kept last cards (cells last price cards book)) m kept is in
      kept_lowest m p kept e kept-is (subst HalfMonth kept-is (month_allowed (cells last price cards book) last cards (counted_of last price cards book) m))

  -- with its orders counted so, the world handed out takes no more than the margin's cells
  pub handed_out_lowest : taken cards (world_cells last price cards book (handed_out last price cards book)) (handed_out last price cards book) ≤ℤ taken cards (cells last price cards book) (handed_out last price cards book)
  unfolding handed_out choices
  handed_out_lowest =
      taken_le cards (handed_out last price cards book) _ _ (λ m p e.
      month_lowest m p (up_to_some (length cards.baskets) (basket_point last cards (cells last price cards book)) (named (month cards m).basket) p e) (up_to (length cards.months) (month_kept last cards (cells last price cards book)) m) refl)
