-- A cancelled order and a fill no worse than the limit never lower a cell.
use Rattle.std.proofs.Common.{◌≡◌, ℕ, zero, suc, ◌<◌, ◌≤◌, Bool, true, false, ◌&&◌, T, eqb, ltb, leb, List, [], ◌∷◌, ◌++◌, length, get_or, ℤ, pos, ◌+ℤ◌, ◌-ℤ◌, ◌*ℤ◌, neg_ℤ, ◌≤ℤ◌, sym, refl, ap, ◌∙◌, subst, le_trans, arith, eqb→eq}
use lib.Dec.{eqb_refl}
use lib.Signed.{≤ℤ_refl}
use Rattle.std.specs.Int.{int_min, int_max}
use Rattle.std.proofs.lemmas.Int.{ints, clamps}
use Rattle.terms.specs.declared.cards.Line.{Line}
use Rattle.margin.specs.declared.book.Position.{Position}
use Rattle.margin.specs.declared.book.Open.{Open}
use Rattle.margin.specs.Sums.{total}
use Rattle.margin.specs.Book.{Cards, Book, line, is_future, position, order, of_line, over_orders}
use Rattle.margin.specs.Cells.{holds_price, gridded, position_result, order_result, above, charge, buys, sells, long_reach, short_reach, charges_at, charged, line_cell, month_cell, cells}
use Rattle.margin.specs.Easing.{ChargesRise, Fills, filled_order, filled_position, filled_positions, book_of, CancelNeverRaisesTheMargin, FillNeverRaisesTheMargin, LastFillNeverRaisesTheMargin}
use Rattle.margin.specs.LeastCover.{margin}
use Rattle.margin.proofs.Cover.{margin_falls_as_cells_rise}
use Rattle.std.proofs.lemmas.List.{get_or-set_same, get_or-set_other}
use Rattle.margin.proofs.ByRule.{chosen}
use Rattle.margin.proofs.Fills.{long_reach_lem, short_reach_lem, price_results, change_results}
use Rattle.margin.proofs.Products.{both_up, scaled}
use Rattle.margin.proofs.SumLaws.{sum_le, total_le}

-- ---- sums over a list
sum_of : {A : Type 0} → (A → ℤ) → List A → ℤ
sum_of g [] = pos 0
sum_of g (x ∷ xs) = g x +ℤ sum_of g xs

total_front : (n : ℕ) (test : ℕ → Bool) (part : ℕ → ℤ) → total (suc n) test part ≡ (elim (test 0) [ true ↦ part 0 | false ↦ pos 0 ]) +ℤ total n (λ i. test (suc i)) (λ i. part (suc i))
unfolding total
total_front zero test part = swap (elim (test 0) [ true ↦ part 0 | false ↦ pos 0 ])
  where
    swap : (z : ℤ) → pos 0 +ℤ z ≡ z +ℤ pos 0
    swap z = omega (arith, ints)
total_front (suc n) test part = let before = total_front n test part in omega (arith, ints)

total_list : {A : Type 0} (xs : List A) (d : A) (test : A → Bool) (g : A → ℤ) → total (length xs) (λ i. test (get_or xs i d)) (λ i. g (get_or xs i d)) ≡ sum_of (λ x. elim (test x) [ true ↦ g x | false ↦ pos 0 ]) xs
unfolding sum_of total
total_list [] d test g = refl
total_list (x ∷ xs) d test g =
    total_front (length xs) (λ i. test (get_or (x ∷ xs) i d)) (λ i. g (get_or (x ∷ xs) i d))
    ∙ ap (λ (z : ℤ). (elim (test x) as (λ c. ℤ) [ true ↦ g x | false ↦ pos 0 ]) +ℤ z) (total_list xs d test g)

-- one item among others
sum_middle : {A : Type 0} (g : A → ℤ) (before after : List A) (x : A) → sum_of g (before ++ (x ∷ after)) ≡ sum_of g (before ++ after) +ℤ g x
unfolding sum_of
sum_middle g [] after x = swap (g x) (sum_of g after)
  where
    swap : (a b : ℤ) → a +ℤ b ≡ b +ℤ a
    swap a b = omega (arith, ints)
sum_middle g (y ∷ before) after x = let rest = sum_middle g before after x in omega (arith, ints)

-- ---- charges
above_le : (limit n m : ℤ) → n ≤ℤ m → above limit n ≤ℤ above limit m
unfolding above
above_le limit n m h = omega (arith, ints, clamps)

charge_le : (f : Line) (n m : ℤ) → (pos 0 ≤ℤ f.spot) × (f.rates.r1 ≤ℤ f.rates.r2) × (f.rates.r2 ≤ℤ f.rates.r3) → n ≤ℤ m → charge f n ≤ℤ charge f m
unfolding charge
charge_le f n m (spot, second, third) h =
    scaled (pos 8 *ℤ f.spot) _ _ (both_up (pos 8) f.spot (omega (arith, ints)) spot)
    (sum_le _ _ _ _
    (scaled (f.rates.r2 -ℤ f.rates.r1) _ _ (omega (arith, ints)) (above_le f.limits.a n m h))
    (scaled (f.rates.r3 -ℤ f.rates.r2) _ _ (omega (arith, ints)) (above_le f.limits.b n m h)))

either_le : (b : Bool) (x y : ℤ) → (b ≡ true → x ≤ℤ y) → (elim b [ true ↦ x | false ↦ pos 0 ]) ≤ℤ (elim b [ true ↦ y | false ↦ pos 0 ])
either_le true x y h = h refl
either_le false x y h = ≤ℤ_refl (pos 0)

module _ (last : ℕ) (cards : Cards) (rise : ChargesRise cards) (book eased : Book) where
  charged_le : (l p k : ℕ) → long_reach eased l ≤ℤ long_reach book l → short_reach eased l ≤ℤ short_reach book l → charged last cards eased l p k ≤ℤ charged last cards book l p k
  unfolding charged charges_at
  charged_le l p k long short =
      either_le (is_future cards l) _ _ (λ future. either_le (holds_price k) _ _ (λ prices.
      sum_le _ _ _ _
      (either_le (eqb p 0) _ _ (λ at. charge_le (line cards l) _ _ (rise l future) long))
      (either_le (eqb p last) _ _ (λ at. charge_le (line cards l) _ _ (rise l future) short))))

  module _ (price : ℕ → ℕ → ℕ → ℤ) where
    -- a line whose reaches do not grow and whose position and orders together do not fall adds no less to its cell
    line_le : (l p k : ℕ) → long_reach eased l ≤ℤ long_reach book l → short_reach eased l ≤ℤ short_reach book l → (position_result (position book l) (price l p k) k +ℤ over_orders book l (λ i. int_min (pos 0) (order_result (order book i) (price l p k) k))) ≤ℤ (position_result (position eased l) (price l p k) k +ℤ over_orders eased l (λ i. int_min (pos 0) (order_result (order eased i) (price l p k) k))) → line_cell last price cards book (λ i r. int_min (pos 0) r) l p k ≤ℤ line_cell last price cards eased (λ i r. int_min (pos 0) r) l p k
    unfolding line_cell
    line_le l p k long short results = joined _ _ _ _ _ _ (charged_le l p k long short) results
      where
        joined : (x c y x' c' y' : ℤ) → c' ≤ℤ c → (x +ℤ y) ≤ℤ (x' +ℤ y') → (x -ℤ c +ℤ y) ≤ℤ (x' -ℤ c' +ℤ y')
        joined x c y x' c' y' h k = omega (arith, ints)

    pub margin_le : ((l p k : ℕ) → line_cell last price cards book (λ i r. int_min (pos 0) r) l p k ≤ℤ line_cell last price cards eased (λ i r. int_min (pos 0) r) l p k) → margin last price cards eased ≤ margin last price cards book
    unfolding margin cells month_cell gridded
    margin_le each = margin_falls_as_cells_rise last cards (cells last price cards book) (cells last price cards eased) rises
      where
        rises : (m p k : ℕ) → cells last price cards book m p k ≤ℤ cells last price cards eased m p k
        rises m p k = either_le (ltb m (length cards.months) && (leb p last && ltb k 7)) _ _ (λ on. total_le _ _ _ _ (λ l less inside. each l p k))

-- ---- one order among others
module _ (positions positions' : List Position) (before after : List Open) (o : Open) (l : ℕ) where
  over_middle : (g : Open → ℤ) → over_orders (book_of positions (before ++ (o ∷ after))) l (λ i. g (order (book_of positions (before ++ (o ∷ after))) i)) ≡ over_orders (book_of positions' (before ++ after)) l (λ i. g (order (book_of positions' (before ++ after)) i)) +ℤ (elim (eqb o.line l) [ true ↦ g o | false ↦ pos 0 ])
  unfolding of_line
  over_middle g =
      total_list (before ++ (o ∷ after)) _ (λ x. eqb x.line l) g
      ∙ sum_middle (λ x. elim (eqb x.line l) [ true ↦ g x | false ↦ pos 0 ]) before after o
      ∙ ap (λ (z : ℤ). z +ℤ (elim (eqb o.line l) as (λ c. ℤ) [ true ↦ g o | false ↦ pos 0 ])) (sym (total_list (before ++ after) _ (λ x. eqb x.line l) g))

share_up : (b : Bool) (x : ℤ) → pos 0 ≤ℤ (elim b [ true ↦ int_max (pos 0) x | false ↦ pos 0 ])
share_up true x = omega (arith, ints, clamps)
share_up false x = ≤ℤ_refl (pos 0)

share_down : (b : Bool) (x : ℤ) → (elim b [ true ↦ int_min (pos 0) x | false ↦ pos 0 ]) ≤ℤ pos 0
share_down true x = omega (arith, ints, clamps)
share_down false x = ≤ℤ_refl (pos 0)

-- ---- a cancel
module _ (last : ℕ) (price : ℕ → ℕ → ℕ → ℤ) (cards : Cards) (rise : ChargesRise cards) (positions : List Position) (before after : List Open) (o : Open) where
  cancel_long : (l : ℕ) → long_reach (book_of positions (before ++ after)) l ≤ℤ long_reach (book_of positions (before ++ (o ∷ after))) l
  unfolding long_reach buys
  cancel_long l = grown _ _ _ _ (over_middle positions positions before after o l (λ x. int_max (pos 0) x.left)) (share_up (eqb o.line l) o.left)
    where
      grown : (n b b' x : ℤ) → b ≡ b' +ℤ x → pos 0 ≤ℤ x → int_max (pos 0) (n +ℤ b') ≤ℤ int_max (pos 0) (n +ℤ b)
      grown n b b' x e h = omega (arith, ints, clamps)

  cancel_short : (l : ℕ) → short_reach (book_of positions (before ++ after)) l ≤ℤ short_reach (book_of positions (before ++ (o ∷ after))) l
  unfolding short_reach sells
  cancel_short l = grown (position (book_of positions (before ++ after)) l).net _ _ _ (over_middle positions positions before after o l (λ x. int_max (pos 0) (neg_ℤ x.left))) (share_up (eqb o.line l) (neg_ℤ o.left))
    where
      grown : (n b b' x : ℤ) → b ≡ b' +ℤ x → pos 0 ≤ℤ x → int_max (pos 0) (b' -ℤ n) ≤ℤ int_max (pos 0) (b -ℤ n)
      grown n b b' x e h = omega (arith, ints, clamps)

  cancel_results : (l p k : ℕ) → (position_result (position (book_of positions (before ++ (o ∷ after))) l) (price l p k) k +ℤ over_orders (book_of positions (before ++ (o ∷ after))) l (λ i. int_min (pos 0) (order_result (order (book_of positions (before ++ (o ∷ after))) i) (price l p k) k))) ≤ℤ (position_result (position (book_of positions (before ++ after)) l) (price l p k) k +ℤ over_orders (book_of positions (before ++ after)) l (λ i. int_min (pos 0) (order_result (order (book_of positions (before ++ after)) i) (price l p k) k)))
  cancel_results l p k = dropped _ _ _ _ (over_middle positions positions before after o l (λ x. int_min (pos 0) (order_result x (price l p k) k))) (share_down (eqb o.line l) (order_result o (price l p k) k))
    where
      dropped : (n b b' x : ℤ) → b ≡ b' +ℤ x → x ≤ℤ pos 0 → (n +ℤ b) ≤ℤ (n +ℤ b')
      dropped n b b' x e h = omega (arith, ints)

  pub cancel_never_raises : margin last price cards (book_of positions (before ++ after)) ≤ margin last price cards (book_of positions (before ++ (o ∷ after)))
  cancel_never_raises =
      margin_le last cards rise (book_of positions (before ++ (o ∷ after))) (book_of positions (before ++ after)) price
      (λ l p k. line_le last cards rise (book_of positions (before ++ (o ∷ after))) (book_of positions (before ++ after)) price l p k (cancel_long l) (cancel_short l) (cancel_results l p k))

-- ---- a fill
module _ (last : ℕ) (price : ℕ → ℕ → ℕ → ℤ) (cards : Cards) (rise : ChargesRise cards) (positions : List Position) (before after : List Open) (o : Open) (f paid : ℤ) (within : o.line < length positions) (fills : Fills o f paid) where
  abbrev open_book : Book
  open_book = book_of positions (before ++ (o ∷ after))

  abbrev filled_book : Book
  filled_book = book_of (filled_positions positions o.line f paid) (before ++ (filled_order o f ∷ after))

  -- the book without the order
  abbrev rest_book : Book
  rest_book = book_of positions (before ++ after)

  position_of : (l : ℕ) → eqb o.line l ≡ true → position filled_book l ≡ filled_position (position open_book l) f paid
  position_of l e = subst (λ (k : ℕ). position filled_book k ≡ filled_position (position open_book k) f paid) (eqb→eq _ _ (subst T (sym e) tt)) (get_or-set_same positions o.line _ _ within)

  position_other : (l : ℕ) → eqb o.line l ≡ false → position filled_book l ≡ position open_book l
  position_other l e = get_or-set_other positions o.line l _ _ (λ same. other (eqb_refl o.line) same)
    where
      other : T (eqb o.line o.line) → l ≡ o.line → ⊥
      other t same = subst T (ap (eqb o.line) (sym same) ∙ e) t

  -- what the order adds to a sum over the orders of a line, before and after
  sums_of : (l : ℕ) (g : Open → ℤ) → eqb o.line l ≡ true → (over_orders open_book l (λ i. g (order open_book i)) ≡ over_orders rest_book l (λ i. g (order rest_book i)) +ℤ g o) × (over_orders filled_book l (λ i. g (order filled_book i)) ≡ over_orders rest_book l (λ i. g (order rest_book i)) +ℤ g (filled_order o f))
  sums_of l g e = (
    over_middle positions positions before after o l g ∙ ap (λ (z : ℤ). over_orders rest_book l (λ i. g (order rest_book i)) +ℤ z) (chosen (g o) (pos 0) _ true e),
    over_middle (filled_positions positions o.line f paid) positions before after (filled_order o f) l g ∙ ap (λ (z : ℤ). over_orders rest_book l (λ i. g (order rest_book i)) +ℤ z) (chosen (g (filled_order o f)) (pos 0) _ true e),
  )

  sums_other : (l : ℕ) (g : Open → ℤ) → eqb o.line l ≡ false → over_orders filled_book l (λ i. g (order filled_book i)) ≡ over_orders open_book l (λ i. g (order open_book i))
  sums_other l g e =
      over_middle (filled_positions positions o.line f paid) positions before after (filled_order o f) l g ∙ ap (λ (z : ℤ). over_orders rest_book l (λ i. g (order rest_book i)) +ℤ z) (chosen (g (filled_order o f)) (pos 0) _ false e)
      ∙ sym (over_middle positions positions before after o l g ∙ ap (λ (z : ℤ). over_orders rest_book l (λ i. g (order rest_book i)) +ℤ z) (chosen (g o) (pos 0) _ false e))

  fill_long : (l : ℕ) (b : Bool) → eqb o.line l ≡ b → long_reach filled_book l ≤ℤ long_reach open_book l
  unfolding long_reach buys
  fill_long l true e = of_line_lem (position open_book l).net (position filled_book l).net _ _ (over_orders rest_book l (λ i. int_max (pos 0) (order rest_book i).left)) (int_max (pos 0) o.left) (int_max (pos 0) (o.left -ℤ f)) (ap (λ (p : Position). p.net) (position_of l e)) (sums_of l (λ x. int_max (pos 0) x.left) e).0 (sums_of l (λ x. int_max (pos 0) x.left) e).1 (long_reach_lem (position open_book l).net o.left o.limit f paid (over_orders rest_book l (λ i. int_max (pos 0) (order rest_book i).left)) fills)
    where
      of_line_lem : (n n' b b' r x x' : ℤ) → n' ≡ n +ℤ f → b ≡ r +ℤ x → b' ≡ r +ℤ x' → int_max (pos 0) (n +ℤ f +ℤ (r +ℤ x')) ≤ℤ int_max (pos 0) (n +ℤ (r +ℤ x)) → int_max (pos 0) (n' +ℤ b') ≤ℤ int_max (pos 0) (n +ℤ b)
      of_line_lem n n' b b' r x x' e g h k = omega (arith, ints, clamps)
  fill_long l false e = same (position open_book l).net (position filled_book l).net _ _ (ap (λ (p : Position). p.net) (position_other l e)) (sums_other l (λ x. int_max (pos 0) x.left) e)
    where
      same : (n n' b b' : ℤ) → n' ≡ n → b' ≡ b → int_max (pos 0) (n' +ℤ b') ≤ℤ int_max (pos 0) (n +ℤ b)
      same n n' b b' e g = omega (arith, ints, clamps)

  fill_short : (l : ℕ) (b : Bool) → eqb o.line l ≡ b → short_reach filled_book l ≤ℤ short_reach open_book l
  unfolding short_reach sells
  fill_short l true e = of_line_lem (position open_book l).net (position filled_book l).net _ _ (over_orders rest_book l (λ i. int_max (pos 0) (neg_ℤ (order rest_book i).left))) (int_max (pos 0) (neg_ℤ o.left)) (int_max (pos 0) (neg_ℤ (o.left -ℤ f))) (ap (λ (p : Position). p.net) (position_of l e)) (sums_of l (λ x. int_max (pos 0) (neg_ℤ x.left)) e).0 (sums_of l (λ x. int_max (pos 0) (neg_ℤ x.left)) e).1 (short_reach_lem (position open_book l).net o.left o.limit f paid (over_orders rest_book l (λ i. int_max (pos 0) (neg_ℤ (order rest_book i).left))) fills)
    where
      of_line_lem : (n n' b b' r x x' : ℤ) → n' ≡ n +ℤ f → b ≡ r +ℤ x → b' ≡ r +ℤ x' → int_max (pos 0) (r +ℤ x' -ℤ (n +ℤ f)) ≤ℤ int_max (pos 0) (r +ℤ x -ℤ n) → int_max (pos 0) (b' -ℤ n') ≤ℤ int_max (pos 0) (b -ℤ n)
      of_line_lem n n' b b' r x x' e g h k = omega (arith, ints, clamps)
  fill_short l false e = same (position open_book l).net (position filled_book l).net _ _ (ap (λ (p : Position). p.net) (position_other l e)) (sums_other l (λ x. int_max (pos 0) (neg_ℤ x.left)) e)
    where
      same : (n n' b b' : ℤ) → n' ≡ n → b' ≡ b → int_max (pos 0) (b' -ℤ n') ≤ℤ int_max (pos 0) (b -ℤ n)
      same n n' b b' e g = omega (arith, ints, clamps)

  -- the order's line, where the position and the order meet
  meet : (P rest : ℤ) (k : ℕ) (n : Position) → (position_result n P k +ℤ (rest +ℤ int_min (pos 0) (order_result o P k))) ≤ℤ (position_result (filled_position n f paid) P k +ℤ (rest +ℤ int_min (pos 0) (order_result (filled_order o f) P k)))
  unfolding position_result order_result
  meet P rest k n = by (holds_price k)
    where
      by : (b : Bool) → ((elim b [ true ↦ n.net *ℤ P -ℤ n.cost | false ↦ n.net *ℤ P ]) +ℤ (rest +ℤ int_min (pos 0) (elim b [ true ↦ o.left *ℤ (P -ℤ pos 80000 *ℤ o.limit) | false ↦ o.left *ℤ P ]))) ≤ℤ ((elim b [ true ↦ (n.net +ℤ f) *ℤ P -ℤ (n.cost +ℤ pos 80000 *ℤ f *ℤ paid) | false ↦ (n.net +ℤ f) *ℤ P ]) +ℤ (rest +ℤ int_min (pos 0) (elim b [ true ↦ (o.left -ℤ f) *ℤ (P -ℤ pos 80000 *ℤ o.limit) | false ↦ (o.left -ℤ f) *ℤ P ])))
      by true = price_results n.net n.cost o.left o.limit f paid P rest fills
      by false = change_results n.net o.left o.limit f paid P rest fills

  fill_results : (l p k : ℕ) (b : Bool) → eqb o.line l ≡ b → (position_result (position open_book l) (price l p k) k +ℤ over_orders open_book l (λ i. int_min (pos 0) (order_result (order open_book i) (price l p k) k))) ≤ℤ (position_result (position filled_book l) (price l p k) k +ℤ over_orders filled_book l (λ i. int_min (pos 0) (order_result (order filled_book i) (price l p k) k)))
  fill_results l p k true e =
      let sums = sums_of l (λ x. int_min (pos 0) (order_result x (price l p k) k)) e in
      of_line_lem _ _ _ _ _ (over_orders rest_book l (λ i. int_min (pos 0) (order_result (order rest_book i) (price l p k) k))) (int_min (pos 0) (order_result o (price l p k) k)) (int_min (pos 0) (order_result (filled_order o f) (price l p k) k)) (ap (λ (n : Position). position_result n (price l p k) k) (position_of l e)) sums.0 sums.1 (meet (price l p k) (over_orders rest_book l (λ i. int_min (pos 0) (order_result (order rest_book i) (price l p k) k))) k (position open_book l))
    where
      of_line_lem : (n n' q b b' r x x' : ℤ) → n' ≡ q → b ≡ r +ℤ x → b' ≡ r +ℤ x' → (n +ℤ (r +ℤ x)) ≤ℤ (q +ℤ (r +ℤ x')) → (n +ℤ b) ≤ℤ (n' +ℤ b')
      of_line_lem n n' q b b' r x x' e g h k = omega (arith, ints)
  fill_results l p k false e = same _ _ _ _ (ap (λ (n : Position). position_result n (price l p k) k) (position_other l e)) (sums_other l (λ x. int_min (pos 0) (order_result x (price l p k) k)) e)
    where
      same : (n n' b b' : ℤ) → n' ≡ n → b' ≡ b → (n +ℤ b) ≤ℤ (n' +ℤ b')
      same n n' b b' e g = omega (arith, ints)

  pub fill_never_raises : margin last price cards filled_book ≤ margin last price cards open_book
  fill_never_raises =
      margin_le last cards rise open_book filled_book price
      (λ l p k. line_le last cards rise open_book filled_book price l p k (fill_long l (eqb o.line l) refl) (fill_short l (eqb o.line l) refl) (fill_results l p k (eqb o.line l) refl))

-- ---- the statements
pub cancel_never_raises_the_margin : CancelNeverRaisesTheMargin
cancel_never_raises_the_margin = cancel_never_raises

pub fill_never_raises_the_margin : FillNeverRaisesTheMargin
fill_never_raises_the_margin = fill_never_raises

pub last_fill_never_raises_the_margin : LastFillNeverRaisesTheMargin
last_fill_never_raises_the_margin last price cards rise positions before after o f paid within fills =
    le_trans (cancel_never_raises last price cards rise (filled_positions positions o.line f paid) before after (filled_order o f)) (fill_never_raises last price cards rise positions before after o f paid within fills)
