-- Where a line's results do not fall and what it may come to does not rise, no cell falls, and so the margin does not rise.
use Rattle.std.proofs.Common.{◌≡◌, ℕ, ◌<◌, ◌≤◌, Bool, true, false, ◌&&◌, eqb, ltb, leb, length, ℤ, pos, ◌+ℤ◌, ◌-ℤ◌, ◌*ℤ◌, ◌≤ℤ◌, refl, arith}
use lib.Signed.{≤ℤ_refl}
use Rattle.std.specs.Int.{int_min}
use Rattle.std.proofs.lemmas.Int.{ints, clamps}
use Rattle.terms.specs.declared.cards.Line.{Line}
use Rattle.margin.specs.Book.{Cards, Book, line, is_future, over_lines, position, order, over_orders}
use Rattle.margin.specs.Cells.{holds_price, gridded, position_result, order_result, above, charge, buys, sells, long_reach, short_reach, charges_at, charged, line_cell, month_cell, cells}
use Rattle.margin.specs.LeastCover.{margin}
use Rattle.margin.proofs.SumLaws.{sum_le, total_le}
use Rattle.margin.proofs.Cover.{margin_falls_as_cells_rise}
use Rattle.margin.proofs.Products.{both_up, scaled}

-- a future whose rates do not fall
pub record RatesRise (f : Line) : Type 0 where
  pub spot_low : pos 0 ≤ℤ f.spot
  pub first_second : f.rates.r1 ≤ℤ f.rates.r2
  pub second_third : f.rates.r2 ≤ℤ f.rates.r3

above_le : (a b limit : ℤ) → a ≤ℤ b → above limit a ≤ℤ above limit b
unfolding above
above_le a b limit h = omega (arith, ints, clamps)

-- the charge does not fall with the contracts
pub charge_le : (f : Line) (a b : ℤ) → RatesRise f → a ≤ℤ b → charge f a ≤ℤ charge f b
unfolding charge
charge_le f a b rise h =
    scaled (pos 8 *ℤ f.spot) _ _ (both_up (pos 8) f.spot (omega (arith, ints)) rise.spot_low)
    (sum_le _ _ _ _ (part f.rates.r1 f.rates.r2 f.limits.a rise.first_second) (part f.rates.r2 f.rates.r3 f.limits.b rise.second_third))
  where
    part : (r r' limit : ℤ) → r ≤ℤ r' → ((r' -ℤ r) *ℤ above limit a) ≤ℤ ((r' -ℤ r) *ℤ above limit b)
    part r r' limit k = scaled (r' -ℤ r) (above limit a) (above limit b) (omega (arith, ints)) (above_le a b limit h)

-- what a line adds to cells from one book to another: its position and its orders give no less in any cell, and it may come to no more on either side
pub record Eased (before after : Book) (l : ℕ) : Type 0 where
  pub result : (x : ℤ) (column : ℕ) → (position_result (position before l) x column +ℤ over_orders before l (λ i. int_min (pos 0) (order_result (order before i) x column))) ≤ℤ (position_result (position after l) x column +ℤ over_orders after l (λ i. int_min (pos 0) (order_result (order after i) x column)))
  pub long : ((position after l).net +ℤ buys after l) ≤ℤ ((position before l).net +ℤ buys before l)
  pub short : (sells after l -ℤ (position after l).net) ≤ℤ (sells before l -ℤ (position before l).net)

module _ (last : ℕ) (cards : Cards) (before after : Book) (l : ℕ) (rise : is_future cards l ≡ true → RatesRise (line cards l)) (eased : Eased before after l) where
  long_le : long_reach after l ≤ℤ long_reach before l
  unfolding long_reach
  long_le = let h = eased.long in omega (arith, ints, clamps)

  short_le : short_reach after l ≤ℤ short_reach before l
  unfolding short_reach
  short_le = let h = eased.short in omega (arith, ints, clamps)

  at_le : (b : Bool) (x y : ℤ) → x ≤ℤ y → (elim b [ true ↦ x | false ↦ pos 0 ]) ≤ℤ (elim b [ true ↦ y | false ↦ pos 0 ])
  at_le true x y h = h
  at_le false x y h = ≤ℤ_refl (pos 0)

  charges_le : (point : ℕ) → RatesRise (line cards l) → charges_at last cards after l point ≤ℤ charges_at last cards before l point
  unfolding charges_at
  charges_le point r = sum_le _ _ _ _ (at_le (eqb point 0) _ _ (charge_le (line cards l) _ _ r long_le)) (at_le (eqb point last) _ _ (charge_le (line cards l) _ _ r short_le))

  charged_le : (point column : ℕ) → charged last cards after l point column ≤ℤ charged last cards before l point column
  unfolding charged
  charged_le point column = by (is_future cards l) refl
    where
      by : (future : Bool) → is_future cards l ≡ future → (elim future [ true ↦ elim (holds_price column) [ true ↦ charges_at last cards after l point | false ↦ pos 0 ] | false ↦ pos 0 ]) ≤ℤ (elim future [ true ↦ elim (holds_price column) [ true ↦ charges_at last cards before l point | false ↦ pos 0 ] | false ↦ pos 0 ])
      by true e = at_le (holds_price column) _ _ (charges_le point (rise e))
      by false e = ≤ℤ_refl (pos 0)

  pub line_le : (price : ℕ → ℕ → ℕ → ℤ) (point column : ℕ) → line_cell last price cards before (λ i result. int_min (pos 0) result) l point column ≤ℤ line_cell last price cards after (λ i result. int_min (pos 0) result) l point column
  unfolding line_cell
  line_le price point column = linear _ _ _ _ _ _ (eased.result (price l point column) column) (charged_le point column)
    where
      linear : (r r' c c' o o' : ℤ) → (r +ℤ o) ≤ℤ (r' +ℤ o') → c' ≤ℤ c → ((r -ℤ c) +ℤ o) ≤ℤ ((r' -ℤ c') +ℤ o')
      linear r r' c c' o o' h k = omega (arith, ints)

-- cards whose futures have rates that do not fall
abbrev pub FuturesRise : Cards → Type 0
FuturesRise cards = (l : ℕ) → l < length cards.lines → is_future cards l ≡ true → RatesRise (line cards l)

module _ (last : ℕ) (price : ℕ → ℕ → ℕ → ℤ) (cards : Cards) (before after : Book) (rise : FuturesRise cards) (eased : (l : ℕ) → l < length cards.lines → Eased before after l) where
  cells_rise : (m p k : ℕ) → cells last price cards before m p k ≤ℤ cells last price cards after m p k
  unfolding cells month_cell gridded
  cells_rise m p k = by (ltb m (length cards.months) && (leb p last && ltb k 7))
    where
      by : (on : Bool) → (elim on [ true ↦ over_lines cards m (λ l. line_cell last price cards before (λ i result. int_min (pos 0) result) l p k) | false ↦ pos 0 ]) ≤ℤ (elim on [ true ↦ over_lines cards m (λ l. line_cell last price cards after (λ i result. int_min (pos 0) result) l p k) | false ↦ pos 0 ])
      by true = total_le _ _ _ _ (λ l less inside. line_le last cards before after l (rise l less) (eased l less) price p k)
      by false = ≤ℤ_refl (pos 0)

  pub margin_eases : margin last price cards after ≤ margin last price cards before
  unfolding margin
  margin_eases = margin_falls_as_cells_rise last cards (cells last price cards before) (cells last price cards after) cells_rise
