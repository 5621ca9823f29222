-- What fills a month's cell at a point of the grid and a column.
-- Columns 0, 1 and 2, the volatility curves, hold a contract's price; 3 and 4, the rate curve down and up, and 5 and 6, its twists, hold only the change of that price. Money is in grains, of which a kopeck has 80,000.
use Rattle.std.specs.Prelude.{ℕ, Bool, true, false, ◌&&◌, length, ℤ, pos, ◌+ℤ◌, ◌-ℤ◌, ◌*ℤ◌, neg_ℤ, ◌==◌, nat_le, nat_lt}
use Rattle.std.specs.Int.{int_max, int_min}
use Rattle.terms.specs.declared.cards.Line.{Line}
use Rattle.margin.specs.declared.book.Position.{Position}
use Rattle.margin.specs.declared.book.Open.{Open}
use Rattle.margin.specs.Book.{Cards, Book, line, is_future, over_lines, position, order, over_orders}

-- a column that holds prices, not changes of prices
abbrev pub holds_price : ℕ → Bool
holds_price column = nat_le column 2

-- cells as given at so many months, the points up to the last and the seven columns, and 0 outside
unfoldable pub gridded : ℕ → ℕ → (ℕ → ℕ → ℕ → ℤ) → ℕ → ℕ → ℕ → ℤ
gridded last months cells m point column = elim (nat_lt m months && (nat_le point last && nat_lt column 7)) [ true ↦ cells m point column | false ↦ pos 0 ]

-- ---- results
unfoldable pub position_result : Position → ℤ → ℕ → ℤ
position_result p price column = elim (holds_price column) [ true ↦ p.net *ℤ price -ℤ p.cost | false ↦ p.net *ℤ price ]

-- an order's result if all that is left of it were filled at its limit
unfoldable pub order_result : Open → ℤ → ℕ → ℤ
order_result o price column = elim (holds_price column) [ true ↦ o.left *ℤ (price -ℤ pos 80000 *ℤ o.limit) | false ↦ o.left *ℤ price ]

-- ---- concentration charges
unfoldable pub above : ℤ → ℤ → ℤ
above limit n = int_max (pos 0) (n -ℤ limit)

-- what a future is charged for the contracts that it may come to on one side
unfoldable pub charge : Line → ℤ → ℤ
charge f reached = pos 8 *ℤ f.spot *ℤ ((f.rates.r2 -ℤ f.rates.r1) *ℤ above f.limits.a reached +ℤ (f.rates.r3 -ℤ f.rates.r2) *ℤ above f.limits.b reached)

module _ (book : Book) where
  -- the open buys of a line, in contracts, and its open sells
  unfoldable pub buys : ℕ → ℤ
  buys l = over_orders book l (λ i. int_max (pos 0) (order book i).left)

  unfoldable pub sells : ℕ → ℤ
  sells l = over_orders book l (λ i. int_max (pos 0) (neg_ℤ (order book i).left))

  -- the most that the line may come to hold, and to be short of
  unfoldable pub long_reach : ℕ → ℤ
  long_reach l = int_max (pos 0) ((position book l).net +ℤ buys l)

  unfoldable pub short_reach : ℕ → ℤ
  short_reach l = int_max (pos 0) (sells l -ℤ (position book l).net)

-- last is the grid's last point
module _ (last : ℕ) (cards : Cards) (book : Book) where
  -- the long charge is taken off at the first point, where prices are lowest, and the short charge at the last
  unfoldable pub charges_at : ℕ → ℕ → ℤ
  charges_at l point =
      elim (point == 0) [ true ↦ charge (line cards l) (long_reach book l) | false ↦ pos 0 ]
      +ℤ elim (point == last) [ true ↦ charge (line cards l) (short_reach book l) | false ↦ pos 0 ]

  unfoldable pub charged : ℕ → ℕ → ℕ → ℤ
  charged l point column = elim (is_future cards l) [ true ↦ elim (holds_price column) [ true ↦ charges_at l point | false ↦ pos 0 ] | false ↦ pos 0 ]

-- price is the price of a line at a point and column
module _ (last : ℕ) (price : ℕ → ℕ → ℕ → ℤ) (cards : Cards) (book : Book) where
  -- what a line adds to its month's cell: its position less charges, and its open orders, of which `counts` says what each adds, by its number and its result
  unfoldable pub line_cell : (ℕ → ℤ → ℤ) → ℕ → ℕ → ℕ → ℤ
  line_cell counts l point column =
      let here = price l point column in
      position_result (position book l) here column -ℤ charged last cards book l point column
      +ℤ over_orders book l (λ i. counts i (order_result (order book i) here column))

  -- a month's cell adds up its lines; outside the grid it is 0
  unfoldable pub month_cell : (ℕ → ℤ → ℤ) → ℕ → ℕ → ℕ → ℤ
  month_cell counts = gridded last (length cards.months) (λ m point column. over_lines cards m (λ l. line_cell counts l point column))

  -- the cells that the margin is worked out from: each order counts only where its result is negative
  unfoldable pub cells : ℕ → ℕ → ℕ → ℤ
  cells = month_cell (λ i result. int_min (pos 0) result)
