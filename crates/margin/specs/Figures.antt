-- The margins of small books, worked out by the definitions.
use Rattle.std.specs.Prelude.{◌≡◌, ℕ, true, false, List, [], ◌∷◌, ℤ, pos, negsuc, ◌+ℤ◌, ◌-ℤ◌, ◌*ℤ◌, neg_ℤ, ◌==◌, nat_le}
use Rattle.terms.specs.declared.cards.Family.{Family}
use Rattle.terms.specs.declared.cards.Line.{Line}
use Rattle.margin.specs.declared.book.Position.{Position}
use Rattle.margin.specs.declared.book.Open.{Open}
use Rattle.margin.specs.Book.{Cards, Book, line}
use Rattle.margin.specs.Cells.{cells}
use Rattle.margin.specs.Layers.{margin_of, family_loss, family_worst}

-- the prices of futures on a grid of half 1: the price moves by the whole first rate at the first and the last point, and the rate curve moves it by the change
unfoldable pub futures_price : Cards → ℕ → ℕ → ℕ → ℤ
futures_price cards l point column =
    let f = line cards l in
    elim (nat_le column 2) [
      | true ↦ pos 80000 *ℤ f.price +ℤ (pos point -ℤ pos 1) *ℤ pos 8 *ℤ f.rates.r1 *ℤ f.spot
      | false ↦ elim (column == 3) [
        | true ↦ neg_ℤ (pos 80000 *ℤ f.change)
        | false ↦ elim (column == 4) [ true ↦ pos 80000 *ℤ f.change | false ↦ pos 0 ]
      ]
    ]

unfoldable pub cells_of : Cards → Book → ℕ → ℕ → ℕ → ℤ
cells_of cards book = cells 2 (futures_price cards) cards book

unfoldable pub margin_for : Cards → Book → ℕ
margin_for cards book = margin_of 2 cards (cells_of cards book)

-- ---- cards
unfoldable pub future : ℤ → ℤ → Line
future month change = record { month = month; price = pos 100000; spot = pos 100000; change = change; rates = record { r1 = pos 1000; r2 = pos 1500; r3 = pos 2000 }; limits = record { a = pos 10; b = pos 20 } }

unfoldable pub netted_family_card : Family
netted_family_card = record { rule = pos 1; window = pos 0 }

-- one future, and everything netted
unfoldable pub one_future : Cards
one_future = record { families = netted_family_card ∷ []; baskets = record { family = pos 0; rule = pos 1 } ∷ []; months = record { basket = pos 0 } ∷ []; lines = future (pos 0) (pos 0) ∷ []; futures = 1 }

-- two futures of two months in one basket of this rule
unfoldable pub two_months : ℤ → Cards
two_months rule = record { families = netted_family_card ∷ []; baskets = record { family = pos 0; rule = rule } ∷ []; months = record { basket = pos 0 } ∷ (record { basket = pos 0 } ∷ []); lines = future (pos 0) (pos 500) ∷ (future (pos 1) (pos 700) ∷ []); futures = 2 }

unfoldable pub small_future : ℤ → Line
small_future month = record { month = month; price = pos 10000; spot = pos 3000; change = pos 0; rates = record { r1 = pos 1; r2 = pos 1; r3 = pos 1 }; limits = record { a = pos 10; b = pos 20 } }

-- two families with one small future each
unfoldable pub two_families : Cards
two_families = record { families = netted_family_card ∷ (netted_family_card ∷ []); baskets = record { family = pos 0; rule = pos 1 } ∷ (record { family = pos 1; rule = pos 1 } ∷ []); months = record { basket = pos 0 } ∷ (record { basket = pos 1 } ∷ []); lines = small_future (pos 0) ∷ (small_future (pos 1) ∷ []); futures = 2 }

-- ---- books
-- net contracts taken at a price in kopecks
unfoldable pub held : ℤ → ℤ → Position
held net price = record { net = net; cost = pos 80000 *ℤ net *ℤ price }

unfoldable pub offer : ℤ → ℤ → Open
offer left limit = record { line = 0; left = left; limit = limit }

unfoldable pub holding : ℤ → List Open → Book
holding net orders = record { positions = held net (pos 100000) ∷ []; orders = orders }

unfoldable pub spread : Book
spread = record { positions = held (pos 3) (pos 100000) ∷ (held (negsuc 1) (pos 100000) ∷ []); orders = offer (pos 1) (pos 95000) ∷ [] }

unfoldable pub one_of_each : Book
one_of_each = record { positions = held (pos 1) (pos 10000) ∷ (held (pos 1) (pos 10000) ∷ []); orders = [] }

-- ---- figures
pub record Figures : Type 0 where
  pub nothing_held : margin_for one_future (holding (pos 0) []) ≡ 0
  pub twelve_held : margin_for one_future (holding (pos 12) []) ≡ 130000
  pub twelve_short : margin_for one_future (holding (negsuc 11) []) ≡ 130000
  pub twenty_one_held : margin_for one_future (holding (pos 21) []) ≡ 270000
  pub a_sell_open : margin_for one_future (holding (pos 12) (offer (negsuc 4) (pos 100000) ∷ [])) ≡ 130000
  pub the_sell_filled : margin_for one_future (holding (pos 7) []) ≡ 70000
  pub a_buy_at_the_lowest : margin_for one_future (holding (pos 0) (offer (pos 1) (pos 90000) ∷ [])) ≡ 0
  pub a_buy_above_it : margin_for one_future (holding (pos 0) (offer (pos 1) (pos 90001) ∷ [])) ≡ 1
  -- rounding each family's loss would give 2
  pub rounded_once : margin_for two_families one_of_each ≡ 1
  pub netted_months : margin_for (two_months (pos 1)) spread ≡ 18400
  pub netted_months_loss : family_loss 2 (two_months (pos 1)) (cells_of (two_months (pos 1)) spread) 0 ≡ 1472000000
  pub netted_months_point : (family_worst 2 (two_months (pos 1)) (cells_of (two_months (pos 1)) spread) 0).1 ≡ 0
  pub half_months : margin_for (two_months (pos 0)) spread ≡ 37000
