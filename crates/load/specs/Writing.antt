-- How a day is written as a session file, and which days may be.
use Rattle.std.specs.Prelude.{◌≡◌, ℕ, zero, suc, ◌+◌, ◌*◌, ◌/◌, ◌%◌, ◌≤◌, true, List, [], ◌∷◌, ◌++◌, map, length, take, drop, ℤ, pos, Ok, codes}
use Rattle.std.specs.List.{AllByRecursion}
use Rattle.terms.specs.Cards.{within}
use Rattle.terms.specs.Halves.{half_size, points}
use Rattle.terms.specs.declared.cards.Basket.{Basket}
use Rattle.terms.specs.declared.cards.Family.{Family}
use Rattle.terms.specs.declared.cards.Held.{Held}
use Rattle.terms.specs.declared.cards.Line.{Line}
use Rattle.terms.specs.declared.cards.Month.{Month}
use Rattle.terms.specs.declared.half.Half.{Half}
use Rattle.text.specs.Grammar.{Inner, Outer, text_of}
use Rattle.text.specs.Writing.{InRange}
use Rattle.deck.specs.Judgements.{cards_judged}
use Rattle.forms.specs.Fields.{allows}
use Rattle.forms.specs.Rows.{price_allowed}
use Rattle.kinds.specs.Filled.{no_line}
use Rattle.kinds.specs.declared.Order.{Order}
use Rattle.load.specs.Days.{Day}
use Rattle.load.specs.Loading.{cards_of}

-- ---- one form

abbrev form : List ℕ → List Inner → Outer
form head inners = record { head = head; inners = inners }

abbrev inner : List ℕ → List ℤ → Inner
inner head numbers = record { head = head; numbers = numbers }

abbrev one : List ℕ → ℤ → Inner
one head number = inner head (number ∷ [])

abbrev pub grid_form : Half → Outer
grid_form half = form (codes "grid") (one (codes "half") (pos (half_size half)) ∷ [])

abbrev pub family_form : Family → Outer
family_form f = form (codes "family") (one (codes "rule") f.rule ∷ one (codes "window") f.window ∷ [])

abbrev pub basket_form : Basket → Outer
basket_form b = form (codes "basket") (one (codes "family") b.family ∷ one (codes "rule") b.rule ∷ [])

abbrev pub month_form : Month → Outer
month_form m = form (codes "month") (one (codes "basket") m.basket ∷ [])

abbrev pub future_form : Line → Outer
future_form l =
    form (codes "future")
    (one (codes "month") l.month
    ∷ one (codes "price") l.price
    ∷ one (codes "spot") l.spot
    ∷ one (codes "change") l.change
    ∷ inner (codes "rates") (l.rates.r1 ∷ l.rates.r2 ∷ l.rates.r3 ∷ [])
    ∷ inner (codes "limits") (l.limits.a ∷ l.limits.b ∷ [])
    ∷ [])

abbrev pub option_form : Line → Outer
option_form l = form (codes "option") (one (codes "month") l.month ∷ [])

abbrev pub row_form : ℕ → ℕ → List ℤ → Outer
row_form line column prices = form (codes "row") (one (codes "line") (pos line) ∷ one (codes "column") (pos column) ∷ inner (codes "prices") prices ∷ [])

abbrev pub cash_form : ℤ → Outer
cash_form amount = form (codes "cash") (one (codes "amount") amount ∷ [])

abbrev pub held_form : Held → Outer
held_form h = form (codes "held") (one (codes "line") h.line ∷ one (codes "net") h.net ∷ one (codes "price") h.price ∷ [])

abbrev pub order_form : Order → Outer
order_form o = form (codes "order") (one (codes "line") o.line ∷ one (codes "net") o.net ∷ one (codes "price") o.price ∷ [])

-- ---- a day

-- so many rows from an index on, seven for each line, with their prices one after the other
abbrev pub row_forms : ℕ → Half → ℕ → ℕ → List ℤ → List Outer
row_forms first half zero index prices = []
row_forms first half (suc left) index prices = row_form (first + index / 7) (index % 7) (take (points half) prices) ∷ row_forms first half left (index + 1) (drop (points half) prices)

-- the options are the lines behind the futures, and have a row for each of the seven columns
abbrev pub rows_of : Day → List Outer
rows_of day = row_forms (length day.futures) day.half (7 * length day.options) 0 day.prices

abbrev pub forms_of : Day → List Outer
forms_of day =
    grid_form day.half
    ∷ (map family_form day.families
    ++ (map basket_form day.baskets
    ++ (map month_form day.months
    ++ (map future_form day.futures
    ++ (map option_form day.options
    ++ (rows_of day
    ++ (cash_form day.cash
    ∷ (map held_form day.held
    ++ map order_form day.orders))))))))

-- the text, one form to a line
abbrev pub writing : Day → List ℕ
writing day = text_of (forms_of day)

-- ---- which days may be written

-- an option has a month alone
abbrev pub IsOption : Line → Type 0
IsOption l = l ≡ record { month = l.month; price = no_line.price; spot = no_line.spot; change = no_line.change; rates = no_line.rates; limits = no_line.limits }

-- so many rows of prices from an index on: a price for each point, which its column allows, and none besides
abbrev pub RowsFit : Half → ℕ → ℕ → List ℤ → Type 0
RowsFit half zero index prices = prices ≡ []
RowsFit half (suc left) index prices =
    (length (take (points half) prices) ≡ points half)
    × AllByRecursion (λ n. allows (price_allowed (index % 7)) n ≡ true) (take (points half) prices)
    × RowsFit half left (index + 1) (drop (points half) prices)

-- numbers of up to 15 digits
abbrev pub OrderFits : Order → Type 0
OrderFits o = InRange o.line × InRange o.net × InRange o.price

pub record Passes (day : Day) : Type 0 where
  -- an account may begin with the cards and the held records: as many as there may be, each number in its field, each name of something, no line held twice
  pub cards : cards_judged (length (day.futures ++ day.options)) (cards_of day) day.held ≡ Ok (cards_of day)
  pub options : AllByRecursion IsOption day.options
  pub prices : RowsFit day.half (7 * length day.options) 0 day.prices
  pub cash : within (pos 0) (pos 100000000000000) day.cash ≡ true
  pub held : length day.held ≤ 16
  pub orders : AllByRecursion OrderFits day.orders
