-- What an order's end and its fill do to a book: an order that is cancelled leaves the list, and a fill moves contracts and their price from the order to the position.
use Rattle.std.specs.Prelude.{◌≡◌, ℕ, ◌<◌, ◌≤◌, true, ◌⊎◌, List, ◌∷◌, ◌++◌, length, ℤ, pos, ◌+ℤ◌, ◌-ℤ◌, ◌*ℤ◌, ◌≤ℤ◌, slice_index_or, slice_set}
use Rattle.margin.specs.declared.book.Position.{Position}
use Rattle.margin.specs.declared.book.Open.{Open}
use Rattle.margin.specs.Book.{Cards, Book, line, is_future}
use Rattle.margin.specs.LeastCover.{margin}

-- futures whose charge does not fall as contracts grow
abbrev pub ChargesRise : Cards → Type 0
ChargesRise cards = (l : ℕ) → is_future cards l ≡ true → (pos 0 ≤ℤ (line cards l).spot) × ((line cards l).rates.r1 ≤ℤ (line cards l).rates.r2) × ((line cards l).rates.r2 ≤ℤ (line cards l).rates.r3)

-- f contracts at a price in kopecks are a fill of the order: some of what is left, with its sign, no worse than its limit
abbrev pub Fills : Open → ℤ → ℤ → Type 0
Fills o f price = ((pos 0 ≤ℤ f) × (f ≤ℤ o.left) × (price ≤ℤ o.limit)) ⊎ ((f ≤ℤ pos 0) × (o.left ≤ℤ f) × (o.limit ≤ℤ price))

abbrev pub filled_order : Open → ℤ → Open
filled_order o f = record { line = o.line; left = o.left -ℤ f; limit = o.limit }

abbrev pub filled_position : Position → ℤ → ℤ → Position
filled_position p f price = record { net = p.net +ℤ f; cost = p.cost +ℤ pos 80000 *ℤ f *ℤ price }

abbrev pub filled_positions : List Position → ℕ → ℤ → ℤ → List Position
filled_positions positions l f price = slice_set positions l (filled_position (slice_index_or positions l (record { net = pos 0; cost = pos 0 })) f price)

abbrev pub book_of : List Position → List Open → Book
book_of positions orders = record { positions = positions; orders = orders }

abbrev pub CancelNeverRaisesTheMargin : Type 0
CancelNeverRaisesTheMargin = (last : ℕ) (price : ℕ → ℕ → ℕ → ℤ) (cards : Cards) → ChargesRise cards → (positions : List Position) (before after : List Open) (o : Open) → margin last price cards (book_of positions (before ++ after)) ≤ margin last price cards (book_of positions (before ++ (o ∷ after)))

abbrev pub FillNeverRaisesTheMargin : Type 0
FillNeverRaisesTheMargin = (last : ℕ) (price : ℕ → ℕ → ℕ → ℤ) (cards : Cards) → ChargesRise cards → (positions : List Position) (before after : List Open) (o : Open) (f paid : ℤ) → o.line < length positions → Fills o f paid → margin last price cards (book_of (filled_positions positions o.line f paid) (before ++ (filled_order o f ∷ after))) ≤ margin last price cards (book_of positions (before ++ (o ∷ after)))

-- the same where the order then leaves the list, as it does when nothing is left of it
abbrev pub LastFillNeverRaisesTheMargin : Type 0
LastFillNeverRaisesTheMargin = (last : ℕ) (price : ℕ → ℕ → ℕ → ℤ) (cards : Cards) → ChargesRise cards → (positions : List Position) (before after : List Open) (o : Open) (f paid : ℤ) → o.line < length positions → Fills o f paid → margin last price cards (book_of (filled_positions positions o.line f paid) (before ++ after)) ≤ margin last price cards (book_of positions (before ++ (o ∷ after)))
