-- What a layer comes to for judged cards and their cells, on a grid of a half.
use Rattle.std.specs.Prelude.{ℕ, ℤ}
use Rattle.terms.specs.declared.half.Half.{Half}
use Rattle.margin.specs.Book.{Cards}
use Rattle.deck.specs.Decks.{deck_cards}
use Rattle.deck.specs.declared.deck.Deck.{Deck}
use Rattle.layers.specs.declared.month_cells.MonthCells.{MonthCells}
use Rattle.layers.specs.Tables.{last_point, table_cells}

abbrev pub on_cells : {X : Type 0} → (ℕ → Cards → (ℕ → ℕ → ℕ → ℤ) → X) → Half → Deck → MonthCells → X
on_cells layer half deck cells = layer (last_point half) (deck_cards deck) (table_cells (last_point half) (deck_cards deck) cells.cells)
