use Rattle.std.proofs.Common.{◌^◌}
use Rattle.margin.specs.Cells.{month_cell, cells}
use Rattle.deck.specs.Decks.{deck_cards}
use Rattle.deck.proofs.Kept.{few_months}
use Rattle.layers.specs.Rows.{Holds}
use Rattle.layers.specs.Tables.{at_place}
use Rattle.layers.proofs.Tables.{few_points, held_cells}
use Rattle.cells.specs.Books.{book_of}
use Rattle.cells.specs.Grids.{last_of}
use Rattle.cells.specs.Shares.{month_share}
use Rattle.cells.proofs.month_cells.Goals as goal

pub returns : goal.returns
unfolding cells month_cell
returns g c =
    let bank = g.B.Bank.meaning c.args.bank.now in
    let deck = c.args.deck.now in
    let cards = deck_cards deck in
    let book = book_of c.args.book in
    let is = c.desk_for.ensures in
    let held : Holds (at_place (month_share (last_of bank) bank.price cards book)) (2 ^ 70) 952 952 c.table.result = simp (is.bank, is.deck, is.book, is.last) at c.table.ensures in
    held_cells (last_of bank) cards (month_share (last_of bank) bank.price cards book) (2 ^ 70) c.table.result (few_points bank.half) (few_months deck) held
