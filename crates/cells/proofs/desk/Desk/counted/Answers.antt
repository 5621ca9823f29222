use Rattle.std.proofs.Common.{rules}
use Rattle.deck.specs.Decks.{deck_cards}
use Rattle.cells.specs.Books.{book_of}
use Rattle.cells.proofs.Uncounted.{none_beyond}
use Rattle.cells.proofs.desk.Desk.counted.Goals as goal

pub returns-in-None : goal.returns-in-None
returns-in-None g c =
    let desk = c.args.self.now in
    rw (none_beyond (g.B.Bank.meaning desk.bank.now).price (deck_cards desk.deck.now) (book_of desk.book) c.args.points.now c.args.columns.now c.args.i (search rules)) (search rules)
