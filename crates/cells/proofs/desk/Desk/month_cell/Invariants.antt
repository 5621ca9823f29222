use Rattle.std.proofs.Common.{◌≡◌, ◌*◌, ◌^◌, ◌≤◌, nat_abs}
use Rattle.margin.specs.Book.{in_month}
use Rattle.margin.specs.Sums.{total}
use Rattle.deck.specs.Decks.{deck_cards}
use Rattle.cells.specs.Books.{book_of}
use Rattle.cells.specs.Shares.{line_share}
use Rattle.cells.proofs.desk.Desk.month_cell.Given as goal

abbrev pub invariant-loop-line : goal.invariant-loop-line
invariant-loop-line g l = record {
  value : l.sum ≡ total l.line (in_month (deck_cards l.self.deck.now) l.m) (λ n. line_share l.self.last (g.B.Bank.meaning l.self.bank.now).price (deck_cards l.self.deck.now) (book_of l.self.book) n l.p l.k);
  size : nat_abs l.sum ≤ l.line * 2 ^ 61;
}
