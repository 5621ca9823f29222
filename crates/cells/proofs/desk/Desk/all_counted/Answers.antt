use Rattle.std.proofs.Common.{◌≡◌, ◌≤◌, sym, ◌∙◌, arith, rules}
use native.Mathlib.Decide.{dec_lt}
use lib.ListN.{get_or-eq_default}
use Rattle.margin.specs.Worlds.{nowhere}
use Rattle.deck.specs.Decks.{deck_cards}
use Rattle.cells.specs.Books.{book_of}
use Rattle.cells.specs.Countings.{counted_from}
use Rattle.banks.proofs.Made.{each_made}
use Rattle.cells.proofs.Uncounted.{none_beyond}
use Rattle.cells.proofs.desk.Desk.all_counted.Goals as goal

pub returns : goal.returns
returns g c =
    let desk = c.args.self.now in
    let price = (g.B.Bank.meaning desk.bank.now).price in
    let cards = deck_cards desk.deck.now in
    let book = book_of desk.book in
    let points = c.args.points.now in
    let columns = c.args.columns.now in
    let made = c.from_fn.ensures in
    λ k. elim (dec_lt k 32) [
      | yes less ↦ each_made _ (λ i y. y ≡ counted_from price cards book points columns i) _ (λ i y q called. (search rules, search rules)) c.from_fn.result nowhere 32 made.items k less
      | no more ↦ (let past : 32 ≤ k = omega arith in get_or-eq_default c.from_fn.result nowhere (omega (arith, made.items.long)) ∙ sym (none_beyond price cards book points columns k (omega (arith, desk.book.few_orders))))
    ]
