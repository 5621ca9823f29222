use Rattle.std.proofs.Common.{◌<◌, length, vec_items, sym, ap, ◌∙◌, arith, w64, SFits, rules}
use Rattle.std.proofs.lemmas.Int.{to_z-of_z}
use Rattle.std.proofs.lemmas.List.{get_or_default}
use Rattle.terms.specs.Cards.{future_fits}
use Rattle.deck.specs.Judgements.{no_line}
use Rattle.deck.specs.Decks.{deck_cards}
use Rattle.cells.specs.Books.{book_of}
use Rattle.cells.proofs.Charged.{charged_here, option_uncharged, change_uncharged}
use Rattle.cells.proofs.desk.Desk.charged.Goals as goal

pub returns-then-line-self-clause-value : goal.returns-then-line-self-clause-value
returns-then-line-self-clause-value g c =
    let desk = c.args.self.now in
    sym (option_uncharged desk.last (deck_cards desk.deck.now) (book_of desk.book) c.args.line c.args.point c.args.column c.if-line-self.true)

pub returns-then-column-ge-VOLATILITIES-clause-value : goal.returns-then-column-ge-VOLATILITIES-clause-value
returns-then-column-ge-VOLATILITIES-clause-value g c =
    let desk = c.args.self.now in
    sym (change_uncharged desk.last (deck_cards desk.deck.now) (book_of desk.book) c.args.line c.args.point c.args.column c.if-line-self.false (omega arith))

pub invariant_of-charges_at : goal.invariant_of-charges_at
invariant_of-charges_at g c =
    let deck = c.args.self.now.deck.now in
    let line = c.args.line in
    let inside : line < length (vec_items deck.lines) = omega (arith, deck.lines.ok.0, deck.few_futures) in
    let read = c.index-card.ensures ∙ get_or_default (vec_items deck.lines) line _ no_line inside in
    record { fits = ap future_fits read ∙ deck.futures_fit line c.if-line-self.false }

pub returns-clause-value : goal.returns-clause-value
returns-clause-value g c =
    let desk = c.args.self.now in
    let whole : SFits w64 c.charges_at.result = search rules in
    let here = charged_here desk.last (deck_cards desk.deck.now) (book_of desk.book) c.args.line c.args.point c.args.column c.if-line-self.false (omega arith) in
    to_z-of_z w64 c.charges_at.result whole ∙ c.charges_at.ensures.value ∙ sym here
