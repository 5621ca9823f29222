use Rattle.std.proofs.Common.{◌≡◌, ℕ, ℤ, Ok, Err, subst, w64, to_z, of_z}
use Rattle.std.proofs.lemmas.Int.{to_z-of_z}
use Rattle.std.proofs.lemmas.Result.{err_from_is_err_and}
use Rattle.deck.specs.Decks.{given_cards, DeckOutcome}
use Rattle.deck.specs.Judgements.{cards_judged}
use Rattle.margin.specs.Book.{Cards}
use Rattle.calls.specs.Begun.{BeginOutcome, with_cards}
use Rattle.calls.proofs.Begins.{begin_refused, begin_goes_on}
use Rattle.calls.proofs.opening.begin.Goals as goal

pub returns-in_err-deck : goal.returns-in_err-deck
returns-in_err-deck g c =
    let cards = given_cards c.args.given.now in
    let p = err_from_is_err_and c.from_residual.result c.from_residual.ensures.1 in
    rw (p.1, p.2) (begin_refused g.B.Bank.meaning (g.B.Bank.meaning c.args.bank) cards c.args.held.now c.args.collateral c.in_err-deck.field-0.0
    (subst (λ (n : ℕ). DeckOutcome (Err c.in_err-deck.field-0.0) cards (cards_judged n cards c.args.held.now)) c.lines.ensures.value c.in_err-deck.ensures))

pub returns : goal.returns
returns g c =
    let cards = given_cards c.args.given.now in
    let told = c.in_ok-deck.ensures in
    let judged = subst (λ (n : ℕ). cards_judged n cards c.args.held.now ≡ Ok cards) c.lines.ensures.value told.1 in
    begin_goes_on g.B.Bank.meaning (g.B.Bank.meaning c.args.bank) cards c.args.held.now c.args.collateral c.begin_with.result judged
    (subst (λ (z : ℤ). BeginOutcome g.B.Bank.meaning c.begin_with.result (Ok cards) (with_cards (g.B.Bank.meaning c.args.bank) cards c.args.held.now z)) (to_z-of_z w64 c.args.collateral c.ranges.collateral)
    (subst (λ (cs : Cards). BeginOutcome g.B.Bank.meaning c.begin_with.result (Ok cs) (with_cards (g.B.Bank.meaning c.args.bank) cs c.args.held.now (to_z w64 (of_z w64 c.args.collateral)))) told.0 c.begin_with.ensures))
