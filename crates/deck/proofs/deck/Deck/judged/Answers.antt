use Rattle.std.proofs.Common.{sym, rules}
use Rattle.deck.proofs.Facts.{refused_as}
use Rattle.deck.proofs.deck.Deck.judged.Goals as goal

pub returns-in_err-accepted : goal.returns-in_err-accepted
returns-in_err-accepted c =
    let refused = refused_as _ c.in_err-accepted.field-0.0 (sym c.in_err-accepted.ensures) in
    search (rules, refused)
