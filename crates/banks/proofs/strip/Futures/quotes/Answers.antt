use Rattle.std.proofs.Common.{◌≡◌, ◌<◌, length, get_or, le_trans, rules, tests}
use Rattle.banks.specs.Strips.{quote_of, no_line, no_quote}
use Rattle.banks.proofs.Made.{each_made}
use Rattle.banks.proofs.strip.Futures.quotes.Goals as goal

pub returns-clause-each : goal.returns-clause-each
returns-clause-each c k h =
    let cards = c.args.self.now.cards.now in
    each_made _ (λ i q. i < length cards → q ≡ quote_of c.args.self.now.half (get_or cards i no_line)) _ (λ i y q called. search (rules, tests)) c.from_fn.result no_quote 16 c.from_fn.ensures.items k (le_trans h c.args.self.now.few) h
