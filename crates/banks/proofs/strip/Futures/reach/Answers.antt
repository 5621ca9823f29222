use Rattle.std.proofs.Common.{ℕ, ap, ◌∙◌, rules, tests}
use Rattle.std.specs.Option.{unwrap_or}
use Rattle.std.proofs.lemmas.Iterator.{YieldsList-from_slice, YieldsList-from_map}
use Rattle.std.proofs.lemmas.Iterator.Consumers.{reduce_from_yields_List, YieldsList-at}
use Rattle.std.proofs.lemmas.List.Folds.{max_of_map}
use Rattle.terms.specs.declared.cards.Line.{Line}
use Rattle.banks.specs.Strips.{quote_of, quote_reach}
use Rattle.banks.proofs.strip.Futures.reach.Goals as goal

pub returns : goal.returns
returns c =
    let size : Line → ℕ = λ card. quote_reach c.args.self.now.half (quote_of c.args.self.now.half card) in
    c.unwrap_or.ensures
    ∙ ap (λ r. unwrap_or r 0) (reduce_from_yields_List _ _ _ c.max.ensures.ran (YieldsList-from_map _ size (YieldsList-at c.map.ensures.source (YieldsList-from_slice _ c.iter.ensures.rest)) c.map.ensures.closure (λ x r q k. search (rules, tests))))
    ∙ max_of_map size c.args.self.now.cards.now
