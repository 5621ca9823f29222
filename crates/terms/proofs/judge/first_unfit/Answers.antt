use Rattle.std.proofs.Common.{not, rules, tests}
use Rattle.std.proofs.lemmas.Iterator.{YieldsList-from_slice}
use Rattle.std.proofs.lemmas.Iterator.Consumers.{YieldsList-from_enumerate}
use Rattle.std.proofs.lemmas.Iterator.Search.{position_from_yields_List}
use Rattle.terms.proofs.Positions.{failing_enumerated}
use Rattle.terms.proofs.judge.first_unfit.Goals as goal

pub returns-clause-value : goal.returns-clause-value
returns-clause-value g c admits same =
    let items = c.args.items.now in
    failing_enumerated admits items _ (position_from_yields_List (λ p. not (admits p.0 p.1)) _ _ _ c.position.ensures.ran (YieldsList-from_enumerate (YieldsList-from_slice items (cc)) (cc)) (λ x b q k. search (rules, tests, same)))
