use Rattle.std.proofs.Common.{◌∙◌, rules, tests}
use Rattle.std.proofs.lemmas.Iterator.{YieldsList-from_slice, YieldsList-from_take}
use Rattle.std.proofs.lemmas.Iterator.Search.{all_from_yields_List}
use Rattle.deck.specs.Judgements.{is_other}
use Rattle.deck.proofs.Facts.{same_number}
use Rattle.deck.proofs.Positions.{passing_before}
use Rattle.deck.proofs.judges.is_first.Goals as goal

pub returns : goal.returns
returns c =
    let test = is_other c.args.line in
    let all = c.args.all.now in
    let place = c.args.place in
    all_from_yields_List test _ _ _ c.all.ensures.ran (YieldsList-from_take place (YieldsList-from_slice all (cc)) (cc)) (λ x b q k. search (rules, tests, same_number)) ∙ passing_before test place all
