use Rattle.std.proofs.Common.{◌∙◌, rules, tests}
use Rattle.std.proofs.lemmas.Iterator.{YieldsList-from_slice}
use Rattle.std.proofs.lemmas.Iterator.Search.{all_from_yields_List}
use Rattle.cover.specs.Small.{small_position}
use Rattle.cover.proofs.Bounded.{none_failing}
use Rattle.cover.proofs.judged.may_hold.Goals as goal

pub returns : goal.returns
returns c =
    let positions = c.args.positions.now in
    all_from_yields_List small_position _ _ _ c.all.ensures.ran (YieldsList-from_slice positions (cc)) (λ x b q k. search (rules, tests)) ∙ none_failing small_position 0 positions
