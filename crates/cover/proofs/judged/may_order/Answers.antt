use Rattle.std.proofs.Common.{◌∙◌, rules, tests}
use Rattle.std.proofs.lemmas.Iterator.{YieldsList-from_slice}
use Rattle.std.proofs.lemmas.Iterator.Search.{all_from_yields_List}
use Rattle.cover.specs.Small.{small_order}
use Rattle.cover.proofs.Bounded.{none_failing}
use Rattle.cover.proofs.judged.may_order.Goals as goal

pub returns : goal.returns
returns c =
    let orders = c.args.orders.now in
    all_from_yields_List small_order _ _ _ c.all.ensures.ran (YieldsList-from_slice orders (cc)) (λ x b q k. search (rules, tests)) ∙ none_failing small_order 0 orders
