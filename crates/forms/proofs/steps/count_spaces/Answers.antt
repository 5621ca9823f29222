use Rattle.std.proofs.Common.{not, eqb, rules, tests}
use Rattle.std.proofs.lemmas.Iterator.{YieldsList-from_slice}
use Rattle.std.proofs.lemmas.Iterator.Consumers.{YieldsList-at, YieldsList-from_filter, count_from_yields_List}
use Rattle.std.proofs.lemmas.Iterator.Search.{YieldsList-from_take_while}
use Rattle.forms.proofs.Fronts.{counts_spaces}
use Rattle.forms.proofs.steps.count_spaces.Goals as goal

pub returns : goal.returns
returns c =
    counts_spaces _ c.args.text.now
    (count_from_yields_List c.filter.result c.count.result c.count.ensures.ran
    (YieldsList-from_filter _ (λ b. eqb b 32)
    (YieldsList-at c.filter.ensures.source
    (YieldsList-from_take_while _ (λ b. not (eqb b 41)) (YieldsList-at c.take_while.ensures.source (YieldsList-from_slice c.args.text.now (cc))) c.take_while.ensures.closure c.take_while.ensures.done (λ x b q k. search (rules, tests))))
    c.filter.ensures.closure
    (λ x b q k. search (rules, tests))))
