use Rattle.std.proofs.Common.{◌≡◌, sym, subst, rules, tests}
use Rattle.std.proofs.lemmas.Iterator.{YieldsList-from_slice, YieldsList-from_map}
use Rattle.std.proofs.lemmas.Iterator.Consumers.{YieldsList-at, YieldsList-from_copied, YieldsList-from_enumerate}
use Rattle.order.specs.Orders.{IsFirstLeast, first_least}
use Rattle.order.proofs.Found.{is_first_least}
use Rattle.order.proofs.Numbered.{least_numbered}
use Rattle.order.proofs.Reduced.{reduced}
use Rattle.order.proofs.least.Goals as goal

found : (g : _) (c : goal.After-reduce g) → c.reduce.result ≡ first_least g.T.Ordered.at_most c.args.items.now
found g c =
    let at_most = g.T.Ordered.at_most in
    let items = c.args.items.now in
    least_numbered g.T.Ordered.ordered items _ (reduced _ _ _ (λ p q r f k. search (rules, tests)) _ c.reduce.ensures.ran (YieldsList-from_map _ _ (YieldsList-at c.map.ensures.source (YieldsList-from_enumerate (YieldsList-at c.enumerate.ensures.source (YieldsList-from_copied (YieldsList-at c.copied.ensures.source (YieldsList-from_slice items (cc))))) c.enumerate.ensures.count)) c.map.ensures.closure (λ x r q k. search (rules, tests))))

pub returns-clause-value : goal.returns-clause-value
returns-clause-value g c = found g c

pub returns-clause-law : goal.returns-clause-law
returns-clause-law g c =
    subst (IsFirstLeast g.T.Ordered.at_most c.args.items.now) (sym (found g c)) (is_first_least g.T.Ordered.ordered c.args.items.now)
