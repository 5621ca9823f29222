use Rattle.std.proofs.Common.{sym, ap, ◌∙◌, SFits, rules}
use mir.Syntax.{w128}
use Rattle.std.proofs.lemmas.Int.{to_z-of_z}
use Rattle.margin.proofs.ByRule.{netted_month, half_month}
use Rattle.layers.specs.Scenes.{cards_of, cells_of}
use Rattle.layers.proofs.fitted.Fitted.month_in.Goals as goal

pub returns-then-is_netted_basket : goal.returns-then-is_netted_basket
returns-then-is_netted_basket c =
    let s = c.args.self.now.scene in
    let rule = sym c.is_netted_basket.ensures ∙ c.if-is_netted_basket.true in
    let chosen = netted_month s.last (cards_of s) (cells_of s) c.args.b c.args.p c.args.m rule in
    cc (ap (λ r. r.1) c.netted_column.ensures.value)

pub returns-else-is_netted_basket : goal.returns-else-is_netted_basket
returns-else-is_netted_basket c =
    let s = c.args.self.now.scene in
    let rule = sym c.is_netted_basket.ensures ∙ c.if-is_netted_basket.false in
    let chosen = half_month s.last (cards_of s) (cells_of s) c.args.b c.args.p c.args.m rule in
    let fits : SFits w128 c.month_result.result = search rules in
    let taken = simp to_z-of_z at c.if_below_0.ensures in
    cc (ap (λ r. r.1) c.volatility_result.ensures.value)
