use Rattle.std.proofs.Common.{sym, ap, ◌∙◌, SFits, rules}
use mir.Syntax.{w128}
use Rattle.std.proofs.lemmas.Int.{to_z-of_z}
use Rattle.margin.proofs.ByRule.{netted_choice, half_choice}
use Rattle.layers.specs.Scenes.{cards_of, cells_of}
use Rattle.layers.proofs.rows.BasketRows.basket_in.Goals as goal

pub returns-then-is_netted_family : goal.returns-then-is_netted_family
returns-then-is_netted_family c =
    let s = c.args.self.now.fitted.scene in
    let rule = sym c.is_netted_family.ensures ∙ c.if-is_netted_family.true in
    let chosen = netted_choice s.last (cards_of s) (cells_of s) c.args.f c.args.p c.args.b rule in
    cc (ap (λ r. r.1) c.worst_within.ensures.value)

pub returns-else-is_netted_family : goal.returns-else-is_netted_family
returns-else-is_netted_family c =
    let s = c.args.self.now.fitted.scene in
    let rule = sym c.is_netted_family.ensures ∙ c.if-is_netted_family.false in
    let chosen = half_choice s.last (cards_of s) (cells_of s) c.args.f c.args.p c.args.b rule in
    let fits : SFits w128 c.result_at.result = search rules in
    let taken = simp to_z-of_z at c.if_below_0.ensures in
    cc c.result_at.ensures.value
