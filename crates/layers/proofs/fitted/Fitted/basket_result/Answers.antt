use Rattle.std.proofs.Common.{sym, ◌∙◌, le_trans, lit≤, SFits, rules}
use mir.Syntax.{w128}
use Rattle.std.proofs.lemmas.Int.{to_z-of_z}
use Rattle.margin.proofs.ByRule.{netted_basket_lem, half_basket}
use Rattle.layers.specs.Scenes.{cards_of, cells_of}
use Rattle.layers.proofs.fitted.Fitted.basket_result.Goals as goal

pub returns-then-is_netted_basket : goal.returns-then-is_netted_basket
returns-then-is_netted_basket c =
    let s = c.args.self.now.scene in
    let fits : SFits w128 c.netted_basket_result.result = search rules in
    let rule = sym c.is_netted_basket.ensures ∙ c.if-is_netted_basket.true in
    simp to_z-of_z (record {
      value = c.netted_basket_result.ensures.value ∙ sym (netted_basket_lem 0 (cards_of s) (cells_of s) c.args.b c.args.p rule);
      size = c.netted_basket_result.ensures.size;
    })

pub returns-else-is_netted_basket : goal.returns-else-is_netted_basket
returns-else-is_netted_basket c =
    let s = c.args.self.now.scene in
    let fits : SFits w128 c.half_basket_result.result = search rules in
    let rule = sym c.is_netted_basket.ensures ∙ c.if-is_netted_basket.false in
    simp to_z-of_z (record {
      value = c.half_basket_result.ensures.value ∙ sym (half_basket 0 (cards_of s) (cells_of s) c.args.b c.args.p rule);
      size = le_trans c.half_basket_result.ensures.size (lit≤ tt);
    })
