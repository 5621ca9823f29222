use Rattle.std.proofs.Common.{pos, ◌∙◌, w64, SFits, rules}
use Rattle.std.specs.Int.{int_max}
use Rattle.std.proofs.lemmas.Int.{to_z-of_z}
use Rattle.margin.specs.Cells.{buys}
use Rattle.cells.proofs.open.open_buys.Goals as goal

pub returns : goal.returns
unfolding buys
returns c =
    let whole : SFits w64 c.over_orders.result = search rules in
    let kept = to_z-of_z w64 c.over_orders.result whole in
    record {
      value = kept ∙ c.over_orders.ensures.value (λ o. int_max (pos 0) o.left) (λ o r e. search rules);
      size = rw kept (c.over_orders.ensures.size 10000 (λ o r e. search rules));
    }
