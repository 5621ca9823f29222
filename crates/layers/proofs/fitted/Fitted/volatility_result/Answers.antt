use mir.Syntax.{w128}
use Rattle.std.proofs.Common.{SFits, rules}
use Rattle.std.proofs.lemmas.Int.{to_z-of_z}
use Rattle.margin.specs.Layers.{volatility_result}
use Rattle.layers.proofs.fitted.Fitted.volatility_result.Goals as goal

pub returns : goal.returns
unfolding volatility_result
returns c =
    let fits : SFits w128 c.cell.result = search rules in
    let fits-2 : SFits w128 c.cell-2.result = search rules in
    let fits-3 : SFits w128 c.cell-3.result = search rules in
    let found = simp to_z-of_z at c.least_of_three.ensures.value in
    let sized = simp to_z-of_z at c.least_of_three.ensures.size in
    record { value = cc found; size = sized _ c.cell.ensures.size c.cell-2.ensures.size c.cell-3.ensures.size }
