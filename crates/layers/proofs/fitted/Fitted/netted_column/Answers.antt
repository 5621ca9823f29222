use mir.Syntax.{w128}
use Rattle.std.proofs.Common.{SFits, rules}
use Rattle.std.proofs.lemmas.Int.{to_z-of_z}
use Rattle.margin.specs.Layers.{netted_column}
use Rattle.layers.specs.Scenes.{cells_of}
use Rattle.layers.proofs.fitted.Fitted.netted_column.Goals as goal

pub returns : goal.returns
unfolding netted_column
returns c =
    let cells = cells_of c.args.self.now.scene in
    let fits : SFits w128 c.sum_over-first.result = search rules in
    let fits-2 : SFits w128 c.sum_over-second.result = search rules in
    let fits-3 : SFits w128 c.sum_over-third.result = search rules in
    let first = c.sum_over-first.ensures.value (λ m. cells m c.args.p 0) (λ m r h. search rules) in
    let second = c.sum_over-second.ensures.value (λ m. cells m c.args.p 1) (λ m r h. search rules) in
    let third = c.sum_over-third.ensures.value (λ m. cells m c.args.p 2) (λ m r h. search rules) in
    let found = simp to_z-of_z at c.least_of_three.ensures.value in
    let sized = simp to_z-of_z at c.least_of_three.ensures.size in
    record { value = cc (found, first, second, third); size = sized _ c.sum_over-first.ensures.size c.sum_over-second.ensures.size c.sum_over-third.ensures.size }
