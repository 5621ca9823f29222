use Rattle.std.proofs.Common.{◌^◌, ap, lit≤, rules}
use Rattle.margin.specs.Layers.{curve_result, netted_basket_result}
use Rattle.layers.specs.Scenes.{cells_of}
use Rattle.layers.proofs.Sizes.{added}
use Rattle.layers.proofs.fitted.Fitted.netted_basket_result.Goals as goal

pub returns : goal.returns
unfolding netted_basket_result
returns c =
    let column = c.netted_column.ensures in
    let curves = c.sum_over.ensures in
    let value = curves.value (λ m. curve_result (cells_of c.args.self.now.scene) m c.args.p) (λ m r h. search rules) in
    let sum = added _ _ _ _ (2 ^ 75) (2 ^ 75) (lit≤ tt) (lit≤ tt) column.size curves.size (ap (λ r. r.0) column.value) value in
    record { value = sum.value; size = sum.size_is }
