use Rattle.std.proofs.Common.{◌^◌, ap, le_trans, lit≤}
use Rattle.margin.specs.Layers.{month_result}
use Rattle.layers.proofs.Sizes.{added}
use Rattle.layers.proofs.fitted.Fitted.month_result.Goals as goal

pub returns : goal.returns
unfolding month_result
returns c =
    let volatility = c.volatility_result.ensures in
    let curve = c.curve_result.ensures in
    let sum = added _ _ _ _ (2 ^ 70) (2 ^ 71) (lit≤ tt) (lit≤ tt) volatility.size curve.size (ap (λ r. r.0) volatility.value) curve.value in
    record { value = sum.value; size = le_trans sum.size_is (lit≤ tt) }
