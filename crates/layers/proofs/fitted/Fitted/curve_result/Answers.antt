use Rattle.std.proofs.Common.{◌^◌, ap, lit≤}
use Rattle.margin.specs.Layers.{curve_result}
use Rattle.layers.proofs.Sizes.{added}
use Rattle.layers.proofs.fitted.Fitted.curve_result.Goals as goal

pub returns : goal.returns
unfolding curve_result
returns c =
    let rate = c.rate_result.ensures in
    let twist = c.twist_result.ensures in
    let sum = added _ _ _ _ (2 ^ 70) (2 ^ 70) (lit≤ tt) (lit≤ tt) rate.size twist.size (ap (λ r. r.0) rate.value) (ap (λ r. r.0) twist.value) in
    record { value = sum.value; size = sum.size_is }
