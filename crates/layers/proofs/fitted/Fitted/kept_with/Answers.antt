use Rattle.std.proofs.Common.{ap}
use Rattle.margin.specs.HandedOut.{kept_with}
use Rattle.layers.proofs.fitted.Fitted.kept_with.Goals as goal

pub returns : goal.returns
unfolding kept_with
returns c = cc (ap (λ r. r.1) c.rate_result.ensures.value, ap (λ r. r.1) c.twist_result.ensures.value)
