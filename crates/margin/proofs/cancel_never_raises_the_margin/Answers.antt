use Rattle.margin.proofs.Easier.{cancel_never_raises_the_margin}
use Rattle.margin.proofs.cancel_never_raises_the_margin.Goals as goal

pub returns : goal.returns
returns c = cancel_never_raises_the_margin
