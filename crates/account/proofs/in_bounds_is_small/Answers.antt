use Rattle.account.proofs.Bounded.{in_bounds_is_small}
use Rattle.account.proofs.in_bounds_is_small.Goals as goal

pub returns : goal.returns
returns c = in_bounds_is_small
