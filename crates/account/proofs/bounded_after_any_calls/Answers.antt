use Rattle.account.proofs.Bounded.{bounded_after_any_calls}
use Rattle.account.proofs.bounded_after_any_calls.Goals as goal

pub returns : goal.returns
returns c = bounded_after_any_calls
