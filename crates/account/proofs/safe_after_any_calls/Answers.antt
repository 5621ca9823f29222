use Rattle.account.proofs.Safe.{safe_after_any_calls}
use Rattle.account.proofs.safe_after_any_calls.Goals as goal

pub returns : goal.returns
returns c = safe_after_any_calls
