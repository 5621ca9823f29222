use Rattle.account.proofs.Checked.{call_laws}
use Rattle.account.proofs.calls_are_judged.Goals as goal

pub returns : goal.returns
returns c = call_laws
