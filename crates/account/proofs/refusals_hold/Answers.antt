use Rattle.account.proofs.FiguresHold.{refused_calls}
use Rattle.account.proofs.refusals_hold.Goals as goal

pub returns : goal.returns
returns c = refused_calls
