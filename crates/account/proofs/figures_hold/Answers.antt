use Rattle.account.proofs.FiguresHold.{figures}
use Rattle.account.proofs.figures_hold.Goals as goal

pub returns : goal.returns
returns c = figures
