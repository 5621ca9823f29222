use Rattle.margin.proofs.FiguresHold.{figures}
use Rattle.margin.proofs.figures_hold.Goals as goal

pub returns : goal.returns
returns c = figures
