use Rattle.std.proofs.Common.{rules}
use Rattle.margin.specs.Cells.{charges_at}
use Rattle.cells.proofs.desk.Desk.charges_at.Goals as goal

pub returns-clause-value : goal.returns-clause-value
unfolding charges_at
returns-clause-value g c = search rules
