use Rattle.std.proofs.Common.{arith}
use Rattle.std.proofs.lemmas.Int.{to_z-of_z}
use Rattle.margin.specs.Cells.{charge}
use Rattle.cells.proofs.charges.Future.charge.Goals as goal

pub returns-clause-value : goal.returns-clause-value
unfolding charge
returns-clause-value c = grind (arith, to_z-of_z)
