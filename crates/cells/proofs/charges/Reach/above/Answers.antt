use Rattle.std.proofs.Common.{arith}
use Rattle.std.proofs.lemmas.Int.{ints, clamps}
use Rattle.margin.specs.Cells.{above}
use Rattle.cells.proofs.charges.Reach.above.Goals as goal

pub returns-clause-value : goal.returns-clause-value
unfolding above
returns-clause-value c = omega (arith, ints, clamps)
