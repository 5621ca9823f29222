use Rattle.std.proofs.Common.{length}
use Rattle.compare.proofs.run.Given as goal

-- each case takes bytes off the front
abbrev pub decreases-loop-cases : goal.decreases-loop-cases
decreases-loop-cases l = length l.cases.rest.now
