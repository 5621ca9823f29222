use Rattle.std.proofs.Common.{arith}
use Rattle.std.proofs.lemmas.Int.{to_z-of_z}
use Rattle.margin.specs.Cells.{long_reach}
use Rattle.cells.proofs.book.Book.long_reach.Goals as goal

pub returns : goal.returns
unfolding long_reach
returns c = grind (arith, to_z-of_z)
