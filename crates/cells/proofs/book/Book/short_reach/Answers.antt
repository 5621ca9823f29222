use Rattle.std.proofs.Common.{arith}
use Rattle.std.proofs.lemmas.Int.{to_z-of_z}
use Rattle.margin.specs.Cells.{short_reach}
use Rattle.cells.proofs.book.Book.short_reach.Goals as goal

pub returns : goal.returns
unfolding short_reach
returns c = grind (arith, to_z-of_z)
