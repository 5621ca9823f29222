use Rattle.std.proofs.Common.{arith}
use Rattle.std.proofs.lemmas.Int.{ints}
use Rattle.terms.proofs.Sizes.{future_sizes}
use Rattle.cells.proofs.charges.Future.rises.Goals as goal

pub overflow_sub-result : goal.overflow_sub-result
overflow_sub-result c = let s = future_sizes c.args.self.now.card.now c.args.self.now.fits in omega (arith, ints)

pub overflow_sub-result-2 : goal.overflow_sub-result-2
overflow_sub-result-2 c = let s = future_sizes c.args.self.now.card.now c.args.self.now.fits in omega (arith, ints)

pub returns : goal.returns
returns c =
    let s = future_sizes c.args.self.now.card.now c.args.self.now.fits in
    record { second = omega (arith, ints); third = omega (arith, ints); second_size = omega (arith, ints); third_size = omega (arith, ints) }
