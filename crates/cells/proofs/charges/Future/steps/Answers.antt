use Rattle.std.proofs.Common.{arith, rules}
use Rattle.std.proofs.lemmas.Int.{ints, to_z-of_z}
use Rattle.terms.proofs.Sizes.{future_sizes}
use Rattle.cells.proofs.charges.Future.steps.Goals as goal

pub above-requires : goal.above-requires
above-requires c = let s = future_sizes c.args.self.now.card.now c.args.self.now.fits in search rules

pub above-requires-2 : goal.above-requires-2
above-requires-2 c = let s = future_sizes c.args.self.now.card.now c.args.self.now.fits in search rules

pub overflow_add-result : goal.overflow_add-result
overflow_add-result c = omega (arith, ints, c.times-second.ensures.size, c.times-third.ensures.size)

pub returns-clause-value : goal.returns-clause-value
returns-clause-value c = grind (arith, to_z-of_z)
