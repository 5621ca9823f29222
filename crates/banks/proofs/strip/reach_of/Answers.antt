use Rattle.std.proofs.Common.{arith}
use Rattle.banks.proofs.Stripped.{reach_fits}
use Rattle.banks.proofs.strip.reach_of.Goals as goal

pub overflow_mul-moved : goal.overflow_mul-moved
overflow_mul-moved c =
    rw (c.of-quote.ensures, c.size.ensures) (record { fits = omega (arith, reach_fits c.args.half c.args.card.now c.requires) })

pub overflow_add-quote : goal.overflow_add-quote
overflow_add-quote c =
    rw (c.of-quote.ensures, c.size.ensures) (record { fits = omega (arith, reach_fits c.args.half c.args.card.now c.requires) })
