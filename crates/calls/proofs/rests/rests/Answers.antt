use Rattle.std.proofs.Common.{arith, rules}
use Rattle.cells.specs.Empty.{no_order}
use Rattle.calls.specs.Accounts.{rest_of, none_open}
use Rattle.calls.proofs.Copies.{copied}
use Rattle.calls.proofs.rests.rests.Goals as goal

pub returns-clause-value : goal.returns-clause-value
returns-clause-value c = copied rest_of c.from_fn.result c.args.orders.now none_open no_order (omega (arith, c.from_fn.ensures.items.long, c.requires)) (λ i less. let called = c.from_fn.ensures.items.at i no_order (omega (arith, c.requires)) in search (rules, called.2))
