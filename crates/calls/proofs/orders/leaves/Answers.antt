use Rattle.std.proofs.Common.{◌∙◌, rules}
use Rattle.account.specs.Orders.{left_after}
use Rattle.calls.proofs.Signs.{minus_fits, minus_value, leaves_is}
use Rattle.calls.proofs.orders.leaves.Goals as goal

pub returns-in-Cancelled : goal.returns-in-Cancelled
unfolding left_after
returns-in-Cancelled c = search rules

pub returns-in-Filled : goal.returns-in-Filled
returns-in-Filled c = minus_value c.args.left c.with_sign_of.result c.requires.small c.with_sign_of.ensures.sized ∙ leaves_is c.args.event c.args.left c.in-Filled.contracts c.with_sign_of.result c.in-Filled.is c.requires.small c.requires.event c.with_sign_of.ensures.value

pub overflow_sub-result : goal.overflow_sub-result
overflow_sub-result c = minus_fits c.args.left c.with_sign_of.result c.requires.small c.with_sign_of.ensures.sized
