use Rattle.std.proofs.Common.{◌+◌, arith}
use Rattle.text.proofs.Digits.{under_all, under_most}
use Rattle.text.proofs.number.digits_on.Goals as goal

pub returns-then-not-is_ascii_digit-clause-small : goal.returns-then-not-is_ascii_digit-clause-small
returns-then-not-is_ascii_digit-clause-small c = (under_all (c.loop-index.index + 1) _ (omega arith) c.loop-index.invariant.1, omega arith)

pub overflow_mul-value : goal.overflow_mul-value
overflow_mul-value c = omega (arith, under_most (c.loop-index.index + 1) c.loop-index.value (omega arith) c.loop-index.invariant.1)

pub overflow_add-value : goal.overflow_add-value
overflow_add-value c = omega (arith, under_most (c.loop-index.index + 1) c.loop-index.value (omega arith) c.loop-index.invariant.1)

pub returns-clause-small : goal.returns-clause-small
returns-clause-small c = (under_all (c.loop-index.index + 1) _ (omega arith) c.loop-index.invariant.1, omega arith)
