use Rattle.std.proofs.Common.{◌<◌, ◌≤◌, arith, rules}
use Rattle.margin.specs.Cells.{position_result}
use Rattle.cells.proofs.quote.Quote.position_result.Goals as goal

pub returns-then-self-lt-VOLATILITIES-clause-value : goal.returns-then-self-lt-VOLATILITIES-clause-value
unfolding position_result
returns-then-self-lt-VOLATILITIES-clause-value c =
    let column = c.args.self.column in
    let priced : column ≤ 2 = omega arith in
    search rules

pub returns-else-self-lt-VOLATILITIES-clause-value : goal.returns-else-self-lt-VOLATILITIES-clause-value
unfolding position_result
returns-else-self-lt-VOLATILITIES-clause-value c =
    let column = c.args.self.column in
    let changed : 2 < column = omega arith in
    search rules
