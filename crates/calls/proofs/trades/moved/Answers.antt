use Rattle.std.proofs.Common.{ℤ, ◌+ℤ◌, ap, ◌∙◌, ap₂, arith}
use Rattle.margin.specs.declared.book.Position.{Position}
use Rattle.calls.proofs.Signs.{sum_value}
use Rattle.calls.proofs.trades.moved.Goals as goal

abbrev made : ℤ → ℤ → Position
made net cost = record { net = net; cost = cost }

pub returns : goal.returns
returns c =
    let p = c.args.position in
    ap₂ made
    (sum_value p.net c.args.trade.contracts (omega (arith, c.requires.net)) (omega (arith, c.args.trade.few)))
    (sum_value p.cost c.cost.result c.requires.cost c.cost.ensures.size ∙ ap (λ z. p.cost +ℤ z) c.cost.ensures.value)
