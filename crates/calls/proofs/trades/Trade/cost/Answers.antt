use Rattle.std.proofs.Common.{◌*ℤ◌, ap, ◌∙◌, lit<, lit≤, w64, SFits, rules}
use Rattle.std.proofs.lemmas.Int.{to_z-of_z}
use Rattle.cells.proofs.Times as times
use Rattle.calls.proofs.trades.Trade.cost.Goals as goal

pub overflow_mul-result : goal.overflow_mul-result
overflow_mul-result c =
    let price : SFits w64 c.args.self.price = search rules in
    times.fits c.in_grains.result c.args.self.price (record { sfits = c.in_grains.type_inv }) price 800000000 10000000 8000000000000000 c.in_grains.ensures.size c.args.self.fair (lit≤ tt) (lit< tt)

pub returns : goal.returns
returns c =
    let fits : SFits w64 c.args.self.contracts = search rules in
    let price : SFits w64 c.args.self.price = search rules in
    let value = times.value c.in_grains.result c.args.self.price (record { sfits = c.in_grains.type_inv }) price 800000000 10000000 8000000000000000 c.in_grains.ensures.size c.args.self.fair (lit≤ tt) (lit< tt) in
    record {
      value = value ∙ ap (λ z. z *ℤ c.args.self.price) (simp to_z-of_z at c.in_grains.ensures.value);
      size = times.size c.in_grains.result c.args.self.price (record { sfits = c.in_grains.type_inv }) price 800000000 10000000 8000000000000000 c.in_grains.ensures.size c.args.self.fair (lit≤ tt) (lit< tt);
    }
