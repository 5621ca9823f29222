use Rattle.std.proofs.Common.{◌*◌, ◌^◌, ◌<◌, ◌≤◌, pos, nat_abs, mul-le-mul_right, arith, rules}
use mir.Syntax.{w128}
use Rattle.banks.specs.Soundness.{size_product}
use Rattle.banks.proofs.Products.{product_is}
use Rattle.banks.proofs.strip.steps.Goals as goal

pub returns-clause-bounded : goal.returns-clause-bounded
returns-clause-bounded c =
    let few : nat_abs c.args.count * c.args.step ≤ 17 * c.args.step = mul-le-mul_right c.args.step c.requires in
    let short : c.args.step < 2 ^ 64 = search rules in
    let small : nat_abs c.args.count * nat_abs c.from.result < 2 ^ 127 = rw c.from.ensures (omega (arith, few)) in
    rw (product_is w128 c.args.count c.from.result c.ranges.count (search rules) small, c.from.ensures, size_product c.args.count (pos c.args.step)) few
