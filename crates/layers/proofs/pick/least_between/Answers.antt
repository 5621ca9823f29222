use Rattle.std.proofs.Common.{◌-◌, pos, SFits, rules}
use lib.Signed.{le_z}
use mir.Syntax.{w128}
use Rattle.std.proofs.lemmas.Int.{to_z-of_z}
use Rattle.layers.proofs.Picks.{found_between, size_between}
use Rattle.layers.proofs.pick.least_between.Goals as goal

pub returns : goal.returns
returns c =
    let xs = c.args.results.now in
    let r = c.unwrap_or-result.result in
    let fits : SFits w128 r.0 = search rules in
    let found = found_between le_z (pos 0) xs c.args.base c.args.start c.args.end c.least.result (pos 0, 0) r.0 r.1 c.requires.ordered c.requires.within c.least.ensures.value c.unwrap_or-result.ensures in
    simp to_z-of_z (record { value = found; size = size_between xs c.args.base c.args.start (c.args.end - c.args.start) _ found })
