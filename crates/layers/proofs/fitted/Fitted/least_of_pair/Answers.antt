use Rattle.std.proofs.Common.{◌^◌, pos, zero-le, SFits, rules}
use mir.Syntax.{w128}
use Rattle.std.proofs.lemmas.Int.{to_z-of_z}
use Rattle.layers.proofs.Picks.{three_size, three_place}
use Rattle.layers.proofs.fitted.Fitted.least_of_pair.Goals as goal

pub returns : goal.returns
returns c =
    let fits : SFits w128 c.cell.result = search rules in
    let fits-2 : SFits w128 c.cell-2.result = search rules in
    let found = simp to_z-of_z at c.least_with_0.ensures in
    record {
      value = cc found;
      size = rw found (three_size (pos 0) c.cell.result c.cell-2.result (2 ^ 70) zero-le c.cell.ensures.size c.cell-2.ensures.size);
      place = rw found (three_place (pos 0) c.cell.result c.cell-2.result);
    }
