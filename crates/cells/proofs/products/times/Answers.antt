use Rattle.std.proofs.Common.{◌*◌, le_refl}
use Rattle.cells.proofs.Times as times
use Rattle.cells.proofs.products.times.Goals as goal

pub overflow_mul-result : goal.overflow_mul-result
overflow_mul-result g c = times.fits c.args.a c.args.b c.ranges.a c.ranges.b g.row.M g.row.N (g.row.M * g.row.N) c.requires.first c.requires.second (le_refl (g.row.M * g.row.N)) c.requires.fits

pub returns : goal.returns
returns g c =
    record {
      value = times.value c.args.a c.args.b c.ranges.a c.ranges.b g.row.M g.row.N (g.row.M * g.row.N) c.requires.first c.requires.second (le_refl (g.row.M * g.row.N)) c.requires.fits;
      size = times.size c.args.a c.args.b c.ranges.a c.ranges.b g.row.M g.row.N (g.row.M * g.row.N) c.requires.first c.requires.second (le_refl (g.row.M * g.row.N)) c.requires.fits;
    }
