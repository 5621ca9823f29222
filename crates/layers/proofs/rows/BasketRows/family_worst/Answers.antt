use Rattle.layers.specs.Scenes.{cards_of, cells_of}
use Rattle.layers.proofs.Windows.{row_found}
use Rattle.layers.proofs.rows.BasketRows.family_worst.Goals as goal

pub returns : goal.returns
returns c =
    let s = c.args.self.now.fitted.scene in
    let held = c.family_row-row.ensures in
    record {
      value = row_found s.last (cards_of s) (cells_of s) c.args.f _ c.least_between.result held.so_far c.least_between.ensures.value;
      size = c.least_between.ensures.size _ held.sized;
    }
