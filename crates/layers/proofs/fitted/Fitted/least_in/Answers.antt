use Rattle.layers.specs.Scenes.{cards_of, cells_of}
use Rattle.layers.proofs.Windows.{least_found}
use Rattle.layers.proofs.fitted.Fitted.least_in.Goals as goal

pub returns : goal.returns
returns c =
    let s = c.args.self.now.scene in
    let held = c.basket_row.ensures in
    let found = c.least_between.ensures in
    record {
      value = least_found (cards_of s) (cells_of s) c.args.b c.basket_row.result c.args.start c.args.end c.least_between.result c.requires.ordered c.requires.within held.so_far found.value;
      size = found.size _ held.sized;
    }
