use Rattle.std.proofs.Common.{rules}
use Rattle.layers.specs.Scenes.{HoldsBasket, cards_of, cells_of}
use Rattle.layers.proofs.Windows.{least_found}
use Rattle.layers.proofs.rows.BasketRows.least_in.Goals as goal

pub returns-in-Some : goal.returns-in-Some
returns-in-Some c =
    let s = c.args.self.now.fitted.scene in
    let row = c.in-Some.row.now in
    let held : HoldsBasket s c.args.b row = search rules in
    let found = c.least_between.ensures in
    record {
      value = least_found (cards_of s) (cells_of s) c.args.b row c.args.start c.args.end c.least_between.result c.requires.ordered c.requires.within held.so_far found.value;
      size = found.size _ held.sized;
    }
