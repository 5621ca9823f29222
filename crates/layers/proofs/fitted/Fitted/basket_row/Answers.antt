use Rattle.std.proofs.Common.{◌^◌, arith, rules}
use Rattle.margin.specs.Layers.{basket_result}
use Rattle.layers.specs.Scenes.{cards_of, cells_of}
use Rattle.layers.proofs.Filling.{row_made}
use Rattle.layers.proofs.fitted.Fitted.basket_row.Goals as goal

pub returns : goal.returns
returns c =
    let s = c.args.self.now.scene in
    row_made _ _ (basket_result (cards_of s) (cells_of s) c.args.b) (2 ^ 76) 17 17 (λ i y q k. ((λ h. search rules, search rules), search rules)) (omega arith) c.from_fn.result c.from_fn.ensures.items
