use Rattle.std.proofs.Common.{◌+◌, ◌^◌, arith, rules}
use Rattle.margin.specs.Layers.{family_result}
use Rattle.layers.specs.Scenes.{cards_of, cells_of}
use Rattle.layers.proofs.Filling.{row_made}
use Rattle.layers.proofs.rows.BasketRows.family_row.Goals as goal

pub returns : goal.returns
returns c =
    let s = c.args.self.now.fitted.scene in
    row_made _ _ (family_result s.last (cards_of s) (cells_of s) c.args.f) (2 ^ 78) 17 (s.last + 1) (λ i y q k. ((λ h. search rules, search rules), search rules)) (omega (arith, c.args.self.now.fitted.fits.few_points)) c.from_fn.result c.from_fn.ensures.items
