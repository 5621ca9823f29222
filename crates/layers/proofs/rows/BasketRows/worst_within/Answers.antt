use Rattle.std.proofs.Common.{ℕ, ◌-◌, ap₂, ◌∙◌}
use lib.Signed.{le_z}
use Rattle.margin.specs.Layers.{basket_result, worst_within}
use Rattle.margin.specs.Sums.{least}
use Rattle.layers.specs.Scenes.{cards_of, cells_of}
use Rattle.layers.proofs.rows.BasketRows.worst_within.Goals as goal

pub returns : goal.returns
unfolding worst_within
returns c =
    let s = c.args.self.now.fitted.scene in
    let found = c.least_in.ensures in
    record {
      value = found.value ∙ ap₂ (λ (x y : ℕ). least le_z (basket_result (cards_of s) (cells_of s) c.args.b) x (y - x)) c.first_within.ensures c.last_within.ensures;
      size = found.size;
    }
