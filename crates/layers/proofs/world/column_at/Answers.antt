use Rattle.std.proofs.Common.{rules}
use Rattle.layers.proofs.Taking.{column_by}
use Rattle.layers.proofs.world.column_at.Goals as goal

pub returns : goal.returns
returns c = column_by c.args.first c.args.place c.checked_sub.result c.map.result _ c.checked_sub.ensures (λ x y p. search rules) c.map.ensures.cases
