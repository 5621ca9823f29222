use Rattle.std.proofs.Common.{refl, arith}
use Rattle.std.proofs.lemmas.Int.{ints, to_z-of_z}
use Rattle.layers.proofs.Names.{loss_by}
use Rattle.layers.proofs.amounts.loss_of.Goals as goal

pub returns-then-res-lt0-clause-value : goal.returns-then-res-lt0-clause-value
returns-then-res-lt0-clause-value c = loss_by c.args.res _ (λ h. simp (to_z-of_z, c.ranges.res) at c.unsigned_abs.ensures.value) (λ h. absurd (grind (arith, ints)))

pub returns-else-res-lt0-clause-value : goal.returns-else-res-lt0-clause-value
returns-else-res-lt0-clause-value c = loss_by c.args.res 0 (λ h. absurd (grind (arith, ints))) (λ h. refl)
