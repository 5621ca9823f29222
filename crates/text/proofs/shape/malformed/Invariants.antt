use Rattle.std.proofs.Common.{◌≡◌, drop}
use Rattle.text.specs.declared.shape.State.TheVariants.{Line}
use Rattle.text.specs.Shape.{stops}
use Rattle.text.proofs.shape.malformed.Given as goal

abbrev pub invariant-loop-place : goal.invariant-loop-place
invariant-loop-place l = stops l.state l.place (drop l.place l.text) ≡ stops Line 0 l.text
