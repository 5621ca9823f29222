use Rattle.std.proofs.Common.{◌≡◌, ap, ◌∙◌, w64, to_z, of_z}
use Rattle.std.proofs.lemmas.Int.{to_z-of_z}
use Rattle.banks.specs.Layers.{pair_made, scale_made}
use Rattle.ramp.specs.Ramps.{ramp_meaning, then}
use Rattle.ramp.proofs.pile.Goals as goal

-- each step's outcome goes into the next
pub returns : goal.returns
returns c =
    let inner : to_z w64 (of_z w64 c.args.inner) ≡ c.args.inner = to_z-of_z w64 c.args.inner c.ranges.inner in
    let outer : to_z w64 (of_z w64 c.args.outer) ≡ c.args.outer = to_z-of_z w64 c.args.outer c.ranges.outer in
    c.new-3.ensures.made
    ∙ ap (λ r. then r (scale_made (to_z w64 (of_z w64 c.args.outer)))) c.in_ok-pair.ensures.made
    ∙ ap (λ r. then r (λ scaled. then (pair_made (ramp_meaning c.args.a) scaled) (scale_made (to_z w64 (of_z w64 c.args.outer))))) c.in_ok-scaled.ensures.made
    ∙ ap (λ f. then (scale_made f (ramp_meaning c.args.b)) (λ scaled. then (pair_made (ramp_meaning c.args.a) scaled) (scale_made (to_z w64 (of_z w64 c.args.outer))))) inner
    ∙ ap (λ f. then (scale_made c.args.inner (ramp_meaning c.args.b)) (λ scaled. then (pair_made (ramp_meaning c.args.a) scaled) (scale_made f))) outer
