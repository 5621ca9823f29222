use Rattle.std.proofs.Common.{◌≡◌, ℕ, ◌+◌, ◌/◌, ap, ◌∙◌, arith}
use Rattle.margin.specs.Layers.{margin_of}
use Rattle.layers.proofs.amounts.Losses.margin.Goals as goal

pub returns : goal.returns
unfolding margin_of
returns c =
    let up : c.div_ceil.result ≡ (c.grains.result + 79999) / 80000 = (let by = simp c.from.ensures at c.div_ceil.ensures in omega (arith, by)) in
    up ∙ ap (λ (n : ℕ). (n + 79999) / 80000) c.grains.ensures.value
