use Rattle.std.proofs.Common.{◌≡◌, ℕ, ℤ, sym, ap, ◌∙◌, SFits, rules}
use mir.Syntax.{w128}
use Rattle.std.proofs.lemmas.Int.{to_z-of_z}
use Rattle.margin.specs.HandedOut.{take_if_below0, family_point}
use Rattle.layers.specs.Scenes.{cards_of, cells_of}
use Rattle.layers.proofs.Taking.{point_on_grid}
use Rattle.layers.proofs.rows.BasketRows.family_point.Goals as goal

pub returns : goal.returns
unfolding family_point
returns c =
    let s = c.args.self.now.fitted.scene in
    let fits : SFits w128 c.family_worst-result.result.0 = search rules in
    let taken = simp to_z-of_z at c.if_below_0.ensures in
    let is : c.if_below_0.result ≡ family_point s.last (cards_of s) (cells_of s) c.args.f = taken ∙ ap (λ (r : ℤ × ℕ). take_if_below0 r.0 r.1) c.family_worst-result.ensures.value in
    record { value = is; on_grid = λ p e. point_on_grid s.last (cards_of s) (cells_of s) c.args.f p (sym is ∙ e) }
