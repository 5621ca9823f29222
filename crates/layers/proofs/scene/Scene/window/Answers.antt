use Rattle.std.proofs.Common.{get_or, pos, refl, w64, SFits, to_z, of_z, rules}
use Rattle.std.proofs.lemmas.Int.{to_z-of_z}
use Rattle.terms.specs.declared.cards.Family.{Family}
use Rattle.margin.specs.Book.{named, window_of}
use Rattle.layers.proofs.Names.{looked_up}
use Rattle.layers.proofs.scene.Scene.window.Goals as goal

pub returns : goal.returns
unfolding window_of named
returns c =
    let items = c.args.self.now.families.now in
    let none : Family = record { rule = pos 0; window = pos 0 } in
    let fits : SFits w64 (get_or items c.args.f none).window = search rules in
    simp to_z-of_z at (looked_up items c.args.f none (λ (x : Family). named (to_z w64 (of_z w64 x.window))) c.get.result _ _ c.map_or.result refl c.get.ensures.lookup.3 (λ x p. search rules) c.map_or.ensures)
