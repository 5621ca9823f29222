use Rattle.std.proofs.Common.{get_or, pos, refl, w64, SFits, to_z, of_z, rules}
use Rattle.std.proofs.lemmas.Int.{to_z-of_z}
use Rattle.terms.specs.declared.cards.Basket.{Basket}
use Rattle.margin.specs.Book.{names, netted_basket}
use Rattle.layers.proofs.Names.{looked_up}
use Rattle.layers.proofs.scene.Scene.is_netted_basket.Goals as goal

pub returns : goal.returns
unfolding netted_basket names
returns c =
    let items = c.args.self.now.baskets.now in
    let none : Basket = record { family = pos 0; rule = pos 0 } in
    let fits : SFits w64 (get_or items c.args.b none).rule = search rules in
    simp to_z-of_z at (looked_up items c.args.b none (λ (x : Basket). names (to_z w64 (of_z w64 x.rule)) 1) c.get.result _ _ c.is_some_and.result refl c.get.ensures.lookup.3 (λ x p. search rules) c.is_some_and.ensures)
