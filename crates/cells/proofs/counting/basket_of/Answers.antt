use Rattle.std.proofs.Common.{get_or, pos, refl, w64, SFits, to_z, of_z, ◌≡◌, rules}
use Rattle.std.proofs.lemmas.Int.{to_z-of_z}
use Rattle.terms.specs.declared.cards.Month.{Month}
use Rattle.margin.specs.Book.{named}
use Rattle.layers.proofs.Names.{looked_up}
use Rattle.cells.proofs.counting.basket_of.Goals as goal

pub returns : goal.returns
unfolding named
returns c =
    let items = c.deref.result.now in
    let none : Month = record { basket = pos 0 } in
    let fits : SFits w64 (get_or items c.args.m none).basket = search rules in
    let read : c.map_or.result ≡ named (get_or items c.args.m none).basket = simp to_z-of_z at (looked_up items c.args.m none (λ (x : Month). named (to_z w64 (of_z w64 x.basket))) c.get.result _ _ c.map_or.result refl c.get.ensures.lookup.3 (λ x p. search rules) c.map_or.ensures) in
    search (rules, read)
