use Rattle.std.proofs.Common.{get_or, pos, refl, w64, SFits, to_z, of_z, ◌≡◌, rules}
use Rattle.std.proofs.lemmas.Int.{to_z-of_z}
use Rattle.terms.specs.declared.cards.Line.{Line}
use Rattle.margin.specs.Book.{named}
use Rattle.layers.proofs.Names.{looked_up}
use Rattle.cells.proofs.counting.month_of.Goals as goal

pub returns : goal.returns
unfolding named
returns c =
    let items = c.deref.result.now in
    let none : Line = record { month = pos 0; price = pos 0; spot = pos 0; change = pos 0; rates = record { r1 = pos 0; r2 = pos 0; r3 = pos 0 }; limits = record { a = pos 0; b = pos 0 } } in
    let fits : SFits w64 (get_or items c.args.line none).month = search rules in
    let read : c.map_or.result ≡ named (get_or items c.args.line none).month = simp to_z-of_z at (looked_up items c.args.line none (λ (x : Line). named (to_z w64 (of_z w64 x.month))) c.get.result _ _ c.map_or.result refl c.get.ensures.lookup.3 (λ x p. search rules) c.map_or.ensures) in
    search (rules, read)
