use Rattle.std.proofs.Common.{rules}
use Rattle.std.proofs.lemmas.Iterator.{YieldsList-from_slice}
use Rattle.std.proofs.lemmas.Iterator.Search.{position_from_yields_List}
use Rattle.std.proofs.lemmas.Int.{to_z-of_z}
use Rattle.margin.specs.Book.{names}
use Rattle.calls.proofs.Places.{place_is}
use Rattle.calls.proofs.orders.place_of.Goals as goal

pub returns : goal.returns
returns c =
    let fits = c.ranges.number in
    place_is c.args.number c.args.orders.now c.position.result (position_from_yields_List (λ o. names c.args.number o.number) _ _ c.position.result c.position.ensures.ran (YieldsList-from_slice _ c.iter.ensures.rest) (λ x b q k. search (rules, to_z-of_z)))
