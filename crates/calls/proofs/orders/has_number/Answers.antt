use Rattle.std.proofs.Common.{◌∙◌}
use Rattle.std.proofs.lemmas.Int.{to_z-of_z}
use Rattle.calls.proofs.Places.{names_is}
use Rattle.calls.proofs.orders.has_number.Goals as goal

pub returns : goal.returns
returns c =
    let fits = c.ranges.number in
    c.eq.ensures ∙ names_is c.args.number c.args.own _ c.try_from.result fits (simp to_z-of_z at c.try_from.ensures)
