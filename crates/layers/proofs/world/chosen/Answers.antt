use Rattle.std.proofs.Common.{◌≡◌, None, sym, ◌∙◌, arith, rules}
use native.Mathlib.Decide.{dec_lt}
use Rattle.margin.proofs.Reached.{up_to_is}
use Rattle.layers.proofs.Filling.{choices_made, nothing_beyond}
use Rattle.layers.proofs.world.chosen.Goals as goal

pub returns : goal.returns
returns g c = λ row says. choices_made _ _ c.args.count _ row
    (λ i y q k. (
      elim (dec_lt i c.args.count) [
        | yes less ↦ says i y (search rules) ∙ sym (up_to_is c.args.count row i less)
        | no more ↦ (let none : y ≡ None = search rules in none ∙ sym (nothing_beyond c.args.count row i (omega arith)))
      ],
      search rules,
    )) c.requires.room c.from_fn.result c.from_fn.ensures.items
