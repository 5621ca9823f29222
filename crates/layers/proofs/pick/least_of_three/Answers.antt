use Rattle.std.proofs.Common.{◌≡◌, ℕ, ℤ, Option, unwrap_or, ap, ◌∙◌, SFits, rules}
use mir.Syntax.{w128}
use Rattle.std.proofs.lemmas.Int.{to_z-of_z}
use Rattle.margin.specs.Sums.{least3}
use Rattle.layers.proofs.Picks.{three, three_size, three_place}
use Rattle.layers.proofs.pick.least_of_three.Goals as goal

pub returns : goal.returns
returns c =
    let a = c.args.a in
    let b = c.args.b in
    let d = c.args.c in
    let fa : SFits w128 a = search rules in
    let fb : SFits w128 b = search rules in
    let fc : SFits w128 d = search rules in
    let found = simp to_z-of_z at c.least.ensures.value in
    let taken = simp to_z-of_z at c.unwrap_or.ensures in
    let is : c.unwrap_or.result ≡ least3 a b d = taken ∙ ap (λ (o : Option (ℤ × ℕ)). unwrap_or o (a, 0)) (found ∙ three a b d) in
    record { value = is; size = λ n ha hb hc. rw is (three_size a b d n ha hb hc); place = rw is (three_place a b d) }
