use Rattle.std.proofs.Common.{◌≡◌, None, sym, ◌∙◌, rules}
use Rattle.layers.specs.Scenes.{cards_of, cells_of}
use Rattle.layers.proofs.Taking.{basket_taken_lem, basket_out}
use Rattle.layers.proofs.rows.BasketRows.basket_point.Goals as goal

pub returns : goal.returns
returns c =
    let s = c.args.self.now.fitted.scene in
    c.basket_in.ensures ∙ basket_taken_lem s.last (cards_of s) (cells_of s) c.args.b c.family_of-f.result c.in_ok-p.p c.family_of-f.ensures (sym c.family_point.ensures.value ∙ c.in_ok-p.was)

pub returns-in_err-p : goal.returns-in_err-p
returns-in_err-p c =
    let s = c.args.self.now.fitted.scene in
    let none : c.from_residual.result ≡ None = search rules in
    none ∙ basket_out s.last (cards_of s) (cells_of s) c.args.b c.family_of-f.result c.family_of-f.ensures (sym c.family_point.ensures.value ∙ c.in_err-p.was)
