use Rattle.std.proofs.Common.{◌≡◌, None, sym, ◌∙◌, rules}
use Rattle.layers.specs.Scenes.{cards_of, cells_of}
use Rattle.layers.proofs.Taking.{month_taken_lem, month_out}
use Rattle.layers.proofs.rows.BasketRows.month_kept.Goals as goal

pub returns : goal.returns
returns c =
    let s = c.args.self.now.fitted.scene in
    c.month_in.ensures ∙ month_taken_lem s.last (cards_of s) (cells_of s) c.args.m c.basket_of-b.result c.in_ok-p.p c.basket_of-b.ensures (sym c.basket_point.ensures ∙ c.in_ok-p.was)

pub returns-in_err-p : goal.returns-in_err-p
returns-in_err-p c =
    let s = c.args.self.now.fitted.scene in
    let none : c.from_residual.result ≡ None = search rules in
    none ∙ month_out s.last (cards_of s) (cells_of s) c.args.m c.basket_of-b.result c.basket_of-b.ensures (sym c.basket_point.ensures ∙ c.in_err-p.was)
