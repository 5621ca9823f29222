use Rattle.std.proofs.Common.{ℕ, ◌+◌, leb, vec_items, ap, ◌∙◌, arith, ap₂, nat_abs, w64, SFits, rules}
use Rattle.std.proofs.lemmas.List.{get_or_default}
use Rattle.std.proofs.lemmas.Int.{to_z-of_z}
use Rattle.calls.proofs.Kept.{bounded}
use Rattle.calls.proofs.accounts.Account.count_fits.Goals as goal

pub index-requires : goal.index-requires
index-requires g c =
    let b = bounded g.B.Bank.meaning c.args.self.now in
    omega (arith, c.requires, b.a_position_a_line, b.a_count_a_line, c.args.self.now.accepted.ok.0)

pub overflow_add-result : goal.overflow_add-result
overflow_add-result g c =
    let b = bounded g.B.Bank.meaning c.args.self.now in
    let few = (b.each_line c.args.order.line (omega (arith, c.requires, b.a_position_a_line))).few_accepted in
    let read = c.index.ensures ∙ get_or_default (vec_items c.args.self.now.accepted) c.args.order.line _ 0 (omega (arith, c.requires, b.a_position_a_line, b.a_count_a_line)) in
    omega arith

pub returns : goal.returns
returns g c =
    let b = bounded g.B.Bank.meaning c.args.self.now in
    let fits : SFits w64 c.args.order.left = search rules in
    let read = c.index.ensures ∙ get_or_default (vec_items c.args.self.now.accepted) c.args.order.line _ 0 (omega (arith, c.requires, b.a_position_a_line, b.a_count_a_line)) in
    ap₂ (λ (n m : ℕ). leb (n + m) 20000) read (c.unsigned_abs.ensures.value ∙ ap nat_abs (to_z-of_z w64 c.args.order.left fits))
