use Rattle.std.proofs.Common.{[], ◌∷◌, pos, nat_abs, sym, arith}
use lib.Signed.{le_z}
use Rattle.std.proofs.lemmas.Int.{to_z-of_z}
use Rattle.std.proofs.lemmas.Bool.{and_parts}
use Rattle.terms.specs.Checks.{unless}
use Rattle.terms.specs.declared.refusal.Refusal.TheVariants.{BadAmount}
use Rattle.margin.proofs.SumLaws.{at_most}
use Rattle.account.specs.Account.{amount_fits, most_collateral}
use Rattle.account.proofs.Checked.{passed}
use Rattle.account.proofs.Lines.{in_size}
use Rattle.calls.proofs.Kept.{bounded}
use Rattle.calls.proofs.Steps.{none_refuses, judged_ok}
use Rattle.calls.proofs.accounts.Account.deposited.Goals as goal

pub overflow_add-self : goal.overflow_add-self
overflow_add-self g c =
    let fits = c.ranges.amount in
    let few = (bounded g.B.Bank.meaning c.args.self.now).collateral_bounded in
    let told = judged_ok (unless (amount_fits c.args.amount) BadAmount ∷ []) (nat_abs c.args.amount) c.in_ok-added.added (sym (simp to_z-of_z at c.in_ok-added.ensures)) in
    let amounts = and_parts (le_z (pos 0) c.args.amount) (le_z c.args.amount (pos most_collateral)) (passed _ BadAmount (none_refuses (unless (amount_fits c.args.amount) BadAmount ∷ []) told.0).0) in
    let small = in_size c.args.amount most_collateral (at_most (pos 0) c.args.amount amounts.0) (at_most c.args.amount (pos most_collateral) amounts.1) in
    let size = told.1 in
    omega arith
