use Rattle.std.proofs.Common.{ℕ, ◌+◌, ◌≤◌, nat_abs, Ok, sym, ap, ◌∙◌, subst}
use Rattle.std.proofs.lemmas.Int.{to_z-of_z}
use Rattle.std.proofs.lemmas.Bool.{leb-true}
use Rattle.terms.specs.declared.refusal.Refusal.TheVariants.{CollateralTooLarge}
use Rattle.account.specs.declared.call.Call.TheVariants.{Deposit}
use Rattle.account.specs.Account.{checks, with_collateral, Collateral, most_collateral}
use Rattle.account.proofs.Bounded.{cash_bounded}
use Rattle.account.proofs.Checked.{passed}
use Rattle.calls.specs.Accounts.{state_of}
use Rattle.calls.proofs.Steps.{none_refuses, judged_err, judged_ok, accepted, told_refused}
use Rattle.calls.proofs.Kept.{bounded, kept}
use Rattle.calls.proofs.accounts.Account.deposit.Goals as goal

pub returns-in_err-added : goal.returns-in_err-added
returns-in_err-added g c =
    let fits = c.ranges.amount in
    told_refused (state_of g.B.Bank.meaning c.args.self.now) (Deposit c.args.amount) (λ n. Collateral n) c.from_residual.result c.in_err-added.field-0.0 c.from_residual.ensures.1 (judged_err (checks (state_of g.B.Bank.meaning c.args.self.now) (Deposit c.args.amount)) (nat_abs c.args.amount) _ (sym (simp to_z-of_z at c.in_err-added.ensures)))

pub invariant_of-self : goal.invariant_of-self
invariant_of-self g c =
    let fits = c.ranges.amount in
    let s = state_of g.B.Bank.meaning c.args.self.now in
    let told = judged_ok (checks s (Deposit c.args.amount)) (nat_abs c.args.amount) c.in_ok-added.added (sym (simp to_z-of_z at c.in_ok-added.ensures)) in
    let checks-pass = none_refuses (checks s (Deposit c.args.amount)) told.0 in
    let few = subst (λ (n : ℕ). s.collateral + n ≤ most_collateral) (sym told.1) (leb-true _ _ (passed _ CollateralTooLarge checks-pass.1.0)) in
    record { room = c.args.self.now.room; bounds = kept _ (cash_bounded s (bounded g.B.Bank.meaning c.args.self.now) (s.collateral + c.in_ok-added.added) few) }

pub returns : goal.returns
returns g c =
    let fits = c.ranges.amount in
    let s = state_of g.B.Bank.meaning c.args.self.now in
    let told = judged_ok (checks s (Deposit c.args.amount)) (nat_abs c.args.amount) c.in_ok-added.added (sym (simp to_z-of_z at c.in_ok-added.ensures)) in
    ap (λ (n : ℕ). (with_collateral s (s.collateral + n), Ok (Collateral (s.collateral + n)))) told.1 ∙ sym (accepted s (Deposit c.args.amount) told.0)
