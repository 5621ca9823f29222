use Rattle.std.proofs.Common.{ℕ, ◌-◌, ◌≤◌, nat_abs, Ok, sym, ap, ◌∙◌, arith}
use Rattle.std.proofs.lemmas.Int.{to_z-of_z}
use Rattle.account.specs.declared.call.Call.TheVariants.{Withdraw}
use Rattle.account.specs.Account.{checks, with_collateral, Collateral, most_collateral}
use Rattle.account.proofs.Bounded.{cash_bounded}
use Rattle.calls.specs.Accounts.{state_of}
use Rattle.calls.proofs.Steps.{judged_err, judged_ok, accepted, told_refused}
use Rattle.calls.proofs.Kept.{bounded, kept}
use Rattle.calls.proofs.accounts.Account.withdraw.Goals as goal

pub returns-in_err-taken : goal.returns-in_err-taken
returns-in_err-taken g c =
    let fits = c.ranges.amount in
    told_refused (state_of g.B.Bank.meaning c.args.self.now) (Withdraw c.args.amount) (λ n. Collateral n) c.from_residual.result c.in_err-taken.field-0.0 c.from_residual.ensures.1 (judged_err (checks (state_of g.B.Bank.meaning c.args.self.now) (Withdraw c.args.amount)) (nat_abs c.args.amount) _ (sym (simp to_z-of_z at c.in_err-taken.ensures)))

pub invariant_of-self : goal.invariant_of-self
invariant_of-self g c =
    let s = state_of g.B.Bank.meaning c.args.self.now in
    let b = bounded g.B.Bank.meaning c.args.self.now in
    let few : s.collateral - c.in_ok-taken.taken ≤ most_collateral = omega (arith, b.collateral_bounded) in
    record { room = c.args.self.now.room; bounds = kept _ (cash_bounded s b (s.collateral - c.in_ok-taken.taken) few) }

pub returns : goal.returns
returns g c =
    let fits = c.ranges.amount in
    let s = state_of g.B.Bank.meaning c.args.self.now in
    let told = judged_ok (checks s (Withdraw c.args.amount)) (nat_abs c.args.amount) c.in_ok-taken.taken (sym (simp to_z-of_z at c.in_ok-taken.ensures)) in
    ap (λ (n : ℕ). (with_collateral s (s.collateral - n), Ok (Collateral (s.collateral - n)))) told.1 ∙ sym (accepted s (Withdraw c.args.amount) told.0)
