use Rattle.std.proofs.Common.{sym, ap, ◌∙◌, w64}
use Rattle.std.proofs.lemmas.Int.{to_z-of_z}
use Rattle.std.proofs.lemmas.Result.{err_from_is_err_and}
use Rattle.deck.specs.Decks.{given_cards}
use Rattle.account.specs.Begin.{begin}
use Rattle.calls.specs.Accounts.{state_of}
use Rattle.calls.proofs.SafeRuns.{judged_ok, run_is_safe}
use Rattle.calls.proofs.running.run.Goals as goal

pub returns-in_err-told_by-clause-told : goal.returns-in_err-told_by-clause-told
returns-in_err-told_by-clause-told g c =
    let fits = c.ranges.collateral in
    let starts = ap (begin (g.B.Bank.meaning c.args.bank) (given_cards c.args.given.now) c.args.held.now) (sym (to_z-of_z w64 c.args.collateral fits)) ∙ c.in_ok-account.ensures in
    let p = err_from_is_err_and c.from_residual-in_err-told_by.result c.from_residual-in_err-told_by.ensures.1 in
    rw (p.1, p.2) (judged_ok (g.B.Bank.meaning c.args.bank) (given_cards c.args.given.now) c.args.held.now c.args.collateral _ starts)

pub returns-clause-safe : goal.returns-clause-safe
returns-clause-safe g c =
    let fits = c.ranges.collateral in
    let s = state_of g.B.Bank.meaning c.in_ok-account.account in
    let starts = ap (begin (g.B.Bank.meaning c.args.bank) (given_cards c.args.given.now) c.args.held.now) (sym (to_z-of_z w64 c.args.collateral fits)) ∙ c.in_ok-account.ensures in
    λ t e. run_is_safe (g.B.Bank.meaning c.args.bank) (given_cards c.args.given.now) c.args.held.now c.args.collateral s t starts e c.args.calls.now _ c.in_ok-told_by.ensures
