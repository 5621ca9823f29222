use Rattle.std.proofs.Common.{Ok, sym, ap, arith}
use Rattle.account.specs.Account as account
use Rattle.account.specs.Account.{Required, step}
use Rattle.calls.specs.Accounts.{state_of}
use Rattle.calls.proofs.Requirements.{requirement_is, reached_is_safe}
use Rattle.calls.proofs.accounts.Account.margin.Goals as goal

pub returns : goal.returns
unfolding step
returns g c =
    let a = c.args.self.now in
    let s = state_of g.B.Bank.meaning a in
    let same = requirement_is s c.blocked-blocked.result c.len-count.result c.families.result (omega (arith, a.deck.some_families, a.deck.families.ok.0)) (omega (arith, a.deck.few_families, a.deck.families.ok.0)) (omega (arith, c.len-count.ensures, a.deck.families.ok.0)) c.blocked-blocked.ensures.parts c.families.ensures in
    record { answer = ap (λ (q : account.Requirement). (s, Ok (Required q))) (sym same); safe = reached_is_safe s _ same }
