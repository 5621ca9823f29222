use Rattle.calls.specs.Accounts.{state_of}
use Rattle.calls.proofs.Kept.{bounded}
use Rattle.calls.proofs.Sizes.{net_at, cost_at}
use Rattle.calls.proofs.accounts.Account.book_with.Goals as goal

pub invariant_of-result : goal.invariant_of-result
invariant_of-result g c =
    let s = state_of g.B.Bank.meaning c.args.self.now in
    let b = bounded g.B.Bank.meaning c.args.self.now in
    record { few_orders = c.requires.few; nets = λ l. rw c.deref.ensures.value (net_at s b l); costs = λ l. rw c.deref.ensures.value (cost_at s b l); lefts = c.requires.lefts; limits = c.requires.limits }
