use Rattle.std.proofs.Common.{w64}
use Rattle.std.proofs.lemmas.Int.{to_z-of_z}
use Rattle.calls.specs.Accounts.{state_of}
use Rattle.calls.proofs.Trading.{place_in, cancel_meets}
use Rattle.calls.proofs.accounts.Account.cancellable.Goals as goal

pub returns : goal.returns
returns g c =
    let s = state_of g.B.Bank.meaning c.args.self.now in
    rw c.ok_or.ensures.value (cancel_meets s c.args.number c.place_of.result (place_in c.args.number _ s.orders _ c.place_of.result (to_z-of_z w64 c.args.number c.ranges.number) c.deref.ensures.value c.place_of.ensures))
