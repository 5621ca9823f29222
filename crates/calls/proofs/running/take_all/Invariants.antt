use Rattle.std.proofs.Common.{◌≡◌, ◌+◌, ◌++◌, map, take, vec_items, vec_len, vec_capacity}
use Rattle.account.specs.Account.{run, answers}
use Rattle.calls.specs.Accounts.{state_of}
use Rattle.calls.specs.Answers.{told_of}
use Rattle.calls.proofs.running.take_all.Given as goal

abbrev pub invariant-loop-call : goal.invariant-loop-call
invariant-loop-call g l =
    (state_of g.B.Bank.meaning l.account ≡ run (state_of g.B.Bank.meaning l.initial.account) (take l.call-index l.calls))
    × (map told_of (vec_items l.told) ≡ map told_of (vec_items l.initial.told) ++ answers (state_of g.B.Bank.meaning l.initial.account) (take l.call-index l.calls))
    × (vec_len l.told ≡ vec_len l.initial.told + l.call-index)
    × (vec_capacity l.told ≡ vec_capacity l.initial.told)
