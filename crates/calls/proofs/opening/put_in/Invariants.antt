use Rattle.std.proofs.Common.{◌≡◌, take, vec_items}
use Rattle.account.specs.Begin.{put_in}
use Rattle.calls.proofs.opening.put_in.Given as goal

abbrev pub invariant-loop-holding : goal.invariant-loop-holding
invariant-loop-holding l = vec_items l.positions ≡ put_in (take l.holding-index l.held) (vec_items l.initial.positions)
