use Rattle.calls.proofs.Signs.{meet_is}
use Rattle.calls.proofs.orders.meet.Goals as goal

pub returns : goal.returns
returns c = meet_is c.args.order.now c.args.event c.leaves-order.result c.unsigned_abs.result c.state_after-order.result c.requires.small (record { sfits = c.leaves-order.type_inv }) c.leaves-order.ensures c.unsigned_abs.ensures.value c.state_after-order.ensures
