use Rattle.std.proofs.Common.{sym, ◌∙◌, w64}
use Rattle.std.proofs.lemmas.Int.{to_z-of_z}
use Rattle.calls.proofs.Signs.{signed_buy, signed_sell, neg_value, neg_size}
use Rattle.calls.proofs.orders.with_sign_of.Goals as goal

pub returns-then-left-ge0 : goal.returns-then-left-ge0
returns-then-left-ge0 c = let same = to_z-of_z w64 c.args.contracts c.ranges.contracts in record { value = same ∙ sym (signed_buy c.args.left c.args.contracts (rw (to_z-of_z w64 c.args.left c.ranges.left) at c.if-left-ge0.true)); sized = rw same c.requires }

pub returns-else-left-ge0 : goal.returns-else-left-ge0
returns-else-left-ge0 c = let same = neg_value c.args.contracts c.requires in record { value = same ∙ sym (signed_sell c.args.left c.args.contracts (rw (to_z-of_z w64 c.args.left c.ranges.left) at c.if-left-ge0.false)); sized = rw (same, neg_size c.args.contracts) c.requires }
