use Rattle.std.proofs.Common.{refl, arith}
use Rattle.forms.proofs.Told.{outer_fits, outer_wrong, outer_within}
use Rattle.forms.proofs.reader.Reader.outer_head.Goals as goal

pub invariant_of-self : goal.invariant_of-self
invariant_of-self c = let h = outer_within c.args.head.now c.args.self.now.text.now c.args.self.now.at c.if-begins_with.ensures in record { inside = omega arith }

pub returns-then-begins_with : goal.returns-then-begins_with
returns-then-begins_with c = record { answer = outer_fits _ _ _ c.if-begins_with.ensures _ (omega arith); same = refl }

pub returns-else-begins_with : goal.returns-else-begins_with
returns-else-begins_with c = record { answer = outer_wrong _ _ _ c.if-begins_with.ensures; same = refl }
