use Rattle.std.proofs.Common.{refl}
use Rattle.forms.specs.Fields.{asked}
use Rattle.forms.proofs.Told.{head_fits, head_wrong, head_within}
use Rattle.forms.proofs.reader.Reader.asked_head.Goals as goal

pub invariant_of-self : goal.invariant_of-self
invariant_of-self c = record { inside = head_within (asked c.args.field.now) c.args.self.now.text.now c.args.self.now.at c.if-fits_head.ensures c.args.self.now.inside }

pub returns-then-fits_head : goal.returns-then-fits_head
returns-then-fits_head c = record { answer = head_fits _ _ _ _ c.if-fits_head.ensures; same = refl }

pub returns-else-fits_head : goal.returns-else-fits_head
returns-else-fits_head c = record { answer = head_wrong _ _ _ _ c.if-fits_head.ensures; same = refl }
