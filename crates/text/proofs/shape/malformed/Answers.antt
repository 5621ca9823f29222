use Rattle.std.proofs.Common.{arith}
use Rattle.std.proofs.lemmas.Grind.{common_steps}
use Rattle.text.proofs.Shaped.{accepts_writings, refuses_first}
use Rattle.text.proofs.Unique.{one_reading}
use Rattle.text.specs.Shape.{malformed_at}
use Rattle.text.proofs.shape.malformed.Goals as goal

pub returns-in_default : goal.returns-in_default
unfolding malformed_at
returns-in_default c = record { answer = grind (arith, common_steps); accepts = accepts_writings; one = one_reading; first = refuses_first }

pub returns : goal.returns
unfolding malformed_at
returns c = record { answer = grind (arith, common_steps); accepts = accepts_writings; one = one_reading; first = refuses_first }
