use Rattle.std.proofs.Common.{refl}
use Rattle.forms.proofs.Told.{byte_here, byte_not}
use Rattle.forms.proofs.reader.Reader.expect.Goals as goal

pub returns-then-stands_here : goal.returns-then-stands_here
returns-then-stands_here c = record { answer = byte_here _ _ _ c.if-stands_here.ensures; same = refl }

pub returns-else-stands_here : goal.returns-else-stands_here
returns-else-stands_here c = record { answer = byte_not _ _ _ c.if-stands_here.ensures; same = refl }
