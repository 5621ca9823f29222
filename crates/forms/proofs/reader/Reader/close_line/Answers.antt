use Rattle.std.proofs.Common.{refl, ap, ◌∙◌}
use Rattle.forms.specs.Reads.{byte_in}
use Rattle.forms.proofs.Told.{then_ok, then_err, close_more, close_too_many, stopped}
use Rattle.forms.proofs.reader.Reader.close_line.Goals as goal

pub returns-then-stands_here : goal.returns-then-stands_here
returns-then-stands_here c = record { answer = close_too_many _ _ c.if-stands_here.ensures; same = refl }

pub returns-in_err-expect : goal.returns-in_err-expect
returns-in_err-expect c =
    let tells = c.in_err-expect.ensures in
    stopped _ _ c.from_residual.ensures.1 (record { answer = close_more _ _ _ c.if-stands_here.ensures (then_err _ _ _ tells.answer); same = tells.same })

pub returns : goal.returns
returns c =
    let first = c.in_ok-expect.ensures in
    let last = c.expect-2.ensures in
    let next = last.answer ∙ ap (λ t. byte_in 10 t c.expect.new.self.at) first.same in
    record { answer = close_more _ _ _ c.if-stands_here.ensures (then_ok _ _ _ _ _ first.answer next); same = last.same ∙ first.same }
