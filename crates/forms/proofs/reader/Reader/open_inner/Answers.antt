use Rattle.std.proofs.Common.{refl, ap, ◌∙◌}
use Rattle.forms.specs.Reads.{byte_in}
use Rattle.forms.proofs.Told.{then_ok, then_err, open_missing, open_more, stopped}
use Rattle.forms.proofs.reader.Reader.open_inner.Goals as goal

pub returns-then-stands_here : goal.returns-then-stands_here
returns-then-stands_here c = record { answer = open_missing _ _ c.if-stands_here.ensures; same = refl }

pub returns-in_err-expect : goal.returns-in_err-expect
returns-in_err-expect c =
    let tells = c.in_err-expect.ensures in
    stopped _ _ c.from_residual.ensures.1 (record { answer = open_more _ _ _ c.if-stands_here.ensures (then_err _ _ _ tells.answer); same = tells.same })

pub returns-in_err-expect-2 : goal.returns-in_err-expect-2
returns-in_err-expect-2 c =
    let first = c.in_ok-expect.ensures in
    let tells = c.in_err-expect-2.ensures in
    let next = tells.answer ∙ ap (λ t. byte_in 40 t c.expect.new.self.at) first.same in
    stopped _ _ c.from_residual-in_err-expect-2.ensures.1 (record { answer = open_more _ _ _ c.if-stands_here.ensures (then_ok _ _ _ _ _ first.answer (then_err _ _ _ next)); same = tells.same ∙ first.same })

pub returns : goal.returns
returns c =
    let first = c.in_ok-expect.ensures in
    let tells = c.in_ok-expect-2.ensures in
    let next = tells.answer ∙ ap (λ t. byte_in 40 t c.expect.new.self.at) first.same in
    record { answer = open_more _ _ _ c.if-stands_here.ensures (then_ok _ _ _ _ _ first.answer (then_ok _ _ _ _ _ next refl)); same = tells.same ∙ first.same }
