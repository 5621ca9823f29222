use Rattle.std.proofs.Common.{ap, ◌∙◌}
use Rattle.forms.specs.Reads.{spaced_in, field_in}
use Rattle.forms.proofs.Told.{then_ok, then_err, stopped}
use Rattle.forms.proofs.reader.Reader.spaced_number.Goals as goal

pub returns-in_err-expect : goal.returns-in_err-expect
unfolding spaced_in
returns-in_err-expect c =
    let tells = c.in_err-expect.ensures in
    stopped _ _ c.from_residual.ensures.1 (record { answer = then_err _ _ _ tells.answer; same = tells.same })

pub returns : goal.returns
unfolding spaced_in
returns c =
    let tells = c.in_ok-expect.ensures in
    let next = c.number.ensures.answer in
    record {
      answer = then_ok _ _ _ _ _ tells.answer (next ∙ ap (λ t. field_in c.args.allowed t c.expect.new.self.at) tells.same);
      same = c.number.ensures.same ∙ tells.same;
    }
