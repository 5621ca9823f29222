use Rattle.std.proofs.Common.{ap, ◌∙◌}
use Rattle.forms.specs.Rows.{line_asked, column_asked, due_in, front_in}
use Rattle.forms.proofs.Told.{then_ok, then_err, stopped}
use Rattle.forms.proofs.reader.Reader.row_front.Goals as goal

pub returns-in_err-outer_head : goal.returns-in_err-outer_head
unfolding front_in
returns-in_err-outer_head c =
    let tells = c.in_err-outer_head.ensures in
    stopped _ _ c.from_residual.ensures.1 (record { answer = then_err _ _ _ tells.answer; same = tells.same })

pub returns-in_err-due_number : goal.returns-in_err-due_number
unfolding front_in
returns-in_err-due_number c =
    let first = c.in_ok-outer_head.ensures in
    let tells = c.in_err-due_number.ensures in
    let at = c.outer_head.new.self.at in
    let line = tells.answer ∙ ap (λ t. due_in line_asked c.args.line c.place-bracket.result t at) first.same ∙ ap (λ b. due_in line_asked c.args.line b c.args.self.now.text.now at) c.place-bracket.ensures in
    stopped _ _ c.from_residual-in_err-due_number.ensures.1 (record { answer = then_ok _ _ _ _ _ first.answer (then_err _ _ _ line); same = tells.same ∙ first.same })

pub returns : goal.returns
unfolding front_in
returns c =
    let first = c.in_ok-outer_head.ensures in
    let second = c.in_ok-due_number.ensures in
    let third = c.due_number-2.ensures in
    let at = c.outer_head.new.self.at in
    let line = second.answer ∙ ap (λ t. due_in line_asked c.args.line c.place-bracket.result t at) first.same ∙ ap (λ b. due_in line_asked c.args.line b c.args.self.now.text.now at) c.place-bracket.ensures in
    let next = c.due_number.new.self.at in
    let column = third.answer ∙ ap (λ t. due_in column_asked c.args.column c.place-bracket.result t next) (second.same ∙ first.same) ∙ ap (λ b. due_in column_asked c.args.column b c.args.self.now.text.now next) c.place-bracket.ensures in
    record { answer = then_ok _ _ _ _ _ first.answer (then_ok _ _ _ _ _ line column); same = third.same ∙ second.same ∙ first.same }
