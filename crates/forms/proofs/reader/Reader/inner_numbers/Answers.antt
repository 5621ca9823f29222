use Rattle.std.proofs.Common.{[], ap, ◌∙◌}
use Rattle.forms.specs.Fields.{asked}
use Rattle.forms.specs.Reads.{byte_in, head_in, numbers_in, inner_in}
use Rattle.forms.specs.Rows.{added}
use Rattle.forms.proofs.Told.{then_ok, then_err, then_last, stopped_list}
use Rattle.forms.proofs.reader.Reader.inner_numbers.Goals as goal

pub returns-in_err-bracket : goal.returns-in_err-bracket
unfolding inner_in
returns-in_err-bracket c =
    let tells = c.in_err-bracket.ensures in
    stopped_list _ _ _ c.from_residual.ensures.1 (record { answer = then_err _ _ _ tells.answer; same = tells.same })

pub returns-in_err-asked_head : goal.returns-in_err-asked_head
unfolding inner_in
returns-in_err-asked_head c =
    let first = c.in_ok-bracket.ensures in
    let tells = c.in_err-asked_head.ensures in
    let next = tells.answer ∙ ap (λ t. head_in (asked c.args.field.now) c.in_ok-bracket.bracket t c.open_inner.new.self.at) first.same in
    stopped_list _ _ _ c.from_residual-in_err-asked_head.ensures.1 (record { answer = then_ok _ _ _ _ _ first.answer (then_err _ _ _ next); same = tells.same ∙ first.same })

pub returns-in_err-numbers_into : goal.returns-in_err-numbers_into
unfolding inner_in
returns-in_err-numbers_into c =
    let first = c.in_ok-bracket.ensures in
    let second = c.in_ok-asked_head.ensures in
    let same = second.same ∙ first.same in
    let head = second.answer ∙ ap (λ t. head_in (asked c.args.field.now) c.in_ok-bracket.bracket t c.open_inner.new.self.at) first.same in
    let tells = c.in_err-numbers_into.ensures in
    let next = tells.answer ∙ ap (λ t. numbers_in added c.args.field.now.allowed t c.args.field.now.count 0 [] c.asked_head.new.self.at) same in
    stopped_list _ _ _ c.from_residual-in_err-numbers_into.ensures.1 (record { answer = then_ok _ _ _ _ _ first.answer (then_ok _ _ _ _ _ head (then_err _ _ _ next)); same = tells.same ∙ same })

pub returns : goal.returns
unfolding inner_in
returns c =
    let first = c.in_ok-bracket.ensures in
    let second = c.in_ok-asked_head.ensures in
    let third = c.in_ok-numbers_into.ensures in
    let same = second.same ∙ first.same in
    let head = second.answer ∙ ap (λ t. head_in (asked c.args.field.now) c.in_ok-bracket.bracket t c.open_inner.new.self.at) first.same in
    let numbers = third.answer ∙ ap (λ t. numbers_in added c.args.field.now.allowed t c.args.field.now.count 0 [] c.asked_head.new.self.at) same in
    let tells = c.expect.ensures in
    let next = tells.answer ∙ ap (λ t. byte_in 41 t c.numbers_into.new.self.at) (third.same ∙ same) in
    record { answer = then_ok _ _ _ _ _ first.answer (then_ok _ _ _ _ _ head (then_ok _ _ _ _ _ numbers (then_last _ _ _ _ next))); same = tells.same ∙ third.same ∙ same }
