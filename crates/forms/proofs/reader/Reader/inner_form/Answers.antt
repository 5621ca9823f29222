use Rattle.std.proofs.Common.{refl, ap, ◌∙◌}
use Rattle.forms.specs.Fields.{asked}
use Rattle.forms.specs.Reads.{byte_in, head_in, numbers_in, inner_in}
use Rattle.forms.proofs.Told.{then_ok, then_err, stopped}
use Rattle.forms.proofs.reader.Reader.inner_form.Goals as goal

pub returns-in_err-bracket : goal.returns-in_err-bracket
unfolding inner_in
returns-in_err-bracket g c =
    let tells = c.in_err-bracket.ensures in
    stopped _ _ c.from_residual.ensures.1 (record { answer = then_err _ _ _ tells.answer; same = tells.same })

pub returns-in_err-asked_head : goal.returns-in_err-asked_head
unfolding inner_in
returns-in_err-asked_head g c =
    let first = c.in_ok-bracket.ensures in
    let tells = c.in_err-asked_head.ensures in
    let next = tells.answer ∙ ap (λ t. head_in (asked c.args.field.now) c.in_ok-bracket.bracket t c.open_inner.new.self.at) first.same in
    stopped _ _ c.from_residual-in_err-asked_head.ensures.1 (record { answer = then_ok _ _ _ _ _ first.answer (then_err _ _ _ next); same = tells.same ∙ first.same })

pub returns-in_err-filled : goal.returns-in_err-filled
unfolding inner_in
returns-in_err-filled g c =
    let first = c.in_ok-bracket.ensures in
    let second = c.in_ok-asked_head.ensures in
    let same = second.same ∙ first.same in
    let head = second.answer ∙ ap (λ t. head_in (asked c.args.field.now) c.in_ok-bracket.bracket t c.open_inner.new.self.at) first.same in
    let tells = c.in_err-filled.ensures in
    let next = tells.answer ∙ ap (λ t. numbers_in (g.K.Kind.filled c.args.inner) c.args.field.now.allowed t c.args.field.now.count 0 c.args.so_far c.asked_head.new.self.at) same in
    stopped _ _ c.from_residual-in_err-filled.ensures.1 (record { answer = then_ok _ _ _ _ _ first.answer (then_ok _ _ _ _ _ head (then_err _ _ _ next)); same = tells.same ∙ same })

pub returns-in_err-expect : goal.returns-in_err-expect
unfolding inner_in
returns-in_err-expect g c =
    let first = c.in_ok-bracket.ensures in
    let second = c.in_ok-asked_head.ensures in
    let third = c.in_ok-filled.ensures in
    let same = second.same ∙ first.same in
    let head = second.answer ∙ ap (λ t. head_in (asked c.args.field.now) c.in_ok-bracket.bracket t c.open_inner.new.self.at) first.same in
    let numbers = third.answer ∙ ap (λ t. numbers_in (g.K.Kind.filled c.args.inner) c.args.field.now.allowed t c.args.field.now.count 0 c.args.so_far c.asked_head.new.self.at) same in
    let tells = c.in_err-expect.ensures in
    let next = tells.answer ∙ ap (λ t. byte_in 41 t c.numbers.new.self.at) (third.same ∙ same) in
    stopped _ _ c.from_residual-in_err-expect.ensures.1 (record { answer = then_ok _ _ _ _ _ first.answer (then_ok _ _ _ _ _ head (then_ok _ _ _ _ _ numbers (then_err _ _ _ next))); same = tells.same ∙ third.same ∙ same })

pub returns : goal.returns
unfolding inner_in
returns g c =
    let first = c.in_ok-bracket.ensures in
    let second = c.in_ok-asked_head.ensures in
    let third = c.in_ok-filled.ensures in
    let same = second.same ∙ first.same in
    let head = second.answer ∙ ap (λ t. head_in (asked c.args.field.now) c.in_ok-bracket.bracket t c.open_inner.new.self.at) first.same in
    let numbers = third.answer ∙ ap (λ t. numbers_in (g.K.Kind.filled c.args.inner) c.args.field.now.allowed t c.args.field.now.count 0 c.args.so_far c.asked_head.new.self.at) same in
    let tells = c.in_ok-expect.ensures in
    let next = tells.answer ∙ ap (λ t. byte_in 41 t c.numbers.new.self.at) (third.same ∙ same) in
    record { answer = then_ok _ _ _ _ _ first.answer (then_ok _ _ _ _ _ head (then_ok _ _ _ _ _ numbers (then_ok _ _ _ _ _ next refl))); same = tells.same ∙ third.same ∙ same }
