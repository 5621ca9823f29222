use Rattle.std.proofs.Common.{refl, ap, ◌∙◌}
use Rattle.std.proofs.lemmas.Result.{err_from_is_err_and}
use Rattle.forms.specs.Reads.{outer_in, inners_in, close_in, form_in}
use Rattle.forms.proofs.Told.{then_ok, then_err}
use Rattle.forms.proofs.Written.{reads_forms}
use Rattle.forms.proofs.reader.Reader.form.Goals as goal

pub returns-in_err-outer_head : goal.returns-in_err-outer_head
unfolding form_in
returns-in_err-outer_head g c =
    let p = err_from_is_err_and c.from_residual.result c.from_residual.ensures.1 in
    let tells = c.in_err-outer_head.ensures in
    let next = tells.answer ∙ ap (λ h. outer_in h c.args.self.now.text.now c.args.self.now.at) c.first_head.ensures in
    rw (p.1, p.2) (record { answer = then_err _ _ _ next; same = tells.same; reads = reads_forms _ _ _ _ g.K.Kind.lettered })

pub returns-in_err-filled : goal.returns-in_err-filled
unfolding form_in
returns-in_err-filled g c =
    let p = err_from_is_err_and c.from_residual-in_err-filled.result c.from_residual-in_err-filled.ensures.1 in
    let first = c.in_ok-outer_head.ensures in
    let same = first.same in
    let head = first.answer ∙ ap (λ h. outer_in h c.args.self.now.text.now c.args.self.now.at) c.first_head.ensures in
    let tells = c.in_err-filled.ensures in
    let next = tells.answer ∙ ap (λ t. inners_in g.K.Kind.filled t g.K.Kind.fields_of 0 g.K.Kind.empty c.outer_head.new.self.at) same in
    rw (p.1, p.2) (record { answer = then_ok _ _ _ _ _ head (then_err _ _ _ next); same = tells.same ∙ same; reads = reads_forms _ _ _ _ g.K.Kind.lettered })

pub returns-in_err-close_line : goal.returns-in_err-close_line
unfolding form_in
returns-in_err-close_line g c =
    let p = err_from_is_err_and c.from_residual-in_err-close_line.result c.from_residual-in_err-close_line.ensures.1 in
    let first = c.in_ok-outer_head.ensures in
    let same = first.same in
    let head = first.answer ∙ ap (λ h. outer_in h c.args.self.now.text.now c.args.self.now.at) c.first_head.ensures in
    let second = c.in_ok-filled.ensures in
    let inner = second.answer ∙ ap (λ t. inners_in g.K.Kind.filled t g.K.Kind.fields_of 0 g.K.Kind.empty c.outer_head.new.self.at) same in
    let tells = c.in_err-close_line.ensures in
    let next = tells.answer ∙ ap (λ t. close_in t c.all_inner.new.self.at) (second.same ∙ same) in
    rw (p.1, p.2) (record { answer = then_ok _ _ _ _ _ head (then_ok _ _ _ _ _ inner (then_err _ _ _ next)); same = tells.same ∙ second.same ∙ same; reads = reads_forms _ _ _ _ g.K.Kind.lettered })

pub returns : goal.returns
unfolding form_in
returns g c =
    let first = c.in_ok-outer_head.ensures in
    let same = first.same in
    let head = first.answer ∙ ap (λ h. outer_in h c.args.self.now.text.now c.args.self.now.at) c.first_head.ensures in
    let second = c.in_ok-filled.ensures in
    let inner = second.answer ∙ ap (λ t. inners_in g.K.Kind.filled t g.K.Kind.fields_of 0 g.K.Kind.empty c.outer_head.new.self.at) same in
    let tells = c.in_ok-close_line.ensures in
    let next = tells.answer ∙ ap (λ t. close_in t c.all_inner.new.self.at) (second.same ∙ same) in
    record { answer = then_ok _ _ _ _ _ head (then_ok _ _ _ _ _ inner (then_ok _ _ _ _ _ next refl)); same = tells.same ∙ second.same ∙ same; reads = reads_forms _ _ _ _ g.K.Kind.lettered }
