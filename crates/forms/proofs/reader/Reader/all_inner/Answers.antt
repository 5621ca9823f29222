use Rattle.std.proofs.Common.{get_or, refl, ap, ◌∙◌}
use Rattle.forms.specs.Fields.{asked}
use Rattle.forms.specs.Reads.{inner_in, inners_in}
use Rattle.forms.proofs.Turns.{inners_more, inners_break, inners_end, no_field}
use Rattle.forms.proofs.Told.{stopped}
use Rattle.forms.proofs.reader.Reader.all_inner.Goals as goal

pub loop-inner-init : goal.loop-inner-init
loop-inner-init g c =
    let text = c.args.self.now.text.now in (
      refl,
      ap (λ fs. inners_in g.K.Kind.filled text fs 0 c.blank-filled.result c.args.self.now.at) c.inner_forms-field-items.ensures
          ∙ ap (λ r. inners_in g.K.Kind.filled text g.K.Kind.fields_of 0 r c.args.self.now.at) c.blank-filled.ensures,
    )

pub returns-in_err-filled : goal.returns-in_err-filled
returns-in_err-filled g c =
    let tells = c.in_err-filled.ensures in
    let here = tells.answer ∙ ap (λ t. inner_in (g.K.Kind.filled c.loop-inner.inner) (asked (get_or c.inner_forms-field-items.result.now c.loop-inner.inner no_field)) t c.loop-inner.filled c.loop-inner.self.at) c.loop-inner.invariant.0 in
    stopped _ _ c.from_residual.ensures.1 (record {
      answer = inners_break _ _ _ _ _ _ no_field _ c.loop-inner-test.true here ∙ c.loop-inner.invariant.1;
      same = tells.same ∙ c.loop-inner.invariant.0;
    })

pub loop-inner-preserved : goal.loop-inner-preserved
loop-inner-preserved g c =
    let tells = c.in_ok-filled.ensures in
    let here = tells.answer ∙ ap (λ t. inner_in (g.K.Kind.filled c.loop-inner.inner) (asked (get_or c.inner_forms-field-items.result.now c.loop-inner.inner no_field)) t c.loop-inner.filled c.loop-inner.self.at) c.loop-inner.invariant.0 in
    (tells.same ∙ c.loop-inner.invariant.0, inners_more _ _ _ _ _ _ no_field _ _ c.loop-inner-test.true here ∙ c.loop-inner.invariant.1)

pub returns : goal.returns
returns g c = record { answer = inners_end _ _ _ _ _ _ c.loop-inner-test.false ∙ c.loop-inner.invariant.1; same = c.loop-inner.invariant.0 }
