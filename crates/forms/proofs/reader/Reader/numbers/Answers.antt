use Rattle.std.proofs.Common.{◌≡◌, ◌+◌, ◌-◌, refl, ap, ◌∙◌, arith, w64, SFits, rules}
use Rattle.std.proofs.lemmas.Int.{to_z-of_z}
use Rattle.forms.specs.Reads.{spaced_in, numbers_in}
use Rattle.forms.proofs.Turns.{numbers_more, numbers_break, numbers_end}
use Rattle.forms.proofs.Told.{stopped}
use Rattle.forms.proofs.reader.Reader.numbers.Goals as goal

pub loop-index-init : goal.loop-index-init
loop-index-init g c =
    let all : c.args.field.now.count - 0 ≡ c.args.field.now.count = omega arith in
    (refl, ap (λ left. numbers_in (g.K.Kind.filled c.args.inner) c.args.field.now.allowed c.args.self.now.text.now left 0 c.args.so_far c.args.self.now.at) all)

pub returns-in_err-value : goal.returns-in_err-value
returns-in_err-value g c =
    let tells = c.in_err-value.ensures in
    let here = tells.answer ∙ ap (λ t. spaced_in c.args.field.now.allowed t c.loop-index.self.at) c.loop-index.invariant.0 in
    stopped _ _ c.from_residual.ensures.1 (record {
      answer = numbers_break _ _ _ _ _ _ _ _ c.loop-index-test.true here ∙ c.loop-index.invariant.1;
      same = tells.same ∙ c.loop-index.invariant.0;
    })

pub loop-index-preserved : goal.loop-index-preserved
loop-index-preserved g c =
    let tells = c.in_ok-value.ensures in
    let value : SFits w64 c.in_ok-value.value = search rules in
    let here = tells.answer ∙ ap (λ t. spaced_in c.args.field.now.allowed t c.loop-index.self.at) c.loop-index.invariant.0 in
    let fill = g.K.Kind.filled c.args.inner in
    let filled : c.fill-filled.result ≡ fill c.loop-index.filled c.loop-index.index c.in_ok-value.value = simp (to_z-of_z w64 c.in_ok-value.value value) at c.fill-filled.ensures in (
      tells.same ∙ c.loop-index.invariant.0,
      ap (λ r. numbers_in fill c.args.field.now.allowed c.args.self.now.text.now (c.args.field.now.count - (c.loop-index.index + 1)) (c.loop-index.index + 1) r c.spaced_number.new.self.at) filled ∙ numbers_more _ _ _ _ _ _ _ _ _ c.loop-index-test.true here ∙ c.loop-index.invariant.1,
    )

pub returns : goal.returns
returns g c = record { answer = numbers_end _ _ _ _ _ _ _ c.loop-index-test.false ∙ c.loop-index.invariant.1; same = c.loop-index.invariant.0 }
