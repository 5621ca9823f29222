use Rattle.std.proofs.Common.{◌≡◌, ◌+◌, ◌-◌, ◌<◌, [], ◌∷◌, ◌++◌, Ok, take, sym, refl, ap, ◌∙◌, arith, w64, SFits, to_z, of_z, rules}
use Rattle.std.proofs.lemmas.Int.{to_z-of_z}
use Rattle.std.proofs.lemmas.List.{take_more_set, take_all}
use Rattle.forms.specs.Reads.{spaced_in, numbers_in}
use Rattle.forms.specs.Rows.{added}
use Rattle.forms.proofs.Turns.{numbers_more, numbers_break, numbers_end}
use Rattle.forms.proofs.Told.{stopped_list}
use Rattle.forms.proofs.reader.Reader.numbers_into.Goals as goal

pub loop-price-init : goal.loop-price-init
loop-price-init c =
    let all : c.args.field.now.count - 0 ≡ c.args.field.now.count = omega arith in
    (refl, ap (λ left. numbers_in added c.args.field.now.allowed c.args.self.now.text.now left 0 [] c.args.self.now.at) all)

pub returns-in_err-price : goal.returns-in_err-price
returns-in_err-price c =
    let tells = c.in_err-price.ensures in
    let inside : c.loop-price.price-index < c.args.field.now.count = omega arith in
    let here = tells.answer ∙ ap (λ t. spaced_in c.args.field.now.allowed t c.loop-price.self.at) c.loop-price.invariant.0 in
    stopped_list _ _ _ c.from_residual.ensures.1 (record { answer = numbers_break _ _ _ _ _ _ _ _ inside here ∙ c.loop-price.invariant.1; same = tells.same ∙ c.loop-price.invariant.0 })

pub loop-price-preserved : goal.loop-price-preserved
loop-price-preserved c =
    let tells = c.in_ok-price.ensures in
    let value = c.in_ok-price.field-0 in
    let fits : SFits w64 value = search rules in
    let out = c.loop-price.out in
    let index = c.loop-price.price-index in
    let inside : index < c.args.field.now.count = omega arith in
    let here = tells.answer ∙ ap (λ t. spaced_in c.args.field.now.allowed t c.loop-price.self.at) c.loop-price.invariant.0 in
    let written = take_more_set out index (to_z w64 (of_z w64 value)) (omega arith) ∙ ap (λ v. take index out ++ (v ∷ [])) (to_z-of_z w64 value fits) in (
      tells.same ∙ c.loop-price.invariant.0,
      ap (λ ps. numbers_in added c.args.field.now.allowed c.args.self.now.text.now (c.args.field.now.count - (index + 1)) (index + 1) ps c.spaced_number.new.self.at) written
          ∙ numbers_more _ _ _ _ _ _ _ _ _ inside here ∙ c.loop-price.invariant.1,
    )

pub returns : goal.returns
returns c =
    let whole = take_all c.loop-price.price-index c.loop-price.out (omega arith) in
    record {
      answer = ap (λ ps. Ok (ps, c.loop-price.self.at)) (sym whole) ∙ numbers_end _ _ _ _ _ _ _ (omega arith) ∙ c.loop-price.invariant.1;
      same = c.loop-price.invariant.0;
    }
