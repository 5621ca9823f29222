use Rattle.std.proofs.Common.{◌≡◌, true, false, get_or, pos, refl, ◌∙◌, w64, SFits, rules}
use Rattle.std.proofs.lemmas.Int.{to_z-of_z}
use Rattle.forms.specs.Fields.{asked}
use Rattle.forms.specs.Rows.{is_due, due_in}
use Rattle.forms.proofs.Told.{then_ok, then_err, given_yes, given_no, stopped}
use Rattle.forms.proofs.RowTurns.{inner_alone, one_read, none_read}
use Rattle.forms.proofs.reader.Reader.due_number.Goals as goal

pub returns-in_err-inner_numbers : goal.returns-in_err-inner_numbers
unfolding due_in
returns-in_err-inner_numbers c =
    let tells = c.in_err-inner_numbers.ensures in
    let here = none_read _ _ _ (tells.answer ∙ inner_alone (asked c.args.field.now) _ _ c.requires) in
    stopped _ _ c.from_residual.ensures.1 (record { answer = then_err _ _ _ here; same = tells.same })

pub returns-then-is_due : goal.returns-then-is_due
unfolding due_in
returns-then-is_due c =
    let number = get_or c.inner_numbers.new.out 0 (pos 0) in
    let fits : SFits w64 number = search rules in
    let tells = c.in_ok-inner_numbers.ensures in
    let here = one_read _ _ _ (tells.answer ∙ inner_alone (asked c.args.field.now) _ _ c.requires) in
    let due : true ≡ is_due c.args.due number = simp (to_z-of_z w64 number fits) at c.if-is_due.ensures in
    record { answer = then_ok _ _ _ _ _ here (given_yes _ _ _ _ due refl); same = tells.same }

pub returns-else-is_due : goal.returns-else-is_due
unfolding due_in
returns-else-is_due c =
    let number = get_or c.inner_numbers.new.out 0 (pos 0) in
    let fits : SFits w64 number = search rules in
    let tells = c.in_ok-inner_numbers.ensures in
    let here = one_read _ _ _ (tells.answer ∙ inner_alone (asked c.args.field.now) _ _ c.requires) in
    let other : false ≡ is_due c.args.due number = simp (to_z-of_z w64 number fits) at c.if-is_due.ensures in
    record { answer = then_ok _ _ _ _ _ here (given_no _ _ _ other); same = tells.same }
