use Rattle.std.proofs.Common.{◌≡◌, true, false, Ok, sym, ap, ◌∙◌, w64, SFits, rules}
use Rattle.forms.specs.Fields.{allows}
use Rattle.std.proofs.lemmas.Int.{to_z-of_z}
use Rattle.forms.proofs.Told.{field_ok, field_out, field_err, stopped}
use Rattle.forms.proofs.reader.Reader.number.Goals as goal

pub returns-in_err-value : goal.returns-in_err-value
returns-in_err-value c =
    let told = c.in_err-value.ensures in
    stopped _ _ c.from_residual.ensures.1 (record { answer = field_err _ _ _ _ told.answer; same = told.same })

pub returns-then-takes : goal.returns-then-takes
returns-then-takes c =
    let fits : SFits w64 c.in_ok-value.value = search rules in
    let told = c.in_ok-value.ensures in
    let inside : allows c.args.allowed c.in_ok-value.value ≡ true = simp (to_z-of_z w64 c.in_ok-value.value fits) at (sym c.takes.ensures ∙ c.if-takes.true) in
    record { answer = ap (λ v. Ok (v, c.plain_number.new.self.at)) (to_z-of_z w64 c.in_ok-value.value fits) ∙ field_ok _ _ _ _ _ told.answer inside; same = told.same }

pub returns-else-takes : goal.returns-else-takes
returns-else-takes c =
    let fits : SFits w64 c.in_ok-value.value = search rules in
    let told = c.in_ok-value.ensures in
    let outside : allows c.args.allowed c.in_ok-value.value ≡ false = simp (to_z-of_z w64 c.in_ok-value.value fits) at (sym c.takes.ensures ∙ c.if-takes.false) in
    record { answer = field_out _ _ _ _ _ told.answer outside; same = told.same }
