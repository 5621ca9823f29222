use Rattle.std.proofs.Common.{◌≡◌, ◌+◌, false, Ok, Err, sym, refl, ap, ◌∙◌, w64, SFits, rules}
use Rattle.std.specs.Result.{is_ok}
use Rattle.std.proofs.lemmas.Int.{to_z-of_z}
use Rattle.terms.specs.declared.refusal.Refusal.TheVariants.{Malformed}
use Rattle.forms.proofs.Told.{number_is, number_fails, stopped}
use Rattle.forms.proofs.reader.Reader.plain_number.Goals as goal

pub returns-in_err-value : goal.returns-in_err-value
returns-in_err-value c =
    let failed : is_ok c.number.result ≡ false = search rules in
    let why : c.in_err-value.field-0.0 ≡ Malformed c.args.self.now.at = search rules in
    stopped _ _ c.from_residual.ensures.1 (record { answer = ap Err why ∙ number_fails _ _ _ c.number.ensures.answer failed; same = refl })

pub returns : goal.returns
returns c =
    let fits : SFits w64 c.in_ok-value.value = search rules in
    let read : c.number.result ≡ Ok (c.in_ok-value.value, c.in_ok-value.taken) = search rules in
    record { answer = ap (λ v. Ok (v, c.args.self.now.at + c.in_ok-value.taken)) (to_z-of_z w64 c.in_ok-value.value fits) ∙ number_is _ _ (Ok (c.in_ok-value.value, c.in_ok-value.taken)) (sym read ∙ c.number.ensures.answer); same = refl }
