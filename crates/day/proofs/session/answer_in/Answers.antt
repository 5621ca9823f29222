use Rattle.std.proofs.Common.{nat_abs, ap, ◌∙◌, w64, SFits, rules}
use Rattle.std.proofs.lemmas.Int.{to_z-of_z}
use Rattle.std.proofs.lemmas.Result.{err_from_is_err_and}
use Rattle.day.proofs.FromFiles.{read_ok, read_refused, fault_said, told_said, safe_said}
use Rattle.day.proofs.session.answer_in.Goals as goal

pub told_in-requires : goal.told_in-requires
told_in-requires c = (read_ok c.args.text.now _ _ c.in_ok-loaded.loaded c.requires c.in_ok-loaded.ensures.answer c.in_ok-loaded.ensures.contents).within

pub returns-in_err-loaded : goal.returns-in_err-loaded
returns-in_err-loaded c = let p = err_from_is_err_and c.from_residual.result c.from_residual.ensures.1 in rw (p.1, p.2) (record { said = read_refused c.args.text.now _ c.in_err-loaded.field-0.0 c.requires c.in_err-loaded.ensures.answer; safe = tt })

pub returns-in_err-told : goal.returns-in_err-told
returns-in_err-told c =
    let h = read_ok c.args.text.now _ _ c.in_ok-loaded.loaded c.requires c.in_ok-loaded.ensures.answer c.in_ok-loaded.ensures.contents in
    let p = err_from_is_err_and c.from_residual-in_err-told.result c.from_residual-in_err-told.ensures.1 in
    rw (p.1, p.2) (record { said = fault_said c.args.text.now c.in_ok-loaded.loaded _ h c.in_err-told.field-0.0 c.in_err-told.ensures.told; safe = tt })

pub returns : goal.returns
returns c =
    let h = read_ok c.args.text.now _ _ c.in_ok-loaded.loaded c.requires c.in_ok-loaded.ensures.answer c.in_ok-loaded.ensures.contents in
    let fits : SFits w64 c.in_ok-loaded.loaded.cash = search rules in
    record {
      said = told_said c.args.text.now c.in_ok-loaded.loaded _ h c.unsigned_abs.result c.in_ok-told.told (c.unsigned_abs.ensures.value ∙ ap nat_abs (to_z-of_z w64 c.in_ok-loaded.loaded.cash fits)) c.in_ok-told.ensures.told;
      safe = safe_said c.args.text.now c.in_ok-loaded.loaded _ h c.in_ok-told.told c.in_ok-told.ensures.safe;
    }
