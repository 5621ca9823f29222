use Rattle.std.proofs.Common.{◌<◌, ◌≤◌, length, Err, sym, refl, ap, ◌∙◌, arith}
use Rattle.std.proofs.lemmas.Result.{err_from_is_err_and}
use Rattle.std.proofs.lemmas.Bool.{lt-ltb, le-ltb}
use Rattle.terms.specs.declared.refusal.Refusal.TheVariants.{WrongForm}
use Rattle.forms.proofs.Told.{then_ok, then_err, given_yes, given_no}
use Rattle.forms.proofs.Turns.{listed_err, listed_ok}
use Rattle.forms.proofs.RowTurns.{listed_yes, listed_no}
use Rattle.load.specs.Reading.{some_in}
use Rattle.load.proofs.reading.some.Goals as goal

pub returns-in_err-count : goal.returns-in_err-count
unfolding some_in
returns-in_err-count g c =
    let p = err_from_is_err_and c.from_residual.result c.from_residual.ensures.1 in
    let tells = c.in_err-count.ensures in
    rw (p.1, p.2) (record { answer = listed_err _ _ _ _ _ (then_err _ _ _ (listed_no _ _ _ _ _ tells.answer)); same = tells.same })

pub returns-then-count-gt0 : goal.returns-then-count-gt0
unfolding some_in
returns-then-count-gt0 g c =
    let tells = c.in_ok-count.ensures in
    let read = listed_yes _ _ _ _ _ tells.answer in
    let some : 0 < length read.0 = omega (arith, read.2) in
    record { answer = listed_ok _ read.0 _ _ _ _ (then_ok _ _ _ _ _ read.1 (given_yes _ _ _ _ (sym (lt-ltb 0 (length read.0) some)) refl)) read.2 read.3; same = tells.same }

pub returns-else-count-gt0 : goal.returns-else-count-gt0
unfolding some_in
returns-else-count-gt0 g c =
    let tells = c.in_ok-count.ensures in
    let read = listed_yes _ _ _ _ _ tells.answer in
    let none : length read.0 ≤ 0 = omega (arith, read.2) in
    record { answer = listed_err _ _ _ _ _ (then_ok _ _ _ _ _ read.1 (ap (λ n. Err (WrongForm n)) c.place.ensures ∙ given_no _ _ _ (sym (le-ltb 0 (length read.0) none)))); same = tells.same }
