use Rattle.std.proofs.Common.{◌≡◌, true, [], ◌∷◌, length, Ok, sym, ◌∙◌, ap₂}
use Rattle.std.proofs.lemmas.Int.{to_z-of_z}
use Rattle.terms.specs.declared.refusal.Refusal.TheVariants.{NoSuchLine, NotCovered}
use Rattle.terms.specs.Checks.{unless}
use Rattle.deck.specs.Judgements.{name_fits}
use Rattle.account.specs.declared.call.Call.TheVariants.{Place}
use Rattle.account.specs.Account.{Numbered, bound_checks, checks, placed, covered}
use Rattle.account.proofs.Checked.{passed}
use Rattle.calls.specs.Accounts.{state_of, judged}
use Rattle.calls.proofs.Steps.{none_refuses, accepted, told_refused}
use Rattle.calls.proofs.Placing.{front_none, of_asked}
use Rattle.calls.proofs.Signs.{as_given}
use Rattle.calls.proofs.accounts.Account.place.Goals as goal

pub returns-in_err-check_place : goal.returns-in_err-check_place
returns-in_err-check_place g c =
    let s = state_of g.B.Bank.meaning c.args.self.now in
    told_refused s (Place c.args.line c.args.quantity c.args.limit) (λ n. Numbered n) c.from_residual.result c.in_err-check_place.field-0.0 c.from_residual.ensures.1 (sym (c.in_err-check_place.ensures ∙ as_given (λ l q p. judged (checks s (Place l q p))) _ _ _ c.ranges.line c.ranges.quantity c.ranges.limit))

pub placed-requires : goal.placed-requires
placed-requires g c =
    let s = state_of g.B.Bank.meaning c.args.self.now in
    let fits_line = c.ranges.line in
    let fits-quantity = c.ranges.quantity in
    let fits-limit = c.ranges.limit in
    let passes : judged (checks s (Place c.args.line c.args.quantity c.args.limit)) ≡ Ok tt = sym (c.in_ok-check_place.ensures ∙ as_given (λ l q p. judged (checks s (Place l q p))) _ _ _ c.ranges.line c.ranges.quantity c.ranges.limit) in
    let has : name_fits (length s.cards.lines) c.args.line ≡ true = passed _ NoSuchLine (none_refuses (checks s (Place c.args.line c.args.quantity c.args.limit)) passes).0 in
    of_asked (λ l q p. judged (bound_checks s l q p)) (length s.cards.lines) c.args.line c.args.quantity c.args.limit c.asked.result has (simp to_z-of_z at c.asked.ensures)
    ∙ front_none (bound_checks s c.args.line c.args.quantity c.args.limit) (unless (covered (placed s c.args.line c.args.quantity c.args.limit)) NotCovered ∷ []) passes

pub returns : goal.returns
returns g c =
    let s = state_of g.B.Bank.meaning c.args.self.now in
    let fits_line = c.ranges.line in
    let fits-quantity = c.ranges.quantity in
    let fits-limit = c.ranges.limit in
    let passes : judged (checks s (Place c.args.line c.args.quantity c.args.limit)) ≡ Ok tt = sym (c.in_ok-check_place.ensures ∙ as_given (λ l q p. judged (checks s (Place l q p))) _ _ _ c.ranges.line c.ranges.quantity c.ranges.limit) in
    let has : name_fits (length s.cards.lines) c.args.line ≡ true = passed _ NoSuchLine (none_refuses (checks s (Place c.args.line c.args.quantity c.args.limit)) passes).0 in
    let after = c.placed.ensures.state ∙ of_asked (placed s) (length s.cards.lines) c.args.line c.args.quantity c.args.limit c.asked.result has (simp to_z-of_z at c.asked.ensures) in
    ap₂ (λ t n. (t, Ok (Numbered n))) after c.placed.ensures.number ∙ sym (accepted s (Place c.args.line c.args.quantity c.args.limit) passes)
