use Rattle.std.proofs.Common.{eqb, List, length, Result, sym, ap, ◌∙◌, subst}
use Rattle.std.proofs.lemmas.List.{take_rest}
use Rattle.terms.specs.declared.cards.Line.{Line}
use Rattle.terms.specs.declared.refusal.Refusal.{Refusal}
use Rattle.banks.specs.Meanings.{Meaning}
use Rattle.banks.specs.Strips.{strip_meaning}
use Rattle.load.specs.Loading.{next}
use Rattle.day.specs.Days.{bank_told}
use Rattle.day.specs.Told.{ToldOutcome, SafeOn}
use Rattle.day.specs.Lent.{day_of}
use Rattle.day.proofs.Outcomes.{told_made, safe_made, alone_none, alone_some}
use Rattle.day.proofs.lent.Day.told_over_strip.Goals as goal

pub returns-then-is_empty : goal.returns-then-is_empty
returns-then-is_empty c =
    let day = day_of c.args.self in
    let made = alone_none day (strip_meaning c.args.strip) (ap (λ (options : List Line). eqb (length options) 0) (sym (take_rest c.args.self.given.lines.now c.args.self.given.futures)) ∙ sym c.is_empty.ensures ∙ c.if-is_empty.true) in
    record { told = told_made day _ _ c.told_over.result made c.told_over.ensures.told; safe = safe_made day _ _ c.told_over.result made c.told_over.ensures.safe }

pub returns-else-is_empty : goal.returns-else-is_empty
returns-else-is_empty c =
    let day = day_of c.args.self in
    let made = alone_some day (strip_meaning c.args.strip) (ap (λ (options : List Line). eqb (length options) 0) (sym (take_rest c.args.self.given.lines.now c.args.self.given.futures)) ∙ sym c.is_empty.ensures ∙ c.if-is_empty.false) in
    record {
      told = subst (λ (m : Result Meaning Refusal). ToldOutcome c.told_beside_table.result (next m (bank_told day))) (sym made) c.told_beside_table.ensures.told;
      safe = subst (λ (m : Result Meaning Refusal). SafeOn day m c.told_beside_table.result) (sym made) c.told_beside_table.ensures.safe;
    }
