use Rattle.std.proofs.Common.{List, length, pos, sym, ap, ◌∙◌}
use Rattle.std.proofs.lemmas.List.{take_rest}
use Rattle.std.proofs.lemmas.Result.{err_from_is_err_and}
use Rattle.terms.specs.Halves.{half_size}
use Rattle.terms.specs.declared.cards.Line.{Line}
use Rattle.banks.specs.Strips.{strip_meaning}
use Rattle.banks.specs.Tables.{table_made}
use Rattle.banks.specs.Layers.{pair_made}
use Rattle.load.specs.Loading.{next}
use Rattle.day.specs.Days.{beside_table}
use Rattle.day.specs.Lent.{day_of}
use Rattle.day.proofs.Outcomes.{refused_made, told_made, safe_made}
use Rattle.day.proofs.lent.Day.told_beside_table.Goals as goal

pub returns-in_err-pair : goal.returns-in_err-pair
returns-in_err-pair c =
    let day = day_of c.args.self in
    let made = ap (λ (options : List Line). next (table_made (pos (half_size day.half)) (pos (length options)) day.prices) (λ table. pair_made (strip_meaning c.args.strip) table)) (sym (take_rest c.args.self.given.lines.now c.args.self.given.futures)) ∙ sym c.in_err-pair.ensures in
    let p = err_from_is_err_and c.from_residual.result c.from_residual.ensures.1 in
    rw (p.1, p.2) (record { told = refused_made day (beside_table day (strip_meaning c.args.strip)) c.in_err-pair.field-0.0 made; safe = λ bank e. tt })

pub returns : goal.returns
returns c =
    let day = day_of c.args.self in
    let made = ap (λ (options : List Line). next (table_made (pos (half_size day.half)) (pos (length options)) day.prices) (λ table. pair_made (strip_meaning c.args.strip) table)) (sym (take_rest c.args.self.given.lines.now c.args.self.given.futures)) ∙ sym c.in_ok-pair.ensures in
    record { told = told_made day (beside_table day (strip_meaning c.args.strip)) _ c.told_over.result made c.told_over.ensures.told; safe = safe_made day (beside_table day (strip_meaning c.args.strip)) _ c.told_over.result made c.told_over.ensures.safe }
