use Rattle.std.proofs.Common.{◌≡◌, nat_abs, Ok, Err, sym, ap, ◌∙◌, w64, to_z, of_z, rules}
use Rattle.std.proofs.lemmas.Int.{to_z-of_z}
use Rattle.banks.specs.Outcomes.{making}
use Rattle.banks.specs.Tables.{table_of, table_judged, Tabulates}
use Rattle.terms.proofs.Passed.{law_made, law_refused}
use Rattle.banks.proofs.Tabled.{table_passed, table_allowed, table_made_lem}
use Rattle.banks.proofs.table.Table.new.Goals as goal

pub returns-in_err-half : goal.returns-in_err-half
returns-in_err-half c =
    let half = c.args.half in
    let lines = c.args.lines in
    let list = c.args.entries.now in
    let why = c.in_err-half.field-0.0 in
    let judged : table_judged half lines list ≡ Err why = simp (to_z-of_z w64 half c.ranges.half, to_z-of_z w64 lines c.ranges.lines) at (sym c.judged.ensures ∙ c.in_err-half.was) in
    let handed : c.from_residual.result ≡ Err why = search rules in
    rw handed (record {
      made = sym (ap (λ j. making j (λ grid. table_of grid (nat_abs lines) list)) judged);
      law = law_refused _ (Tabulates half lines list) (table_passed half lines list) (table_allowed half lines list) why judged;
    })

pub returns : goal.returns
returns c =
    let half = c.args.half in
    let lines = c.args.lines in
    let list = c.args.entries.now in
    let kept : to_z w64 (of_z w64 lines) ≡ lines = to_z-of_z w64 lines c.ranges.lines in
    let judged : table_judged half lines list ≡ Ok c.in_ok-half.half = simp (to_z-of_z w64 half c.ranges.half, kept) at (sym c.judged.ensures ∙ c.in_ok-half.was) in
    record {
      made = simp kept (table_made_lem half lines list c.in_ok-half.half judged);
      law = law_made _ (Tabulates half lines list) (table_passed half lines list) (table_allowed half lines list) c.in_ok-half.half judged;
    }
