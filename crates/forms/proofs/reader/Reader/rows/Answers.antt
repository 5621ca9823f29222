use Rattle.std.proofs.Common.{◌≡◌, ◌+◌, ◌-◌, ◌/◌, ◌%◌, ◌<◌, ◌≤◌, [], ◌++◌, length, take, drop, Err, sym, ap, ◌∙◌, arith}
use Rattle.std.proofs.lemmas.Result.{err_from_is_err_and}
use Rattle.std.proofs.lemmas.List.{length-take-le, take-append-drop, drop-drop}
use Rattle.terms.specs.declared.refusal.Refusal.TheVariants.{WrongForm}
use Rattle.terms.specs.Halves.{points}
use Rattle.forms.specs.Rows.{row_in, rows_in}
use Rattle.forms.proofs.Turns.{listed_err, listed_ok}
use Rattle.forms.proofs.RowTurns.{behind, row_behind, filled_front, filled_rest, filled_long, rows_full, rows_break, rows_more, rows_end}
use Rattle.forms.proofs.WrittenRows.{reads_rows}
use Rattle.forms.proofs.reader.Reader.rows.Goals as goal

pub returns-then-out-end : goal.returns-then-out-end
returns-then-out-end c =
    let long = length-take-le c.loop-index.end c.loop-index.out c.loop-index.invariant.1 in
    let full : length c.args.out.now < length (take c.loop-index.end c.loop-index.out) + points c.args.half = omega (arith, c.points-size.ensures) in
    record { answer = listed_err _ _ _ _ _ (ap (λ n. Err (WrongForm n)) c.place.ensures ∙ rows_full _ _ _ _ _ _ _ _ c.loop-index-test.true full ∙ c.loop-index.invariant.3); same = c.loop-index.invariant.0; reads = reads_rows }

pub returns-in_err-row : goal.returns-in_err-row
returns-in_err-row c =
    let p = err_from_is_err_and c.from_residual.result c.from_residual.ensures.1 in
    let tells = c.in_err-row.ensures in
    let before = take c.loop-index.end c.loop-index.out in
    let long = length-take-le c.loop-index.end c.loop-index.out c.loop-index.invariant.1 in
    let room : length before + points c.args.half ≤ length c.args.out.now = omega (arith, c.points-size.ensures) in
    let alone = tells.answer ∙ ap (λ t. row_in (c.args.first + c.loop-index.index / 7) (c.loop-index.index % 7) c.args.half t [] c.loop-index.self.at) c.loop-index.invariant.0 in
    let here = ap (behind before) alone ∙ sym (row_behind _ _ _ _ before _) in
    rw (p.1, p.2) (record { answer = listed_err _ _ _ _ _ (rows_break _ _ _ _ _ _ _ _ _ c.loop-index-test.true room here ∙ c.loop-index.invariant.3); same = tells.same ∙ c.loop-index.invariant.0; reads = reads_rows })

pub loop-index-preserved : goal.loop-index-preserved
loop-index-preserved c =
    let tells = c.in_ok-row.ensures in
    let out = c.loop-index.out in
    let end = c.loop-index.end in
    let size = c.points-size.result in
    let entry = c.args.out.now in
    let before = take end out in
    let ys = c.row.new.out in
    let long = length-take-le end out c.loop-index.invariant.1 in
    let room : length before + points c.args.half ≤ length entry = omega (arith, c.points-size.ensures) in
    let filled : length ys ≡ size = omega arith in
    let whole : end + size - end ≡ size = omega arith in
    let inside = c.loop-index.invariant.1 in
    let alone = tells.answer ∙ ap (λ t. row_in (c.args.first + c.loop-index.index / 7) (c.loop-index.index % 7) c.args.half t [] c.loop-index.self.at) c.loop-index.invariant.0 in
    let here = ap (behind before) alone ∙ sym (row_behind _ _ _ _ before _) in (
      tells.same ∙ c.loop-index.invariant.0,
      filled_long end size _ out ys inside filled whole,
      filled_rest end size _ out ys inside filled whole ∙ sym (drop-drop size end out) ∙ ap (drop size) c.loop-index.invariant.2 ∙ drop-drop size end entry,
      ap (λ ps. rows_in c.args.first c.args.half c.args.self.now.text.now (length entry) (c.args.count - (c.loop-index.index + 1)) (c.loop-index.index + 1) ps c.row.new.self.at) (filled_front end size _ out ys inside filled whole)
          ∙ rows_more _ _ _ _ _ _ _ _ _ _ c.loop-index-test.true room here ∙ c.loop-index.invariant.3,
    )

pub returns : goal.returns
returns c =
    let out = c.loop-index.out in
    let end = c.loop-index.end in
    let long = length-take-le end out c.loop-index.invariant.1 in
    record {
      answer = listed_ok _ (take end out) _ _ _ _ (rows_end _ _ _ _ _ _ _ _ c.loop-index-test.false ∙ c.loop-index.invariant.3) (sym long) (sym (take-append-drop end out) ∙ ap (λ l. take end out ++ l) (c.loop-index.invariant.2 ∙ ap (λ n. drop n c.args.out.now) (sym long)));
      same = c.loop-index.invariant.0;
      reads = reads_rows;
    }
