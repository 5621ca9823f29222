use Rattle.std.proofs.Common.{◌*◌, [], length, sym, refl, ap, ◌∙◌, arith}
use Rattle.forms.specs.Rows.{rows_in}
use Rattle.forms.proofs.Told.{then_ok, then_err}
use Rattle.forms.proofs.RowTurns.{listed_yes, listed_no}
use Rattle.load.specs.Days.{contents_of, lengths_of}
use Rattle.load.specs.Reading.{over, contracts_in}
use Rattle.load.proofs.Parts.{prices_long, read_ok, read_err, read_yes, read_no, stopped_part}
use Rattle.load.proofs.Rooms.{lines_room}
use Rattle.load.proofs.reading.contracts.Goals as goal

pub returns-in_err-futures : goal.returns-in_err-futures
unfolding contracts_in
returns-in_err-futures c =
    let tells = c.in_err-futures.ensures in
    stopped_part _ _ c.from_residual.ensures.1 (record { answer = read_err _ _ _ _ _ _ _ (then_err _ _ _ (read_no _ _ _ _ _ _ _ tells.answer)); long = tells.long; same = tells.same })

pub overflow_mul-options : goal.overflow_mul-options
overflow_mul-options c =
    let lines = read_yes _ _ _ _ _ _ _ c.in_ok-futures.ensures.answer in
    let few = lines_room (lengths_of (contents_of c.args.lists.now)) c.args.reader.now.text.now lines.0 c.args.reader.now.at c.lines.new.reader.at (sym lines.1) in
    let options = ap (λ n. n.1) lines.2 in
    omega (arith, few, options, c.requires)

pub returns-in_err-prices : goal.returns-in_err-prices
unfolding contracts_in
returns-in_err-prices c =
    let first = c.in_ok-futures.ensures in
    let lines = read_yes _ _ _ _ _ _ _ first.answer in
    let tells = c.in_err-prices.ensures in
    let at = c.lines.new.reader.at in
    let half = c.args.half in
    let next =
    listed_no _ _ _ _ _ tells.answer
    ∙ (λ i. rows_in (lines.2 i).0 half (first.same i) (length (lines.3 i).prices) (7 * (lines.2 i).1) 0 [] at)
    in
    stopped_part _ _ c.from_residual-in_err-prices.ensures.1 (record { answer = read_err _ _ _ _ _ _ _ (then_ok _ _ _ _ _ lines.1 (then_err _ _ _ next)); long = prices_long _ _ _ first.long (omega arith); same = tells.same ∙ first.same })

pub returns : goal.returns
unfolding contracts_in
returns c =
    let first = c.in_ok-futures.ensures in
    let lines = read_yes _ _ _ _ _ _ _ first.answer in
    let tells = c.in_ok-prices.ensures in
    let prices = listed_yes _ _ _ _ _ tells.answer in
    let at = c.lines.new.reader.at in
    let half = c.args.half in
    let next = prices.1 ∙ (λ i. rows_in (lines.2 i).0 half (first.same i) (length (lines.3 i).prices) (7 * (lines.2 i).1) 0 [] at) in
    let whole = prices.3 ∙ ap (λ k. over prices.0 k.prices) lines.3 in
    record {
      answer =
          read_ok _ _ _ _ _ _ (lines.0.0, lines.0.1, prices.0) _
          (then_ok _ _ _ _ _ lines.1 (then_ok _ _ _ _ _ next refl))
          (λ i. ((lines.2 i).0, (lines.2 i).1, prices.2 i))
          (λ i. record { families = (lines.3 i).families; baskets = (lines.3 i).baskets; months = (lines.3 i).months; lines = (lines.3 i).lines; prices = whole i; held = (lines.3 i).held; orders = (lines.3 i).orders });
      long = prices_long _ _ _ first.long (omega arith);
      same = tells.same ∙ first.same;
    }
