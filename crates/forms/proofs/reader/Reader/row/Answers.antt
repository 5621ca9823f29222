use Rattle.std.proofs.Common.{[], sym, ap, ◌∙◌}
use Rattle.forms.specs.Fields.{Asked}
use Rattle.forms.specs.Reads.{inner_in, close_in}
use Rattle.forms.specs.Rows.{added, prices_asked, row_in}
use Rattle.forms.proofs.Told.{then_ok, then_err, then_last, stopped_list}
use Rattle.forms.proofs.reader.Reader.row.Goals as goal

pub inner_numbers-requires : goal.inner_numbers-requires
inner_numbers-requires c = c.requires ∙ ap (λ (a : Asked). a.count) (sym c.prices_of.ensures)

pub returns-in_err-row_front : goal.returns-in_err-row_front
unfolding row_in
returns-in_err-row_front c =
    let tells = c.in_err-row_front.ensures in
    stopped_list _ _ _ c.from_residual.ensures.1 (record { answer = then_err _ _ _ tells.answer; same = tells.same })

pub returns-in_err-inner_numbers : goal.returns-in_err-inner_numbers
unfolding row_in
returns-in_err-inner_numbers c =
    let first = c.in_ok-row_front.ensures in
    let tells = c.in_err-inner_numbers.ensures in
    let at = c.row_front.new.self.at in
    let next = tells.answer ∙ ap (λ a. inner_in added a c.row_front.new.self.text.now [] at) c.prices_of.ensures ∙ ap (λ t. inner_in added (prices_asked c.args.half c.args.column) t [] at) first.same in
    stopped_list _ _ _ c.from_residual-in_err-inner_numbers.ensures.1 (record { answer = then_ok _ _ _ _ _ first.answer (then_err _ _ _ next); same = tells.same ∙ first.same })

pub returns : goal.returns
unfolding row_in
returns c =
    let first = c.in_ok-row_front.ensures in
    let second = c.in_ok-inner_numbers.ensures in
    let at = c.row_front.new.self.at in
    let prices = second.answer ∙ ap (λ a. inner_in added a c.row_front.new.self.text.now [] at) c.prices_of.ensures ∙ ap (λ t. inner_in added (prices_asked c.args.half c.args.column) t [] at) first.same in
    let tells = c.close_line.ensures in
    let next = tells.answer ∙ ap (λ t. close_in t c.inner_numbers.new.self.at) (second.same ∙ first.same) in
    record { answer = then_ok _ _ _ _ _ first.answer (then_ok _ _ _ _ _ prices (then_last _ _ _ _ next)); same = tells.same ∙ second.same ∙ first.same }
