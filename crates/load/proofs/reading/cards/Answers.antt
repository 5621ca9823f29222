use Rattle.std.proofs.Common.{length, refl, ap, ◌∙◌, arith}
use Rattle.forms.proofs.Told.{then_ok, then_err}
use Rattle.forms.proofs.RowTurns.{listed_yes, listed_no}
use Rattle.kinds.specs.Formats.{basket_format, month_format}
use Rattle.load.specs.Reading.{some_at, cards_in}
use Rattle.load.proofs.Parts.{all_long, read_ok, read_err, stopped_part}
use Rattle.load.proofs.reading.cards.Goals as goal

pub returns-in_err-families : goal.returns-in_err-families
unfolding cards_in
returns-in_err-families c =
    let tells = c.in_err-families.ensures in
    stopped_part _ _ c.from_residual.ensures.1 (record { answer = read_err _ _ _ _ _ _ _ (then_err _ _ _ (listed_no _ _ _ _ _ tells.answer)); long = all_long (omega arith) refl refl refl refl refl refl; same = tells.same })

pub returns-in_err-baskets : goal.returns-in_err-baskets
unfolding cards_in
returns-in_err-baskets c =
    let first = c.in_ok-families.ensures in
    let families = listed_yes _ _ _ _ _ first.answer in
    let tells = c.in_err-baskets.ensures in
    let next = listed_no _ _ _ _ _ tells.answer ∙ ap (λ t. some_at basket_format t (length c.args.lists.now.baskets.now) c.some.new.reader.at) first.same in
    stopped_part _ _ c.from_residual-in_err-baskets.ensures.1 (record { answer = read_err _ _ _ _ _ _ _ (then_ok _ _ _ _ _ families.1 (then_err _ _ _ next)); long = all_long (omega arith) (omega arith) refl refl refl refl refl; same = tells.same ∙ first.same })

pub returns-in_err-months : goal.returns-in_err-months
unfolding cards_in
returns-in_err-months c =
    let first = c.in_ok-families.ensures in
    let families = listed_yes _ _ _ _ _ first.answer in
    let second = c.in_ok-baskets.ensures in
    let baskets = listed_yes _ _ _ _ _ second.answer in
    let read-baskets = baskets.1 ∙ ap (λ t. some_at basket_format t (length c.args.lists.now.baskets.now) c.some.new.reader.at) first.same in
    let same = second.same ∙ first.same in
    let tells = c.in_err-months.ensures in
    let next = listed_no _ _ _ _ _ tells.answer ∙ ap (λ t. some_at month_format t (length c.args.lists.now.months.now) c.some-2.new.reader.at) same in
    stopped_part _ _ c.from_residual-in_err-months.ensures.1 (record { answer = read_err _ _ _ _ _ _ _ (then_ok _ _ _ _ _ families.1 (then_ok _ _ _ _ _ read-baskets (then_err _ _ _ next))); long = all_long (omega arith) (omega arith) (omega arith) refl refl refl refl; same = tells.same ∙ same })

pub returns : goal.returns
unfolding cards_in
returns c =
    let first = c.in_ok-families.ensures in
    let families = listed_yes _ _ _ _ _ first.answer in
    let second = c.in_ok-baskets.ensures in
    let baskets = listed_yes _ _ _ _ _ second.answer in
    let read-baskets = baskets.1 ∙ ap (λ t. some_at basket_format t (length c.args.lists.now.baskets.now) c.some.new.reader.at) first.same in
    let same = second.same ∙ first.same in
    let third = c.in_ok-months.ensures in
    let months = listed_yes _ _ _ _ _ third.answer in
    let read-months = months.1 ∙ ap (λ t. some_at month_format t (length c.args.lists.now.months.now) c.some-2.new.reader.at) same in
    let lists = c.args.lists.now in
    record {
      answer =
          read_ok _ _ _ _ _ _ (families.0, baskets.0, months.0) _
          (then_ok _ _ _ _ _ families.1 (then_ok _ _ _ _ _ read-baskets (then_ok _ _ _ _ _ read-months refl)))
          (λ i. (families.2 i, baskets.2 i, months.2 i))
          (λ i. record { families = families.3 i; baskets = baskets.3 i; months = months.3 i; lines = lists.lines.now; prices = lists.prices.now; held = lists.held.now; orders = lists.orders.now });
      long = all_long (omega arith) (omega arith) (omega arith) refl refl refl refl;
      same = third.same ∙ same;
    }
