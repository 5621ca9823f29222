use Rattle.std.proofs.Common.{◌≡◌, ◌-◌, length, take, drop, sym, refl, ap, ◌∙◌, arith, length-append}
use Rattle.forms.proofs.Told.{then_ok, then_err}
use Rattle.forms.proofs.RowTurns.{listed_yes, listed_no}
use Rattle.kinds.specs.Formats.{option_format}
use Rattle.load.specs.Reading.{over, any_at, lines_in}
use Rattle.load.proofs.Parts.{all_long, read_ok, read_err, stopped_part}
use Rattle.load.proofs.Rooms.{take_over, drop_over, over_both}
use Rattle.load.proofs.reading.lines.Goals as goal

pub returns-in_err-futures : goal.returns-in_err-futures
unfolding lines_in
returns-in_err-futures c =
    let tells = c.in_err-futures.ensures in
    stopped_part _ _ c.from_residual.ensures.1 (record { answer = read_err _ _ _ _ _ _ _ (then_err _ _ _ (listed_no _ _ _ _ _ tells.answer)); long = all_long refl refl refl (omega arith) refl refl refl; same = tells.same })

pub options_behind-requires : goal.options_behind-requires
options_behind-requires c =
    let futures = listed_yes _ _ _ _ _ c.in_ok-futures.ensures.answer in
    omega (arith, futures.2, ap length futures.3, length-append futures.0 (drop (length futures.0) c.args.lists.now.lines.now))

pub returns-in_err-options : goal.returns-in_err-options
unfolding lines_in
returns-in_err-options c =
    let first = c.in_ok-futures.ensures in
    let futures = listed_yes _ _ _ _ _ first.answer in
    let tells = c.in_err-options.ensures.behind in
    let at = c.some.new.reader.at in
    let room : length c.some.new.out - c.in_ok-futures.futures ≡ length c.args.lists.now.lines.now - length futures.0 = omega (arith, futures.2) in
    let next = listed_no _ _ _ _ _ tells.answer ∙ ap (λ n. any_at option_format c.some.new.reader.text.now n at) room ∙ ap (λ t. any_at option_format t (length c.args.lists.now.lines.now - length futures.0) at) first.same in
    stopped_part _ _ c.from_residual-in_err-options.ensures.1 (record { answer = read_err _ _ _ _ _ _ _ (then_ok _ _ _ _ _ futures.1 (then_err _ _ _ next)); long = all_long refl refl refl (omega arith) refl refl refl; same = tells.same ∙ first.same })

pub returns : goal.returns
unfolding lines_in
returns c =
    let first = c.in_ok-futures.ensures in
    let futures = listed_yes _ _ _ _ _ first.answer in
    let tells = c.in_ok-options.ensures.behind in
    let options = listed_yes _ _ _ _ _ tells.answer in
    let at = c.some.new.reader.at in
    let lists = c.args.lists.now in
    let before = lists.lines.now in
    let between = c.some.new.out in
    let after = c.options_behind.new.lines in
    let count = length futures.0 in
    let room : length between - c.in_ok-futures.futures ≡ length before - count = omega (arith, futures.2) in
    let next = options.1 ∙ ap (λ n. any_at option_format c.some.new.reader.text.now n at) room ∙ ap (λ t. any_at option_format t (length before - count) at) first.same in
    let front = ap (λ n. take n after) (sym futures.2) ∙ c.in_ok-options.ensures.front ∙ ap (λ n. take n between) futures.2 ∙ ap (take count) futures.3 ∙ take_over futures.0 options.0 before in
    let rest = ap (λ n. drop n after) (sym futures.2) ∙ options.3 ∙ ap (over options.0) (ap (λ n. drop n between) futures.2 ∙ ap (drop count) futures.3 ∙ drop_over futures.0 options.0 before) in
    let whole = over_both futures.0 options.0 before after front rest in
    record {
      answer =
          read_ok _ _ _ _ _ _ (futures.0, options.0) _
          (then_ok _ _ _ _ _ futures.1 (then_ok _ _ _ _ _ next refl))
          (λ i. (futures.2 i, options.2 i))
          (λ i. record { families = lists.families.now; baskets = lists.baskets.now; months = lists.months.now; lines = whole i; prices = lists.prices.now; held = lists.held.now; orders = lists.orders.now });
      long = all_long refl refl refl (omega arith) refl refl refl;
      same = tells.same ∙ first.same;
    }
