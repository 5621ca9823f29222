use Rattle.std.proofs.Common.{leb, length, Err, refl, ap, ◌∙◌, arith}
use Rattle.terms.specs.declared.refusal.Refusal.TheVariants.{WrongForm}
use Rattle.forms.proofs.Told.{then_ok, then_err, given_yes, given_no}
use Rattle.forms.proofs.RowTurns.{listed_yes, listed_no}
use Rattle.kinds.specs.Formats.{order_format}
use Rattle.load.specs.Reading.{any_at, end_in, book_in}
use Rattle.load.proofs.Parts.{all_long, read_ok, read_err, stopped_part}
use Rattle.load.proofs.reading.book.Goals as goal

pub returns-in_err-held : goal.returns-in_err-held
unfolding book_in
returns-in_err-held c =
    let tells = c.in_err-held.ensures in
    stopped_part _ _ c.from_residual.ensures.1 (record { answer = read_err _ _ _ _ _ _ _ (then_err _ _ _ (listed_no _ _ _ _ _ tells.answer)); long = all_long refl refl refl refl refl (omega arith) refl; same = tells.same })

pub returns-in_err-orders : goal.returns-in_err-orders
unfolding book_in
returns-in_err-orders c =
    let first = c.in_ok-held.ensures in
    let held = listed_yes _ _ _ _ _ first.answer in
    let tells = c.in_err-orders.ensures in
    let next = listed_no _ _ _ _ _ tells.answer ∙ ap (λ t. any_at order_format t (length c.args.lists.now.orders.now) c.list.new.self.at) first.same in
    stopped_part _ _ c.from_residual-in_err-orders.ensures.1 (record { answer = read_err _ _ _ _ _ _ _ (then_ok _ _ _ _ _ held.1 (then_err _ _ _ next)); long = all_long refl refl refl refl refl (omega arith) (omega arith); same = tells.same ∙ first.same })

pub returns-then-is_at_end : goal.returns-then-is_at_end
unfolding book_in end_in
returns-then-is_at_end c =
    let first = c.in_ok-held.ensures in
    let held = listed_yes _ _ _ _ _ first.answer in
    let second = c.in_ok-orders.ensures in
    let orders = listed_yes _ _ _ _ _ second.answer in
    let same = second.same ∙ first.same in
    let next = orders.1 ∙ ap (λ t. any_at order_format t (length c.args.lists.now.orders.now) c.list.new.self.at) first.same in
    let ends = c.if-is_at_end.ensures ∙ ap (λ t. leb (length t) c.list-2.new.self.at) same in
    let lists = c.args.lists.now in
    record {
      answer =
          read_ok _ _ _ _ _ _ (held.0, orders.0) _
          (then_ok _ _ _ _ _ held.1 (then_ok _ _ _ _ _ next (then_ok _ _ _ _ _ (given_yes _ _ _ _ ends refl) refl)))
          (λ i. (held.2 i, orders.2 i))
          (λ i. record { families = lists.families.now; baskets = lists.baskets.now; months = lists.months.now; lines = lists.lines.now; prices = lists.prices.now; held = held.3 i; orders = orders.3 i });
      long = all_long refl refl refl refl refl (omega arith) (omega arith);
      same = same;
    }

pub returns-else-is_at_end : goal.returns-else-is_at_end
unfolding book_in end_in
returns-else-is_at_end c =
    let first = c.in_ok-held.ensures in
    let held = listed_yes _ _ _ _ _ first.answer in
    let second = c.in_ok-orders.ensures in
    let orders = listed_yes _ _ _ _ _ second.answer in
    let same = second.same ∙ first.same in
    let next = orders.1 ∙ ap (λ t. any_at order_format t (length c.args.lists.now.orders.now) c.list.new.self.at) first.same in
    let more = c.if-is_at_end.ensures ∙ ap (λ t. leb (length t) c.list-2.new.self.at) same in
    record {
      answer = read_err _ _ _ _ _ _ _ (then_ok _ _ _ _ _ held.1 (then_ok _ _ _ _ _ next (then_err _ _ _ (ap (λ n. Err (WrongForm n)) c.place.ensures ∙ given_no _ _ _ more))));
      long = all_long refl refl refl refl refl (omega arith) (omega arith);
      same = same;
    }
