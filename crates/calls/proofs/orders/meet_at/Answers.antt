use Rattle.std.proofs.Common.{◌≡◌, suc, ◌≤◌, ◌++◌, get_or, take, drop, nat_abs, vec_items, ap, ◌∙◌}
use Rattle.std.proofs.lemmas.List.{get_or_read, get_or-set_same}
use Rattle.account.specs.declared.orders.Order.{Order}
use Rattle.account.specs.declared.orders.Event.{Event}
use Rattle.account.specs.Orders.{SmallEvent, order_after, kept}
use Rattle.calls.specs.Accounts.{none_open}
use Rattle.calls.proofs.Places.{changed_settled}
use Rattle.calls.proofs.Signs.{back, left_small}
use Rattle.calls.proofs.orders.meet_at.Goals as goal

left-is-small : (event : Event) (o : Order) → nat_abs o.rest.left ≤ 10000 → SmallEvent event → nat_abs (order_after event o).rest.left ≤ 20000
unfolding order_after
left-is-small event o h k = left_small event o.rest.left h k

pub returns : goal.returns
returns c =
    let orders = vec_items c.args.orders.now in
    let place = c.args.place in
    let read = get_or_read orders place c.index_mut.result.now c.requires.place c.index_mut.ensures.value none_open in
    let met : c.meet.new.order ≡ order_after c.args.event (get_or orders place none_open) = c.meet.ensures ∙ ap (order_after c.args.event) read in
    let again : c.index.result.now ≡ c.meet.new.order = c.index.ensures ∙ get_or-set_same orders place c.meet.new.order _ c.requires.place in
    let left : c.index.result.now.rest.left ≡ (order_after c.args.event (get_or orders place none_open)).rest.left = ap (λ (o : Order). o.rest.left) (again ∙ met) in
    record {
      items = c.settle.ensures.items ∙ changed_settled none_open orders place c.meet.new.order c.requires.place ∙ ap (λ (o : Order). take place orders ++ kept o (drop (suc place) orders)) met;
      capacity = c.settle.ensures.capacity;
      left = c.unsigned_abs-left.ensures.value ∙ ap nat_abs (back c.index.result.now.rest.left (rw left (left-is-small c.args.event (get_or orders place none_open) c.requires.small c.requires.event)) ∙ left);
    }
