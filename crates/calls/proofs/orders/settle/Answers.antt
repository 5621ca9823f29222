use Rattle.std.proofs.Common.{◌≡◌, true, false, get_or, vec_items, sym, refl, ap, ◌∙◌}
use Rattle.std.proofs.lemmas.List.{get_or_read}
use Rattle.account.specs.declared.orders.Order.{Order}
use Rattle.account.specs.Orders.{is_gone}
use Rattle.calls.specs.Accounts.{none_open}
use Rattle.calls.proofs.Places.{gone_is, gone_leaves, open_stays}
use Rattle.calls.proofs.orders.settle.Goals as goal

pub returns-then-eq : goal.returns-then-eq
returns-then-eq c =
    let orders = vec_items c.args.orders.now in
    let read = get_or_read orders c.args.place c.index.result.now c.requires c.index.ensures none_open in
    let gone : is_gone (get_or orders c.args.place none_open).state ≡ true = ap (λ (o : Order). is_gone o.state) (sym read) ∙ sym (gone_is c.index.result.now.state) ∙ sym c.eq.ensures ∙ c.if-eq.true in
    record { items = c.remove.ensures.items ∙ gone_leaves orders c.args.place (get_or orders c.args.place none_open) gone; capacity = c.remove.ensures.capacity }

pub returns-else-eq : goal.returns-else-eq
returns-else-eq c =
    let orders = vec_items c.args.orders.now in
    let read = get_or_read orders c.args.place c.index.result.now c.requires c.index.ensures none_open in
    let still : is_gone (get_or orders c.args.place none_open).state ≡ false = ap (λ (o : Order). is_gone o.state) (sym read) ∙ sym (gone_is c.index.result.now.state) ∙ sym c.eq.ensures ∙ c.if-eq.false in
    record { items = open_stays none_open orders c.args.place c.requires still; capacity = refl }
