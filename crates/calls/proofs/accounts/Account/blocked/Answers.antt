use Rattle.std.proofs.Common.{List, vec_items, sym, ap, ◌∙◌, subst, arith}
use lib.ListN.{length-map}
use Rattle.std.proofs.lemmas.List.{length-take-le}
use Rattle.margin.specs.declared.book.Open.{Open}
use Rattle.margin.specs.Book.{Book}
use Rattle.calls.specs.Accounts.{state_of, rest_of}
use Rattle.calls.specs.Blockings.{BlockedFor}
use Rattle.calls.proofs.Copies.{front_is}
use Rattle.calls.proofs.Kept.{bounded}
use Rattle.calls.proofs.Sizes.{left_at, limit_at}
use Rattle.calls.proofs.accounts.Account.blocked.Goals as goal

pub rests-rests-requires : goal.rests-rests-requires
rests-rests-requires g c = rw c.deref.ensures.value (bounded g.B.Bank.meaning c.args.self.now).few_orders

pub slice_bounds-rests-end : goal.slice_bounds-rests-end
slice_bounds-rests-end g c =
    let few = (bounded g.B.Bank.meaning c.args.self.now).few_orders in
    omega (arith, c.rests-rests.ensures.long, c.len.ensures, c.args.self.now.orders.ok.0)

pub slice_bounds-book_with-end : goal.slice_bounds-book_with-end
slice_bounds-book_with-end g c =
    let few = (bounded g.B.Bank.meaning c.args.self.now).few_orders in
    sym (length-take-le c.len.result c.rests-rests.result (omega (arith, c.rests-rests.ensures.long, c.len.ensures, c.args.self.now.orders.ok.0)))

pub book_with-book-requires : goal.book_with-book-requires
book_with-book-requires g c =
    let a = c.args.self.now in
    let s = state_of g.B.Bank.meaning a in
    let b = bounded g.B.Bank.meaning a in
    let rests = front_is rest_of (vec_items a.orders) _ c.rests-rests.result c.len.result c.deref.ensures.value (omega (arith, c.len.ensures, a.orders.ok.0)) c.rests-rests.ensures.value in
    record {
      few = rw rests (rw (length-map s.orders rest_of) b.few_orders);
      lefts = λ i. rw rests (left_at s b i);
      limits = λ i. rw rests (limit_at s b i);
    }

pub returns : goal.returns
returns g c =
    let a = c.args.self.now in
    let s = state_of g.B.Bank.meaning a in
    let rests = front_is rest_of (vec_items a.orders) _ c.rests-rests.result c.len.result c.deref.ensures.value (omega (arith, c.len.ensures, a.orders.ok.0)) c.rests-rests.ensures.value in
    let book = c.book_with-book.ensures ∙ ap (λ (os : List Open). record { positions = s.positions; orders = os }) rests in
    let parts = subst (λ (b : Book). BlockedFor s.bank s.cards b c.margin.result) book (record { amount_is = c.margin.ensures.amount; losses_are = c.margin.ensures.losses; worsts_are = c.margin.ensures.worsts; costliest_is = c.margin.ensures.costliest; world_is = c.margin.ensures.world }) in
    record { amount = parts.amount_is; parts = parts }
