use Rattle.std.proofs.Common.{◌≡◌, ◌≤◌, Bool, true, ltb, List, [], ◌∷◌, map, length, nat_abs, vec_items, sym, ap, ◌∙◌, zero-le, arith}
use lib.ListN.{length-map}
use Rattle.std.proofs.lemmas.List.{length-append}
use Rattle.std.proofs.lemmas.Bool.{lt-ltb}
use Rattle.terms.specs.Checks.{unless}
use Rattle.terms.specs.declared.refusal.Refusal.TheVariants.{OrdersFull}
use Rattle.margin.specs.declared.book.Open.{Open}
use Rattle.cells.specs.Empty.{no_order}
use Rattle.margin.specs.Book.{Book}
use Rattle.calls.specs.Accounts.{state_of, rest_of, book_with, trial_checks, judged}
use Rattle.calls.proofs.Copies.{front_is, one_added, more_at}
use Rattle.calls.proofs.Kept.{bounded}
use Rattle.calls.proofs.Sizes.{left_at, limit_at}
use Rattle.calls.proofs.accounts.Account.check_with_book.Goals as goal

-- the orders on trial
pub book_with-book-requires : goal.book_with-book-requires
book_with-book-requires g c =
    let a = c.args.self.now in
    let s = state_of g.B.Bank.meaning a in
    let b = bounded g.B.Bank.meaning a in
    let front = front_is rest_of (vec_items a.orders) _ c.rests-trial.result c.len-count.result c.deref.ensures.value (omega (arith, c.len-count.ensures, a.orders.ok.0)) c.rests-trial.ensures.value in
    let trial = one_added c.rests-trial.result (map rest_of s.orders) c.len-count.result c.args.order (omega (arith, c.rests-trial.ensures.long)) front in
    record {
      few = rw trial (rw (length-append (map rest_of s.orders) (c.args.order ∷ []), length-map s.orders rest_of) (omega (arith, c.len-count.ensures, a.orders.ok.0)));
      lefts = λ i. rw trial (more_at (λ o. nat_abs o.left ≤ 10000) no_order (map rest_of s.orders) c.args.order zero-le (left_at s b) c.requires.left i);
      limits = λ i. rw trial (more_at (λ o. nat_abs o.limit ≤ 10000000) no_order (map rest_of s.orders) c.args.order zero-le (limit_at s b) c.requires.limit i);
    }

pub check_trial-requires-clause-book : goal.check_trial-requires-clause-book
check_trial-requires-clause-book g c = rw (ap (λ (b : Book). length b.positions) c.book_with-book.ensures) c.requires.line

pub returns : goal.returns
returns g c =
    let a = c.args.self.now in
    let s = state_of g.B.Bank.meaning a in
    let o = c.args.order in
    let front = front_is rest_of (vec_items a.orders) _ c.rests-trial.result c.len-count.result c.deref.ensures.value (omega (arith, c.len-count.ensures, a.orders.ok.0)) c.rests-trial.ensures.value in
    let trial = one_added c.rests-trial.result (map rest_of s.orders) c.len-count.result o (omega (arith, c.rests-trial.ensures.long)) front in
    let room : ltb (length s.orders) 32 ≡ true = lt-ltb (length s.orders) 32 (omega (arith, c.len-count.ensures, a.orders.ok.0)) in
    c.check_trial.ensures
    ∙ ap (λ (b : Book). judged (trial_checks s b o.line (nat_abs o.left))) c.book_with-book.ensures
    ∙ ap (λ (os : List Open). judged (trial_checks s (record { positions = s.positions; orders = os }) o.line (nat_abs o.left))) trial
    ∙ ap (λ (t : Bool). judged (unless t OrdersFull ∷ trial_checks s (book_with s o) o.line (nat_abs o.left))) (sym room)
