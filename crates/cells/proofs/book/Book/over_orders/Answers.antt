use Rattle.std.proofs.Common.{◌≡◌, ◌≤◌, length, ◌+ℤ◌, sym, refl, ap, ◌∙◌, zero-le, arith, w64, to_z, rules}
use Rattle.std.proofs.lemmas.Int.{ints}
use Rattle.margin.specs.Sums.{total}
use Rattle.margin.specs.Book.{order, of_line}
use Rattle.cells.specs.Books.{book_of}
use Rattle.cells.proofs.Sizes.{one_more, part_more, none_more, parts_end, total_taken, total_passed}
use Rattle.cells.proofs.book.Book.over_orders.Goals as goal
use Rattle.cells.proofs.book.Book.over_orders.Goals.{then-order-line, else-order-line}

pub loop-open-init : goal.loop-open-init
unfolding total
loop-open-init g c = record { value = λ p each. refl; size = λ most each. zero-le }

pub overflow_add-sum : goal.overflow_add-sum
overflow_add-sum g c =
    let few : c.loop-open.open-index ≤ 31 = omega (arith, c.args.self.now.few_orders) in
    let sum = c.loop-open.invariant.size 28000000000000000 c.requires.small in
    let one = c.requires.small _ _ c.part-sum.ensures in
    omega (arith, ints)

pub loop-open-preserved : goal.loop-open-preserved
unfolding of_line
loop-open-preserved g c =
    let book = book_of c.args.self.now in
    let i = c.loop-open.open-index in
    let few : i ≤ 31 = omega (arith, c.args.self.now.few_orders) in
    let most = c.loop-open.invariant.size 28000000000000000 c.requires.small in
    elim c.if-order-line.branch [
      | then-order-line w ↦ (let one = c.requires.small _ _ w.part-sum.ensures in let new = w.sum-is ∙ one_more _ w.part-sum.result _ _ refl refl (omega (arith, most)) (omega (arith, one)) in record {
        value = λ p each. new ∙ ap (λ z. z +ℤ w.part-sum.result) (c.loop-open.invariant.value p each) ∙ sym (total_taken i (of_line book c.args.line) (λ i. p (order book i)) w.part-sum.result (search rules) (each _ _ w.part-sum.ensures));
        size = λ most each. part_more i most (to_z w64 c.loop-open.sum-bits) w.part-sum.result _ new (c.loop-open.invariant.size most each) (each _ _ w.part-sum.ensures);
      })
      | else-order-line w ↦ record {
        value = λ p each. w.sum-is ∙ c.loop-open.invariant.value p each ∙ sym (total_passed i (of_line book c.args.line) (λ i. p (order book i)) (search rules));
        size = λ most each. rw w.sum-is (none_more i most (to_z w64 c.loop-open.sum-bits) (c.loop-open.invariant.size most each));
      }
    ]

pub returns : goal.returns
returns g c =
    let ended : c.loop-open.open-index ≡ length c.args.self.now.orders.now = omega arith in
    record {
      value = λ p each. rw ended at (c.loop-open.invariant.value p each);
      size = λ most each. rw c.loop-open.sum-is (parts_end c.loop-open.open-index most c.loop-open.sum (omega (arith, c.args.self.now.few_orders)) (rw c.loop-open.sum-is at (c.loop-open.invariant.size most each)));
    }
