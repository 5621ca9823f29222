use Rattle.std.proofs.Common.{ℕ, ◌≤◌, ℤ, sym, refl, ◌∙◌, zero-le, arith, rules}
use Rattle.std.proofs.lemmas.Int.{ints}
use Rattle.margin.specs.Book.{in_month}
use Rattle.margin.specs.Sums.{total}
use Rattle.deck.specs.Decks.{deck_cards}
use Rattle.cells.specs.Books.{book_of}
use Rattle.cells.specs.Shares.{line_share}
use Rattle.cells.proofs.Sizes.{total_taken, total_passed}
use Rattle.cells.proofs.desk.Desk.month_cell.Goals as goal
use Rattle.cells.proofs.desk.Desk.month_cell.Goals.{then-names, else-names}

pub loop-line-init : goal.loop-line-init
unfolding total
loop-line-init g c = record { value = refl; size = zero-le }

pub loop-line-preserved : goal.loop-line-preserved
unfolding in_month
loop-line-preserved g c =
    let desk = c.args.self.now in
    let cards = deck_cards desk.deck.now in
    let n = c.loop-line.line in
    let few : n ≤ 15 = omega (arith, desk.deck.now.few_lines) in
    let test = in_month cards c.args.m in
    let part : ℕ → ℤ = λ n. line_share desk.last (g.B.Bank.meaning desk.bank.now).price cards (book_of desk.book) n c.args.p c.args.k in
    let before = c.loop-line.invariant.value in
    let so_far = c.loop-line.invariant.size in
    elim c.if-names.branch [
      | then-names w ↦ (let more = total_taken n test part w.line.result (search rules) w.line.ensures.value in let size = w.line.ensures.size in let is = w.sum-is in let was = w.from-sum.ensures in record { value = omega (arith, ints); size = omega (arith, ints) })
      | else-names w ↦ (let more = total_passed n test part (search rules) in record { value = w.sum-is ∙ before ∙ sym more; size = rw w.sum-is (omega (arith, so_far)) })
    ]
