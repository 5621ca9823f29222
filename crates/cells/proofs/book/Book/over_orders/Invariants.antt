use Rattle.std.proofs.Common.{◌≡◌, ℕ, ◌*◌, ◌≤◌, ℤ, nat_abs}
use Rattle.margin.specs.Book.{order, of_line}
use Rattle.margin.specs.Sums.{total}
use Rattle.margin.specs.declared.book.Open.{Open}
use Rattle.cells.specs.Books.{book_of}
use Rattle.cells.specs.declared.open_order.OpenOrder.{OpenOrder}
use Rattle.cells.proofs.book.Book.over_orders.Given as goal

abbrev pub invariant-loop-open : goal.invariant-loop-open
invariant-loop-open g l = record {
  value : (p : Open → ℤ) → ((o : OpenOrder) (r : ℤ) → g.F.Fn.post l.part (o, tt) r → r ≡ p o.open) → l.sum ≡ total l.open-index (of_line (book_of l.self) l.line) (λ i. p (order (book_of l.self) i));
  size : (most : ℕ) → ((o : OpenOrder) (r : ℤ) → g.F.Fn.post l.part (o, tt) r → nat_abs r ≤ most) → nat_abs l.sum ≤ l.open-index * most;
}
