use Rattle.std.proofs.Common.{◌≡◌, ℕ, ◌*◌, ◌^◌, ◌≤◌, ℤ, nat_abs}
use Rattle.margin.specs.Book.{in_basket}
use Rattle.margin.specs.Sums.{total}
use Rattle.layers.specs.Scenes.{cards_of}
use Rattle.layers.proofs.fitted.Fitted.sum_over.Given as goal

abbrev pub invariant-loop-m : goal.invariant-loop-m
invariant-loop-m g l = record {
  value : (row : ℕ → ℤ) → ((m : ℕ) (r : ℤ) → goal.F-post g l.gives m r → r ≡ row m) → l.sum ≡ total l.m (in_basket (cards_of l.self.scene) l.b) row;
  size : nat_abs l.sum ≤ l.m * 2 ^ 72;
}
