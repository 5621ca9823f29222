use Rattle.std.proofs.Common.{◌≡◌, ◌*◌, ◌^◌, ◌≤◌, nat_abs}
use Rattle.margin.specs.Book.{in_family}
use Rattle.margin.specs.Sums.{total}
use Rattle.layers.specs.Scenes.{cards_of, basket_part}
use Rattle.layers.proofs.rows.BasketRows.family_result.Given as goal

abbrev pub invariant-loop-b : goal.invariant-loop-b
invariant-loop-b l = record {
  value : l.sum ≡ total l.b (in_family (cards_of l.self.fitted.scene) l.f) (λ b. basket_part l.self.fitted.scene l.f l.p b);
  size : nat_abs l.sum ≤ l.b * 2 ^ 76;
}
