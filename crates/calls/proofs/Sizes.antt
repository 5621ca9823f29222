-- How large the numbers of an account in bounds are at every place, those beyond its lists being 0.
use Rattle.std.proofs.Common.{◌≡◌, ℕ, zero, suc, ◌<◌, ◌≤◌, List, [], ◌∷◌, map, length, get_or, nat_abs, sym, refl, ap, subst, ⊎_elim, zero-le, arith}
use Rattle.std.specs.List.{AllByRecursion}
use Rattle.std.proofs.lemmas.List.{get_or_past}
use Rattle.std.proofs.lemmas.Bool.{cases_lt}
use Rattle.margin.specs.declared.book.Position.{Position}
use Rattle.cells.specs.Empty.{no_position, no_order}
use Rattle.account.specs.declared.orders.Order.{Order}
use Rattle.account.specs.Account.{State}
use Rattle.account.specs.Bounds.{InBounds, OrderInBounds}
use Rattle.account.proofs.Lines.{in_size}
use Rattle.account.proofs.Bounded.{in_bounds_is_small}
use Rattle.calls.specs.Accounts.{rest_of}

-- what is small at each line is small everywhere
everywhere : (s : State) (size : Position → ℕ) (most : ℕ) → size no_position ≡ 0 → ((l : ℕ) → l < length s.positions → size (get_or s.positions l no_position) ≤ most) → (l : ℕ) → size (get_or s.positions l no_position) ≤ most
everywhere s size most none some l = ⊎_elim (some l) (λ past. subst (λ (n : ℕ). n ≤ most) (sym (ap size (get_or_past s.positions l no_position past))) (rw none zero-le)) (cases_lt l (length s.positions))

module _ (s : State) (b : InBounds s) where
  pub net_at : (l : ℕ) → nat_abs (get_or s.positions l no_position).net ≤ 10000
  net_at = everywhere s (λ p. nat_abs p.net) 10000 refl (λ l less. (in_bounds_is_small s b l (rw (sym b.a_position_a_line) less)).net_small)

  pub cost_at : (l : ℕ) → nat_abs (get_or s.positions l no_position).cost ≤ 72057594037927936
  cost_at = everywhere s (λ p. nat_abs p.cost) 72057594037927936 refl (λ l less. let h = (in_bounds_is_small s b l (rw (sym b.a_position_a_line) less)).cost_small in omega arith)

opens_at : (lines next : ℕ) (orders : List Order) → AllByRecursion (OrderInBounds lines next) orders → (i : ℕ) → (nat_abs (get_or (map rest_of orders) i no_order).left ≤ 10000) × (nat_abs (get_or (map rest_of orders) i no_order).limit ≤ 10000000)
opens_at lines next [] all i = (zero-le, zero-le)
opens_at lines next (o ∷ os) all zero = (all.0.not_much_left, in_size o.rest.limit 10000000 all.0.limit_low all.0.limit_high)
opens_at lines next (o ∷ os) all (suc i) = opens_at lines next os all.1 i

module _ (s : State) (b : InBounds s) where
  pub left_at : (i : ℕ) → nat_abs (get_or (map rest_of s.orders) i no_order).left ≤ 10000
  left_at i = (opens_at _ _ s.orders b.each_order i).0

  pub limit_at : (i : ℕ) → nat_abs (get_or (map rest_of s.orders) i no_order).limit ≤ 10000000
  limit_at i = (opens_at _ _ s.orders b.each_order i).1
