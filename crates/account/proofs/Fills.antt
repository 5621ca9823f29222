-- What a fill at a price no worse than the limit does to the result of a position and an order, and to what a line may come to.
use Rattle.std.proofs.Common.{◌≡◌, ℕ, Bool, true, false, ℤ, pos, negsuc, ◌+ℤ◌, ◌-ℤ◌, ◌*ℤ◌, neg_ℤ, nat_abs, ◌≤ℤ◌, refl, ap, ◌∙◌, inl, inr, arith}
use lib.IntN.{*ℤ_comm}
use lib.Signed.{le_z}
use Rattle.std.specs.Int.{int_min}
use Rattle.std.proofs.lemmas.Int.{ints, clamps}
use Rattle.margin.specs.declared.book.Position.{Position}
use Rattle.margin.specs.declared.book.Open.{Open}
use Rattle.margin.specs.Cells.{holds_price, position_result, order_result}
use Rattle.margin.proofs.SumLaws.{at_most, not_at_most}
use Rattle.account.specs.Orders.{signed}
use Rattle.account.specs.Account.{moved, no_worse}
use Rattle.margin.proofs.Products.{times_sum, scaled, multiple}
use Rattle.account.proofs.Products.{times_add, times_neg, OneSide, both_times, one_side_times}

-- ---- the contracts that are filled and those that are left are of one side
pub one_side : (q f : ℤ) → pos 1 ≤ℤ f → f ≤ℤ pos (nat_abs q) → OneSide (signed q f) (q -ℤ signed q f)
unfolding signed
one_side q f low high = by (le_z (pos 0) q) refl
  where
    by : (buys : Bool) → le_z (pos 0) q ≡ buys → OneSide (elim buys [ true ↦ f | false ↦ neg_ℤ f ]) (q -ℤ elim buys [ true ↦ f | false ↦ neg_ℤ f ])
    by true e = let h = at_most (pos 0) q e in inl (omega (arith, ints), bought q h high)
      where
        bought : (q : ℤ) → pos 0 ≤ℤ q → f ≤ℤ pos (nat_abs q) → pos 0 ≤ℤ (q -ℤ f)
        bought (pos q) h high = omega (arith, ints)
        bought (negsuc q) h high = absurd (omega (arith, ints))
    by false e = let h = not_at_most (pos 0) q e in inr (omega (arith, ints), sold q h high)
      where
        sold : (q : ℤ) → q ≤ℤ pos 0 → f ≤ℤ pos (nat_abs q) → (q -ℤ neg_ℤ f) ≤ℤ pos 0
        sold (pos q) h high = omega (arith, ints)
        sold (negsuc q) h high = omega (arith, ints)

pub no_worse_side : (o : Open) (f price : ℤ) → pos 1 ≤ℤ f → no_worse o price ≡ true → OneSide (signed o.left f) (o.limit -ℤ price)
unfolding signed no_worse
no_worse_side o f price low = by (le_z (pos 0) o.left)
  where
    by : (buys : Bool) → (elim buys [ true ↦ le_z price o.limit | false ↦ le_z o.limit price ]) ≡ true → OneSide (elim buys [ true ↦ f | false ↦ neg_ℤ f ]) (o.limit -ℤ price)
    by true e = let h = at_most price o.limit e in inl (omega (arith, ints), omega (arith, ints))
    by false e = let h = at_most o.limit price e in inr (omega (arith, ints), omega (arith, ints))

-- ---- results
-- an order's part that counts only below 0: what is filled and what is left give no less apart
pub apart : (m r y : ℤ) → OneSide m r → int_min (pos 0) ((m +ℤ r) *ℤ y) ≤ℤ (m *ℤ y +ℤ int_min (pos 0) (r *ℤ y))
apart m r y side = let e = times_sum m r y in signs ((m +ℤ r) *ℤ y) (m *ℤ y) (r *ℤ y) e (both_times m r y side)
  where
    signs : (t a b : ℤ) → t ≡ a +ℤ b → OneSide a b → int_min (pos 0) t ≤ℤ (a +ℤ int_min (pos 0) b)
    signs t a b e (inl (h, k)) = omega (arith, ints, clamps)
    signs t a b e (inr (h, k)) = omega (arith, ints, clamps)

-- contracts at a price no worse than the limit cost no more than at the limit
pub costs_no_more : (m limit price : ℤ) → OneSide m (limit -ℤ price) → (pos 80000 *ℤ m *ℤ price) ≤ℤ (m *ℤ (pos 80000 *ℤ limit))
costs_no_more m limit price side =
    let p = one_side_times m (limit -ℤ price) side in
    let d = times_add m limit (neg_ℤ price) in
    let n = times_neg m price in
    let le = scaled (pos 80000) (m *ℤ price) (m *ℤ limit) (omega (arith, ints)) (omega (arith, ints)) in
    let left = multiple 80000 m price in
    let right = *ℤ_comm m (pos 80000 *ℤ limit) ∙ multiple 80000 limit m ∙ ap (λ (k : ℤ). pos 80000 *ℤ k) (*ℤ_comm limit m) in
    omega (arith, ints)

-- what a position gains by contracts at a price, with what is left of the order, is no less than the order whole
pub no_less : (p : Position) (m r limit price x : ℤ) (column : ℕ) → OneSide m r → OneSide m (limit -ℤ price) → (line : ℕ) → (position_result p x column +ℤ int_min (pos 0) (order_result (record { line = line; left = m +ℤ r; limit = limit }) x column)) ≤ℤ (position_result (moved p m price) x column +ℤ int_min (pos 0) (order_result (record { line = line; left = r; limit = limit }) x column))
unfolding position_result order_result
no_less p m r limit price x column side worse line = by (holds_price column)
  where
    linear : (t t' mx my ml md cost c before after : ℤ) → before ≤ℤ (my +ℤ after) → cost ≤ℤ ml → my ≡ mx +ℤ md → md ≡ neg_ℤ ml → t' ≡ t +ℤ mx → ((t -ℤ c) +ℤ before) ≤ℤ ((t' -ℤ (c +ℤ cost)) +ℤ after)
    linear t t' mx my ml md cost c before after a b d e f = omega (arith, ints)

    priced : (n c : ℤ) → ((n *ℤ x -ℤ c) +ℤ int_min (pos 0) ((m +ℤ r) *ℤ (x -ℤ pos 80000 *ℤ limit))) ≤ℤ (((n +ℤ m) *ℤ x -ℤ (c +ℤ pos 80000 *ℤ m *ℤ price)) +ℤ int_min (pos 0) (r *ℤ (x -ℤ pos 80000 *ℤ limit)))
    priced n c =
        let a = apart m r (x -ℤ pos 80000 *ℤ limit) side in
        let b = costs_no_more m limit price worse in
        let d = times_add m x (neg_ℤ (pos 80000 *ℤ limit)) in
        let e = times_neg m (pos 80000 *ℤ limit) in
        let f = times_sum n m x in
        linear (n *ℤ x) ((n +ℤ m) *ℤ x) (m *ℤ x) (m *ℤ (x -ℤ pos 80000 *ℤ limit)) (m *ℤ (pos 80000 *ℤ limit)) (m *ℤ neg_ℤ (pos 80000 *ℤ limit)) (pos 80000 *ℤ m *ℤ price) c (int_min (pos 0) ((m +ℤ r) *ℤ (x -ℤ pos 80000 *ℤ limit))) (int_min (pos 0) (r *ℤ (x -ℤ pos 80000 *ℤ limit))) a b d e f

    changed : (n : ℤ) → (n *ℤ x +ℤ int_min (pos 0) ((m +ℤ r) *ℤ x)) ≤ℤ ((n +ℤ m) *ℤ x +ℤ int_min (pos 0) (r *ℤ x))
    changed n = let a = apart m r x side in let f = times_sum n m x in omega (arith, ints)

    by : (holds : Bool) → ((elim holds [ true ↦ p.net *ℤ x -ℤ p.cost | false ↦ p.net *ℤ x ]) +ℤ int_min (pos 0) (elim holds [ true ↦ (m +ℤ r) *ℤ (x -ℤ pos 80000 *ℤ limit) | false ↦ (m +ℤ r) *ℤ x ])) ≤ℤ ((elim holds [ true ↦ (p.net +ℤ m) *ℤ x -ℤ (p.cost +ℤ pos 80000 *ℤ m *ℤ price) | false ↦ (p.net +ℤ m) *ℤ x ]) +ℤ int_min (pos 0) (elim holds [ true ↦ r *ℤ (x -ℤ pos 80000 *ℤ limit) | false ↦ r *ℤ x ]))
    by true = priced p.net p.cost
    by false = changed p.net
