-- Contracts with the sign of an order, and small numbers as the code holds them.
use Rattle.std.proofs.Common.{◌≡◌, ℕ, zero, suc, ◌≤◌, Bool, true, false, ℤ, pos, negsuc, ◌+ℤ◌, ◌-ℤ◌, neg_ℤ, nat_abs, sym, refl, ap, ◌∙◌, subst, ap₂, zero-le, arith, w64, SFits, to_z, of_z}
use lib.IntN.{+ℤ_idl}
use lib.Signed.{le_z}
use Rattle.std.proofs.lemmas.Int.{to_z-of_z}
use Rattle.account.proofs.Lines.{size_add}
use Rattle.account.specs.declared.orders.Order.{Order}
use Rattle.account.specs.declared.orders.OrderState.{OrderState}
use Rattle.account.specs.declared.orders.Event.{Event}
use Rattle.account.specs.declared.orders.Event.TheVariants.{Filled, Cancelled}
use Rattle.account.specs.Orders.{SmallEvent, signed, left_after, state_after, order_after}

pub signed_buy : (left size : ℤ) → le_z (pos 0) left ≡ true → signed left size ≡ size
unfolding signed
signed_buy left size e = ap (λ (buys : Bool). elim buys [ true ↦ size | false ↦ neg_ℤ size ]) e

pub signed_sell : (left size : ℤ) → le_z (pos 0) left ≡ false → signed left size ≡ neg_ℤ size
unfolding signed
signed_sell left size e = ap (λ (buys : Bool). elim buys [ true ↦ size | false ↦ neg_ℤ size ]) e

-- ---- small numbers in 64 bits
pub fits_small : (z : ℤ) → nat_abs z ≤ 20000 → SFits w64 z
fits_small (pos n) h = record { sfits = omega arith }
fits_small (negsuc n) h = record { sfits = omega arith }

pub back : (z : ℤ) → nat_abs z ≤ 20000 → to_z w64 (of_z w64 z) ≡ z
back z h = to_z-of_z w64 z (fits_small z h)

pub neg_size : (z : ℤ) → nat_abs (neg_ℤ z) ≡ nat_abs z
neg_size (pos zero) = refl
neg_size (pos (suc n)) = refl
neg_size (negsuc n) = refl

pub neg_value : (z : ℤ) → nat_abs z ≤ 10000 → to_z w64 (of_z w64 (pos 0 -ℤ to_z w64 (of_z w64 z))) ≡ neg_ℤ z
neg_value z h = ap (λ (y : ℤ). to_z w64 (of_z w64 (pos 0 -ℤ y))) (back z (omega arith)) ∙ ap (λ (y : ℤ). to_z w64 (of_z w64 y)) (+ℤ_idl (neg_ℤ z)) ∙ back (neg_ℤ z) (let e = neg_size z in omega arith)

minus_size : (a b : ℤ) → nat_abs a ≤ 10000 → nat_abs b ≤ 10000 → nat_abs (a -ℤ b) ≤ 20000
minus_size a b h k = let e = neg_size b in let s = size_add a (neg_ℤ b) in omega arith

pub minus_fits : (a b : ℤ) → nat_abs a ≤ 10000 → nat_abs b ≤ 10000 → SFits w64 (to_z w64 (of_z w64 a) -ℤ to_z w64 (of_z w64 b))
minus_fits a b h k = rw (back a (omega arith), back b (omega arith)) (fits_small (a -ℤ b) (minus_size a b h k))

pub minus_value : (a b : ℤ) → nat_abs a ≤ 10000 → nat_abs b ≤ 10000 → to_z w64 (of_z w64 (to_z w64 (of_z w64 a) -ℤ to_z w64 (of_z w64 b))) ≡ a -ℤ b
minus_value a b h k = rw (back a (omega arith), back b (omega arith)) (back (a -ℤ b) (minus_size a b h k))

-- ---- events
pub leaves_is : (event : Event) (left size result : ℤ) → event ≡ Filled size → nat_abs left ≤ 10000 → SmallEvent event → result ≡ signed (to_z w64 (of_z w64 left)) (to_z w64 (of_z w64 size)) → left -ℤ result ≡ left_after event left
unfolding left_after
leaves_is event left size result e h small v =
    let sized : nat_abs size ≤ 10000 = subst SmallEvent e small in
    ap (λ (y : ℤ). left -ℤ y) (v ∙ ap (λ (x : ℤ). signed x (to_z w64 (of_z w64 size))) (back left (omega arith)) ∙ ap (signed left) (back size (omega arith))) ∙ ap (λ (ev : Event). left_after ev left) (sym e)

pub meet_is : (o : Order) (event : Event) (left : ℤ) (size : ℕ) (state : OrderState) → nat_abs o.rest.left ≤ 10000 → SFits w64 left → left ≡ left_after event (to_z w64 (of_z w64 o.rest.left)) → size ≡ nat_abs (to_z w64 (of_z w64 (to_z w64 (of_z w64 left)))) → state ≡ state_after o.state event size → ◌≡◌ {A = Order} (record { number = o.number; rest = record { line = o.rest.line; left = to_z w64 (of_z w64 left); limit = o.rest.limit }; state = state }) (order_after event o)
unfolding order_after
meet_is o event left size state small fits a b c = ap₂ (λ (l : ℤ) (st : OrderState). made l st) to_left (c ∙ ap (state_after o.state event) (b ∙ ap (λ (y : ℤ). nat_abs (to_z w64 (of_z w64 y))) same ∙ ap nat_abs to_left))
  where
    made : ℤ → OrderState → Order
    made l st = record { number = o.number; rest = record { line = o.rest.line; left = l; limit = o.rest.limit }; state = st }

    same : to_z w64 (of_z w64 left) ≡ left
    same = to_z-of_z w64 left fits

    to_left : to_z w64 (of_z w64 left) ≡ left_after event o.rest.left
    to_left = same ∙ a ∙ ap (left_after event) (back o.rest.left (omega arith))

-- what is made of three numbers as they are handed on is made of the numbers
pub as_given : {X : Type 0} (F : ℤ → ℤ → ℤ → X) (a b c : ℤ) → SFits w64 a → SFits w64 b → SFits w64 c → F (to_z w64 (of_z w64 a)) (to_z w64 (of_z w64 b)) (to_z w64 (of_z w64 c)) ≡ F a b c
as_given F a b c h k l = rw (to_z-of_z w64 a h, to_z-of_z w64 b k, to_z-of_z w64 c l) refl

-- what an event leaves is small
pub left_small : (event : Event) (left : ℤ) → nat_abs left ≤ 10000 → SmallEvent event → nat_abs (left_after event left) ≤ 20000
unfolding left_after
left_small (Filled size) left h k = minus_size left (signed left size) h (by (le_z (pos 0) left) refl)
  where
    by : (buys : Bool) → le_z (pos 0) left ≡ buys → nat_abs (signed left size) ≤ 10000
    by true e = rw (signed_buy left size e) k
    by false e = rw (signed_sell left size e, neg_size size) k
left_small Cancelled left h k = zero-le

-- ---- sums
fits_sum : (z : ℤ) → nat_abs z ≤ 32000000000000000 → SFits w64 z
fits_sum (pos n) h = record { sfits = omega arith }
fits_sum (negsuc n) h = record { sfits = omega arith }

-- a sum of two numbers, as the code computes it
pub sum_value : (a b : ℤ) → nat_abs a ≤ 24000000000000000 → nat_abs b ≤ 8000000000000000 → to_z w64 (of_z w64 (to_z w64 (of_z w64 a) +ℤ to_z w64 (of_z w64 b))) ≡ a +ℤ b
sum_value a b h k = rw (to_z-of_z w64 a (fits_sum a (omega arith)), to_z-of_z w64 b (fits_sum b (omega arith))) (to_z-of_z w64 (a +ℤ b) (fits_sum (a +ℤ b) (let s = size_add a b in omega arith)))

-- what holds of three numbers as they are handed on holds of the numbers
pub handed : (P : ℤ → ℤ → ℤ → Type 0) (a b c : ℤ) → SFits w64 a → SFits w64 b → SFits w64 c → P (to_z w64 (of_z w64 a)) (to_z w64 (of_z w64 b)) (to_z w64 (of_z w64 c)) → P a b c
handed P a b c h k l p = subst (λ (z : ℤ). P a b z) (to_z-of_z w64 c l) (subst (λ (y : ℤ). P a y (to_z w64 (of_z w64 c))) (to_z-of_z w64 b k) (subst (λ (x : ℤ). P x (to_z w64 (of_z w64 b)) (to_z w64 (of_z w64 c))) (to_z-of_z w64 a h) p))
