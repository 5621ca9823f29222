-- Fills and cancels ease every line: no cell falls by them, and no line may come to more.
use Rattle.std.proofs.Common.{◌≡◌, ℕ, ◌<◌, Bool, true, false, eqb, ◌⊎◌, List, length, get_or, set, ℤ, pos, ◌+ℤ◌, ◌-ℤ◌, neg_ℤ, nat_abs, ◌≤ℤ◌, Some, sym, refl, ap, subst, inl, inr, arith}
use lib.Signed.{≤ℤ_refl}
use Rattle.std.specs.Int.{int_min, int_max}
use Rattle.std.proofs.lemmas.List.{get_or-set_same, get_or-set_other}
use Rattle.std.proofs.lemmas.Int.{ints, clamps}
use Rattle.std.proofs.lemmas.Bool.{eqb-true, eqb-false}
use Rattle.margin.specs.declared.book.Position.{Position}
use Rattle.margin.specs.declared.book.Open.{Open}
use Rattle.margin.specs.Book.{position, order, over_orders}
use Rattle.margin.specs.Cells.{position_result, order_result, buys, sells}
use Rattle.account.specs.declared.orders.Order.{Order}
use Rattle.account.specs.declared.orders.OrderState.{OrderState}
use Rattle.account.specs.declared.orders.OrderState.TheVariants.{Untouched, PartlyFilled, Gone}
use Rattle.account.specs.declared.orders.Event.{Event}
use Rattle.account.specs.declared.orders.Event.TheVariants.{Filled, Cancelled}
use Rattle.account.specs.Orders.{signed, left_after, state_after, order_after, is_gone, found, orders_after}
use Rattle.account.specs.Account.{State, book_of, moved, filled, cancelled, no_worse}
use Rattle.account.proofs.Products.{OneSide}
use Rattle.account.proofs.OrderSums.{of_one, sum_of, over_orders_lem, part_after, sum_after}
use Rattle.account.proofs.Fills.{one_side, no_worse_side, no_less}
use Rattle.account.proofs.Eased.{Eased}

-- ---- one order in a sum over the orders of a line
module _ (l : ℕ) (part : Open → ℤ) (number : ℤ) (event : Event) (orders : List Order) (o : Order) (is : found number orders ≡ Some o) where
  -- of another line
  pub sum_off : eqb o.rest.line l ≡ false → sum_of (of_one l part) (orders_after number event orders) ≡ sum_of (of_one l part) orders
  unfolding part_after of_one order_after
  sum_off off = let e = sum_after (of_one l part) number event orders o is in by (eqb o.rest.line l) off (is_gone (order_after event o).state) e
    where
      by : (on : Bool) → on ≡ false → (gone : Bool) → sum_of (of_one l part) (orders_after number event orders) +ℤ (elim on [ true ↦ part o.rest | false ↦ pos 0 ]) ≡ sum_of (of_one l part) orders +ℤ (elim gone [ true ↦ pos 0 | false ↦ elim on [ true ↦ part (order_after event o).rest | false ↦ pos 0 ] ]) → sum_of (of_one l part) (orders_after number event orders) ≡ sum_of (of_one l part) orders
      by true n gone e = absurd (let z : ◌≡◌ {A = ℕ} 0 1 = cc in omega arith)
      by false n true e = omega (arith, ints)
      by false n false e = omega (arith, ints)

  -- of this line
  pub sum_on : eqb o.rest.line l ≡ true → sum_of (of_one l part) (orders_after number event orders) +ℤ part o.rest ≡ sum_of (of_one l part) orders +ℤ part_after part event o
  unfolding part_after of_one order_after
  sum_on at = by (eqb o.rest.line l) at (sum_after (of_one l part) number event orders o is)
    where
      by : (on : Bool) → on ≡ true → sum_of (of_one l part) (orders_after number event orders) +ℤ (elim on [ true ↦ part o.rest | false ↦ pos 0 ]) ≡ sum_of (of_one l part) orders +ℤ (elim (is_gone (order_after event o).state) [ true ↦ pos 0 | false ↦ elim on [ true ↦ part (order_after event o).rest | false ↦ pos 0 ] ]) → sum_of (of_one l part) (orders_after number event orders) +ℤ part o.rest ≡ sum_of (of_one l part) orders +ℤ part_after part event o
      by true n e = e
      by false n e = absurd (let z : ◌≡◌ {A = ℕ} 0 1 = cc in omega arith)

-- ---- a cancel
cancel_part : (part : Open → ℤ) (o : Order) → part_after part Cancelled o ≡ pos 0
unfolding part_after order_after is_gone state_after
cancel_part part o = by o.state
  where
    by : (state : OrderState) → (elim (is_gone (state_after state Cancelled (nat_abs (left_after Cancelled o.rest.left)))) [ true ↦ pos 0 | false ↦ part (record { line = o.rest.line; left = left_after Cancelled o.rest.left; limit = o.rest.limit }) ]) ≡ pos 0
    by Untouched = refl
    by PartlyFilled = refl
    by Gone = refl

of_one_low : (l : ℕ) (part : Open → ℤ) (o : Open) → part o ≤ℤ pos 0 → of_one l part o ≤ℤ pos 0
unfolding of_one
of_one_low l part o h = by (eqb o.line l)
  where
    by : (on : Bool) → (elim on [ true ↦ part o | false ↦ pos 0 ]) ≤ℤ pos 0
    by true = h
    by false = ≤ℤ_refl (pos 0)

pub of_one_high : (l : ℕ) (part : Open → ℤ) (o : Open) → pos 0 ≤ℤ part o → pos 0 ≤ℤ of_one l part o
unfolding of_one
of_one_high l part o h = by (eqb o.line l)
  where
    by : (on : Bool) → pos 0 ≤ℤ (elim on [ true ↦ part o | false ↦ pos 0 ])
    by true = h
    by false = ≤ℤ_refl (pos 0)

-- what an order adds: where it loses, to the open buys, and to the open sells
abbrev pub loss_part : ℤ → ℕ → Open → ℤ
loss_part x column o = int_min (pos 0) (order_result o x column)

abbrev pub buy_part : Open → ℤ
buy_part o = int_max (pos 0) o.left

abbrev pub sell_part : Open → ℤ
sell_part o = int_max (pos 0) (neg_ℤ o.left)

loss_low : (r : ℤ) → int_min (pos 0) r ≤ℤ pos 0
loss_low r = omega (arith, ints, clamps)

pub size_high : (q : ℤ) → pos 0 ≤ℤ int_max (pos 0) q
size_high q = omega (arith, ints, clamps)

module _ (s : State) where
  -- the book's sums over orders, as sums over the list
  pub orders_are : (l : ℕ) (part : Open → ℤ) → over_orders (book_of s) l (λ i. part (order (book_of s) i)) ≡ sum_of (of_one l part) s.orders
  orders_are l part = over_orders_lem s.positions s.orders l part

  pub buys_are : (l : ℕ) → buys (book_of s) l ≡ sum_of (of_one l buy_part) s.orders
  unfolding buys
  buys_are l = orders_are l buy_part

  pub sells_are : (l : ℕ) → sells (book_of s) l ≡ sum_of (of_one l sell_part) s.orders
  unfolding sells
  sells_are l = orders_are l sell_part

module _ (s : State) (number : ℤ) (o : Order) (is : found number s.orders ≡ Some o) where
  pub cancel_sum : (l : ℕ) (part : Open → ℤ) → sum_of (of_one l part) (orders_after number Cancelled s.orders) +ℤ of_one l part o.rest ≡ sum_of (of_one l part) s.orders
  cancel_sum l part = let e = sum_after (of_one l part) number Cancelled s.orders o is in let z = cancel_part (of_one l part) o in omega (arith, ints)

  pub cancel_eases : (l : ℕ) → Eased (book_of s) (book_of (cancelled s number)) l
  cancel_eases l = record {
    result = λ x column. up (position_result (position (book_of s) l) x column) _ _ _ _ _ (orders_are s l (loss_part x column)) (orders_are (cancelled s number) l (loss_part x column)) (cancel_sum l (loss_part x column)) (of_one_low l (loss_part x column) o.rest (loss_low (order_result o.rest x column)));
    long = down (position (book_of s) l).net _ _ _ _ _ (buys_are s l) (buys_are (cancelled s number) l) (cancel_sum l buy_part) (of_one_high l buy_part o.rest (size_high o.rest.left));
    short = less (position (book_of s) l).net _ _ _ _ _ (sells_are s l) (sells_are (cancelled s number) l) (cancel_sum l sell_part) (of_one_high l sell_part o.rest (size_high (neg_ℤ o.rest.left)));
  }
    where
      up : (r a b a' b' p : ℤ) → a ≡ a' → b ≡ b' → b' +ℤ p ≡ a' → p ≤ℤ pos 0 → (r +ℤ a) ≤ℤ (r +ℤ b)
      up r a b a' b' p e f g h = omega (arith, ints)

      down : (n a b a' b' p : ℤ) → a ≡ a' → b ≡ b' → b' +ℤ p ≡ a' → pos 0 ≤ℤ p → (n +ℤ b) ≤ℤ (n +ℤ a)
      down n a b a' b' p e f g h = omega (arith, ints)

      less : (n a b a' b' p : ℤ) → a ≡ a' → b ≡ b' → b' +ℤ p ≡ a' → pos 0 ≤ℤ p → (b -ℤ n) ≤ℤ (a -ℤ n)
      less n a b a' b' p e f g h = omega (arith, ints)

-- ---- a fill
module _ (s : State) (number quantity price : ℤ) (o : Order) (is : found number s.orders ≡ Some o) (low : pos 1 ≤ℤ quantity) (high : quantity ≤ℤ pos (nat_abs o.rest.left)) (fair : no_worse o.rest price ≡ true) (l : ℕ) where
  -- the contracts filled and those left, with the order's sign
  abbrev pub m : ℤ
  m = signed o.rest.left quantity

  abbrev pub r : ℤ
  r = o.rest.left -ℤ m

  abbrev pub s' : State
  s' = filled s number quantity price o

  -- of the line's order either nothing is left, or its part with what is left
  abbrev pub Left : (Open → ℤ) → ℤ → Type 0
  Left part x = (x ≡ pos 0) ⊎ (x ≡ part (record { line = o.rest.line; left = r; limit = o.rest.limit }))

  pub fill_part : (part : Open → ℤ) → Left part (part_after part (Filled quantity) o)
  unfolding part_after order_after left_after
  fill_part part = by (is_gone (order_after (Filled quantity) o).state)
    where
      by : (gone : Bool) → Left part (elim gone [ true ↦ pos 0 | false ↦ part (record { line = o.rest.line; left = r; limit = o.rest.limit }) ])
      by true = inl refl
      by false = inr refl

  pub whole : m +ℤ r ≡ o.rest.left
  whole = regroup m o.rest.left
    where
      regroup : (a b : ℤ) → a +ℤ (b -ℤ a) ≡ b
      regroup a b = omega (arith, ints)

  pub sides : OneSide m r
  sides = one_side o.rest.left quantity low high

  -- another line
  module _ (off : eqb o.rest.line l ≡ false) where
    pub position_off : position (book_of s') l ≡ position (book_of s) l
    position_off = get_or-set_other s.positions o.rest.line l _ _ (λ e. eqb-false o.rest.line l off (sym e))

    fill_off : Eased (book_of s) (book_of s') l
    fill_off = record {
      result = λ x column. up _ _ _ _ _ _ (ap (λ (p : Position). position_result p x column) position_off) (orders_are s l (loss_part x column)) (orders_are s' l (loss_part x column)) (sum_off l (loss_part x column) number (Filled quantity) s.orders o is off);
      long = down _ _ _ _ _ _ (ap (λ (p : Position). p.net) position_off) (buys_are s l) (buys_are s' l) (sum_off l buy_part number (Filled quantity) s.orders o is off);
      short = less _ _ _ _ _ _ (ap (λ (p : Position). p.net) position_off) (sells_are s l) (sells_are s' l) (sum_off l sell_part number (Filled quantity) s.orders o is off);
    }
      where
        up : (n n' a b a' b' : ℤ) → n' ≡ n → a ≡ a' → b ≡ b' → b' ≡ a' → (n +ℤ a) ≤ℤ (n' +ℤ b)
        up n n' a b a' b' d e f g = omega (arith, ints)

        down : (n n' a b a' b' : ℤ) → n' ≡ n → a ≡ a' → b ≡ b' → b' ≡ a' → (n' +ℤ b) ≤ℤ (n +ℤ a)
        down n n' a b a' b' d e f g = omega (arith, ints)

        less : (n n' a b a' b' : ℤ) → n' ≡ n → a ≡ a' → b ≡ b' → b' ≡ a' → (b -ℤ n') ≤ℤ (a -ℤ n)
        less n n' a b a' b' d e f g = omega (arith, ints)

  -- the order's line
  module _ (at : eqb o.rest.line l ≡ true) (inside : l < length s.positions) where
    same_line : o.rest.line ≡ l
    same_line = eqb-true o.rest.line l at

    pub position_on : position (book_of s') l ≡ moved (position (book_of s) l) m price
    position_on = subst (λ (k : ℕ). get_or (set s.positions k (moved (position (book_of s) k) m price)) l (record { net = pos 0; cost = pos 0 }) ≡ moved (position (book_of s) l) m price) (sym same_line) (get_or-set_same s.positions l _ _ inside)

    fill_on : Eased (book_of s) (book_of s') l
    fill_on = record {
      result = λ x column.
          up _ _ _ _ _ _ _ _ _ _ (fill_part (loss_part x column)) (ap (λ (p : Position). position_result p x column) position_on) (orders_are s l (loss_part x column)) (orders_are s' l (loss_part x column)) (sum_on l (loss_part x column) number (Filled quantity) s.orders o is at)
          (subst (λ (q : ℤ). (position_result (position (book_of s) l) x column +ℤ loss_part x column (record { line = o.rest.line; left = q; limit = o.rest.limit })) ≤ℤ (position_result (moved (position (book_of s) l) m price) x column +ℤ loss_part x column (record { line = o.rest.line; left = r; limit = o.rest.limit }))) whole (no_less (position (book_of s) l) m r o.rest.limit price x column sides (no_worse_side o.rest quantity price low fair) o.rest.line))
          (loss_low (order_result (record { line = o.rest.line; left = r; limit = o.rest.limit }) x column));
      long = down _ _ _ _ _ _ _ m r _ (fill_part buy_part) (ap (λ (p : Position). p.net) position_on) (buys_are s l) (buys_are s' l) (sum_on l buy_part number (Filled quantity) s.orders o is at) sides whole;
      short = less _ _ _ _ _ _ _ m r _ (fill_part sell_part) (ap (λ (p : Position). p.net) position_on) (sells_are s l) (sells_are s' l) (sum_on l sell_part number (Filled quantity) s.orders o is at) sides whole;
    }
      where
        up : (n n' n'' a b a' b' p p' rest : ℤ) → (p' ≡ pos 0) ⊎ (p' ≡ rest) → n' ≡ n'' → a ≡ a' → b ≡ b' → b' +ℤ p ≡ a' +ℤ p' → (n +ℤ p) ≤ℤ (n'' +ℤ rest) → rest ≤ℤ pos 0 → (n +ℤ a) ≤ℤ (n' +ℤ b)
        up n n' n'' a b a' b' p p' rest (inl z) d e f g h k = omega (arith, ints)
        up n n' n'' a b a' b' p p' rest (inr z) d e f g h k = omega (arith, ints)

        down : (n n' a b a' b' p' m r q : ℤ) → (p' ≡ pos 0) ⊎ (p' ≡ int_max (pos 0) r) → n' ≡ n +ℤ m → a ≡ a' → b ≡ b' → b' +ℤ int_max (pos 0) q ≡ a' +ℤ p' → OneSide m r → m +ℤ r ≡ q → (n' +ℤ b) ≤ℤ (n +ℤ a)
        down n n' a b a' b' p' m r q (inl z) d e f g (inl h) k = omega (arith, ints, clamps)
        down n n' a b a' b' p' m r q (inl z) d e f g (inr h) k = omega (arith, ints, clamps)
        down n n' a b a' b' p' m r q (inr z) d e f g (inl h) k = omega (arith, ints, clamps)
        down n n' a b a' b' p' m r q (inr z) d e f g (inr h) k = omega (arith, ints, clamps)

        less : (n n' a b a' b' p' m r q : ℤ) → (p' ≡ pos 0) ⊎ (p' ≡ int_max (pos 0) (neg_ℤ r)) → n' ≡ n +ℤ m → a ≡ a' → b ≡ b' → b' +ℤ int_max (pos 0) (neg_ℤ q) ≡ a' +ℤ p' → OneSide m r → m +ℤ r ≡ q → (b -ℤ n') ≤ℤ (a -ℤ n)
        less n n' a b a' b' p' m r q (inl z) d e f g (inl h) k = omega (arith, ints, clamps)
        less n n' a b a' b' p' m r q (inl z) d e f g (inr h) k = omega (arith, ints, clamps)
        less n n' a b a' b' p' m r q (inr z) d e f g (inl h) k = omega (arith, ints, clamps)
        less n n' a b a' b' p' m r q (inr z) d e f g (inr h) k = omega (arith, ints, clamps)

  pub fill_eases : l < length s.positions → Eased (book_of s) (book_of s') l
  fill_eases inside = by (eqb o.rest.line l) refl
    where
      by : (on : Bool) → eqb o.rest.line l ≡ on → Eased (book_of s) (book_of s') l
      by true e = fill_on e inside
      by false e = fill_off e
