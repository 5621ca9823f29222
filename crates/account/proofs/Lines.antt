-- The bounds of a line through placing, filling and cancelling.
use Rattle.std.proofs.Common.{◌≡◌, ℕ, ◌+◌, ◌*◌, ◌<◌, ◌≤◌, Bool, true, false, eqb, ◌⊎◌, length, get_or, ℤ, pos, negsuc, ◌+ℤ◌, ◌-ℤ◌, ◌*ℤ◌, neg_ℤ, nat_abs, ◌≤ℤ◌, Some, sym, refl, ap, ◌∙◌, subst, inl, inr, mul_assoc, mul-le-mul_left, arith}
use lib.IntN.{+ℤ_idr}
use lib.Signed.{≤ℤ_refl}
use Rattle.std.specs.Int.{int_max}
use Rattle.std.proofs.lemmas.Int.{ints, clamps}
use Rattle.std.proofs.lemmas.List.{get_or-set_same, get_or-set_other}
use Rattle.std.proofs.lemmas.Bool.{eqb-true, eqb-false, eq-eqb, and_parts}
use Rattle.banks.specs.Soundness.{size_product}
use Rattle.margin.specs.declared.book.Position.{Position}
use Rattle.margin.specs.declared.book.Open.{Open}
use Rattle.margin.specs.Book.{position, named}
use Rattle.margin.specs.Cells.{buys, sells}
use Rattle.margin.proofs.SumLaws.{≤ℤ-trans, at_most}
use Rattle.account.specs.declared.orders.Order.{Order}
use Rattle.account.specs.declared.orders.Event.TheVariants.{Filled}
use Rattle.account.specs.Orders.{signed, found}
use Rattle.account.specs.Account.{State, book_of, no_worse, filled, cancelled, placed, new_order, book_net_fits}
use Rattle.account.specs.Bounds.{dearest, LineInBounds}
use Rattle.margin.proofs.Products.{scaled}
use Rattle.account.proofs.Products.{times_add, OneSide}
use Rattle.account.proofs.OrderSums.{of_one, sum_more}
use Rattle.account.proofs.Events.{sum_off, sum_on, buy_part, sell_part, of_one_high, size_high, buys_are, sells_are, cancel_sum, cancel_eases, fill_part, whole, sides, position_off, position_on, fill_eases}

-- ---- sizes
pub as_size : (a : ℤ) → pos (nat_abs a) ≡ int_max a (neg_ℤ a)
as_size (pos n) = omega (arith, ints, clamps)
as_size (negsuc n) = refl

pub size_add : (a b : ℤ) → nat_abs (a +ℤ b) ≤ nat_abs a + nat_abs b
size_add a b = linear a b (nat_abs a) (nat_abs b) (nat_abs (a +ℤ b)) (as_size a) (as_size b) (as_size (a +ℤ b))
  where
    linear : (a b : ℤ) (x y z : ℕ) → pos x ≡ int_max a (neg_ℤ a) → pos y ≡ int_max b (neg_ℤ b) → pos z ≡ int_max (a +ℤ b) (neg_ℤ (a +ℤ b)) → z ≤ x + y
    linear a b x y z p q r = omega (arith, ints, clamps)

-- contracts at a price cost no more than at the dearest
pub cost_size : (m price : ℤ) → nat_abs price ≤ 10000000 → nat_abs (pos 80000 *ℤ m *ℤ price) ≤ dearest * nat_abs m
cost_size m price h =
    let a = size_product (pos 80000 *ℤ m) price ∙ ap (λ (k : ℕ). k * nat_abs price) (size_product (pos 80000) m) ∙ mul_assoc 80000 (nat_abs m) (nat_abs price) in
    linear _ (nat_abs m) (nat_abs m * nat_abs price) a (mul-le-mul_left (nat_abs m) h)
  where
    linear : (cost m p : ℕ) → cost ≡ 80000 * p → p ≤ m * 10000000 → cost ≤ dearest * m
    linear cost m p e h = omega arith

-- an amount is within a range of sizes
pub in_size : (p : ℤ) (n : ℕ) → pos 0 ≤ℤ p → p ≤ℤ pos n → nat_abs p ≤ n
in_size (pos p) n low high = omega (arith, ints)
in_size (negsuc p) n low high = absurd (omega (arith, ints))

-- the open contracts of an order are its size
pub open_size : (q : ℤ) → int_max (pos 0) q +ℤ int_max (pos 0) (neg_ℤ q) ≡ pos (nat_abs q)
open_size q = linear q (nat_abs q) (as_size q)
  where
    linear : (q : ℤ) (n : ℕ) → pos n ≡ int_max q (neg_ℤ q) → int_max (pos 0) q +ℤ int_max (pos 0) (neg_ℤ q) ≡ pos n
    linear q n e = omega (arith, ints, clamps)

-- sizes on one side add up
pub side_size : (m r q : ℤ) → OneSide m r → m +ℤ r ≡ q → nat_abs q ≡ nat_abs m + nat_abs r
side_size m r q side e = linear (nat_abs q) (nat_abs m) (nat_abs r) (as_size q) (as_size m) (as_size r) side
  where
    linear : (x y z : ℕ) → pos x ≡ int_max q (neg_ℤ q) → pos y ≡ int_max m (neg_ℤ m) → pos z ≡ int_max r (neg_ℤ r) → OneSide m r → x ≡ y + z
    linear x y z f g h (inl s) = omega (arith, ints, clamps)
    linear x y z f g h (inr s) = omega (arith, ints, clamps)

-- ---- the cost bound
-- contracts open now and contracts moved since, at the dearest each
pub cost_moves : (cost moves : ℤ) (before after : ℤ) (m k : ℕ) → nat_abs moves ≤ dearest * m → (after +ℤ pos m) ≤ℤ before → (pos (nat_abs cost) +ℤ pos dearest *ℤ before) ≤ℤ pos k → (pos (nat_abs (cost +ℤ moves)) +ℤ pos dearest *ℤ after) ≤ℤ pos k
cost_moves cost moves before after m k small less h =
    let a = scaled (pos dearest) (after +ℤ pos m) before (omega (arith, ints)) less in
    let b = times_add (pos dearest) after (pos m) in
    linear (nat_abs (cost +ℤ moves)) (nat_abs cost) (nat_abs moves) (dearest * m) (pos dearest *ℤ (after +ℤ pos m)) (pos dearest *ℤ after) (pos dearest *ℤ before) (size_add cost moves) small a b h
  where
    linear : (z x y d : ℕ) (both after before : ℤ) → z ≤ x + y → y ≤ d → both ≤ℤ before → both ≡ after +ℤ pos d → (pos x +ℤ before) ≤ℤ pos k → (pos z +ℤ after) ≤ℤ pos k
    linear z x y d both after before p q r s t = omega (arith, ints)

-- where the cost stays and no more is open
cost_stays : (cost cost' before after : ℤ) (k : ℕ) → cost' ≡ cost → after ≤ℤ before → (pos (nat_abs cost) +ℤ pos dearest *ℤ before) ≤ℤ pos k → (pos (nat_abs cost') +ℤ pos dearest *ℤ after) ≤ℤ pos k
cost_stays cost cost' before after k e less h = subst (λ (z : ℤ). (pos (nat_abs z) +ℤ pos dearest *ℤ after) ≤ℤ pos k) (+ℤ_idr cost ∙ sym e) (cost_moves cost (pos 0) before after 0 k (omega arith) (omega (arith, ints)) h)

-- ---- a cancel
module _ (s : State) (number : ℤ) (o : Order) (is : found number s.orders ≡ Some o) (l : ℕ) (bound : LineInBounds s l) where
  pub cancel_line : LineInBounds (cancelled s number) l
  cancel_line = record {
    may_hold = ≤ℤ-trans _ _ _ (cancel_eases s number o is l).long bound.may_hold;
    may_be_short = ≤ℤ-trans _ _ _ (cancel_eases s number o is l).short bound.may_be_short;
    few_accepted = bound.few_accepted;
    cost_bounded = cost_stays (position (book_of s) l).cost _ _ _ _ refl (less _ _ _ _ _ _ _ _ _ _ (buys_are s l) (buys_are (cancelled s number) l) (sells_are s l) (sells_are (cancelled s number) l) (cancel_sum s number o is l buy_part) (cancel_sum s number o is l sell_part) (of_one_high l buy_part o.rest (size_high o.rest.left)) (of_one_high l sell_part o.rest (size_high (neg_ℤ o.rest.left)))) bound.cost_bounded;
  }
    where
      less : (b b' c c' d d' e e' p q : ℤ) → b ≡ b' → c ≡ c' → d ≡ d' → e ≡ e' → c' +ℤ p ≡ b' → e' +ℤ q ≡ d' → pos 0 ≤ℤ p → pos 0 ≤ℤ q → (c +ℤ e) ≤ℤ (b +ℤ d)
      less b b' c c' d d' e e' p q h1 h2 h3 h4 h5 h6 h7 h8 = omega (arith, ints)

-- ---- a fill
module _ (s : State) (number quantity price : ℤ) (o : Order) (is : found number s.orders ≡ Some o) (low : pos 1 ≤ℤ quantity) (high : quantity ≤ℤ pos (nat_abs o.rest.left)) (fair : no_worse o.rest price ≡ true) (cheap : nat_abs price ≤ 10000000) (l : ℕ) (inside : l < length s.positions) (bound : LineInBounds s l) where
  abbrev after : State
  after = filled s number quantity price o

  abbrev moves : ℤ
  moves = signed o.rest.left quantity

  open_off : eqb o.rest.line l ≡ false → (buys (book_of after) l +ℤ sells (book_of after) l) ≤ℤ (buys (book_of s) l +ℤ sells (book_of s) l)
  open_off off = less _ _ _ _ _ _ _ _ (buys_are s l) (buys_are after l) (sells_are s l) (sells_are after l) (sum_off l buy_part number (Filled quantity) s.orders o is off) (sum_off l sell_part number (Filled quantity) s.orders o is off)
    where
      less : (b b' c c' d d' e e' : ℤ) → b ≡ b' → c ≡ c' → d ≡ d' → e ≡ e' → c' ≡ b' → e' ≡ d' → (c +ℤ e) ≤ℤ (b +ℤ d)
      less b b' c c' d d' e e' h1 h2 h3 h4 h5 h6 = omega (arith, ints)

  open_on : eqb o.rest.line l ≡ true → (buys (book_of after) l +ℤ sells (book_of after) l +ℤ pos (nat_abs moves)) ≤ℤ (buys (book_of s) l +ℤ sells (book_of s) l)
  open_on at =
      less _ _ _ _ _ _ _ _ _ _ _ _ _ _ _ _ _ (buys_are s l) (buys_are after l) (sells_are s l) (sells_are after l) (sum_on l buy_part number (Filled quantity) s.orders o is at) (sum_on l sell_part number (Filled quantity) s.orders o is at)
      (left_buys (fill_part s number quantity price o is low high fair l buy_part)) (left_sells (fill_part s number quantity price o is low high fair l sell_part))
      (open_size o.rest.left) (open_size (o.rest.left -ℤ moves)) (side_size moves (o.rest.left -ℤ moves) o.rest.left (sides s number quantity price o is low high fair l) (whole s number quantity price o is low high fair l))
    where
      left_buys : {p : ℤ} → (p ≡ pos 0) ⊎ (p ≡ int_max (pos 0) (o.rest.left -ℤ moves)) → p ≤ℤ int_max (pos 0) (o.rest.left -ℤ moves)
      left_buys (inl e) = rw e (size_high (o.rest.left -ℤ moves))
      left_buys (inr e) = rw e (≤ℤ_refl (int_max (pos 0) (o.rest.left -ℤ moves)))

      left_sells : {p : ℤ} → (p ≡ pos 0) ⊎ (p ≡ int_max (pos 0) (neg_ℤ (o.rest.left -ℤ moves))) → p ≤ℤ int_max (pos 0) (neg_ℤ (o.rest.left -ℤ moves))
      left_sells (inl e) = rw e (size_high (neg_ℤ (o.rest.left -ℤ moves)))
      left_sells (inr e) = rw e (≤ℤ_refl (int_max (pos 0) (neg_ℤ (o.rest.left -ℤ moves))))

      less : (b b' c c' d d' e e' p p' q q' u v : ℤ) (x y z : ℕ) → b ≡ b' → c ≡ c' → d ≡ d' → e ≡ e' → c' +ℤ p ≡ b' +ℤ p' → e' +ℤ q ≡ d' +ℤ q' → p' ≤ℤ u → q' ≤ℤ v → p +ℤ q ≡ pos x → u +ℤ v ≡ pos z → x ≡ y + z → (c +ℤ e +ℤ pos y) ≤ℤ (b +ℤ d)
      less b b' c c' d d' e e' p p' q q' u v x y z h1 h2 h3 h4 h5 h6 h7 h8 h9 h10 h11 = omega (arith, ints)

  pub fill_line : LineInBounds after l
  fill_line = record {
    may_hold = ≤ℤ-trans _ _ _ (fill_eases s number quantity price o is low high fair l inside).long bound.may_hold;
    may_be_short = ≤ℤ-trans _ _ _ (fill_eases s number quantity price o is low high fair l inside).short bound.may_be_short;
    few_accepted = bound.few_accepted;
    cost_bounded = by (eqb o.rest.line l) refl;
  }
    where
      by : (on : Bool) → eqb o.rest.line l ≡ on → (pos (nat_abs (position (book_of after) l).cost) +ℤ pos dearest *ℤ (buys (book_of after) l +ℤ sells (book_of after) l)) ≤ℤ pos (dearest * (10000 + get_or s.accepted l 0))
      by true e =
          subst (λ (p : Position). (pos (nat_abs p.cost) +ℤ pos dearest *ℤ (buys (book_of after) l +ℤ sells (book_of after) l)) ≤ℤ pos (dearest * (10000 + get_or s.accepted l 0))) (sym (position_on s number quantity price o is low high fair l e inside))
          (cost_moves (position (book_of s) l).cost (pos 80000 *ℤ moves *ℤ price) (buys (book_of s) l +ℤ sells (book_of s) l) (buys (book_of after) l +ℤ sells (book_of after) l) (nat_abs moves) (dearest * (10000 + get_or s.accepted l 0)) (cost_size moves price cheap) (open_on e) bound.cost_bounded)
      by false e = cost_stays (position (book_of s) l).cost (position (book_of after) l).cost (buys (book_of s) l +ℤ sells (book_of s) l) (buys (book_of after) l +ℤ sells (book_of after) l) (dearest * (10000 + get_or s.accepted l 0)) (ap (λ (p : Position). p.cost) (position_off s number quantity price o is low high fair l e)) (open_off e) bound.cost_bounded

-- ---- a placed order
module _ (s : State) (line_no quantity limit : ℤ) (fits : book_net_fits (book_of (placed s line_no quantity limit)) (named line_no) ≡ true) (few : get_or (placed s line_no quantity limit).accepted (named line_no) 0 ≤ 20000) where
  abbrev with_it : State
  with_it = placed s line_no quantity limit

  -- what the new order adds to a line
  abbrev added : ℕ → (Open → ℤ) → ℤ
  added l part = of_one l part (new_order s line_no quantity limit).rest

  buys_more : (l : ℕ) → buys (book_of with_it) l ≡ buys (book_of s) l +ℤ added l buy_part
  buys_more l = buys_are with_it l ∙ sum_more (of_one l buy_part) s.orders (new_order s line_no quantity limit) ∙ ap (λ (z : ℤ). z +ℤ added l buy_part) (sym (buys_are s l))

  sells_more : (l : ℕ) → sells (book_of with_it) l ≡ sells (book_of s) l +ℤ added l sell_part
  sells_more l = sells_are with_it l ∙ sum_more (of_one l sell_part) s.orders (new_order s line_no quantity limit) ∙ ap (λ (z : ℤ). z +ℤ added l sell_part) (sym (sells_are s l))

  added_off : (l : ℕ) (part : Open → ℤ) → eqb (named line_no) l ≡ false → added l part ≡ pos 0
  unfolding of_one
  added_off l part e = ap (λ (on : Bool). elim on [ true ↦ part (new_order s line_no quantity limit).rest | false ↦ pos 0 ]) e

  added_on : (part : Open → ℤ) → added (named line_no) part ≡ part (new_order s line_no quantity limit).rest
  unfolding of_one
  added_on part = ap (λ (on : Bool). elim on [ true ↦ part (new_order s line_no quantity limit).rest | false ↦ pos 0 ]) (eq-eqb (named line_no) (named line_no) refl)

  place_off : (l : ℕ) → eqb (named line_no) l ≡ false → LineInBounds s l → LineInBounds with_it l
  place_off l off bound = record {
    may_hold = subst (λ (b : ℤ). ((position (book_of s) l).net +ℤ b) ≤ℤ pos 10000) (sym same_buys) bound.may_hold;
    may_be_short = subst (λ (b : ℤ). (b -ℤ (position (book_of s) l).net) ≤ℤ pos 10000) (sym same_sells) bound.may_be_short;
    few_accepted = rw same_count bound.few_accepted;
    cost_bounded = rw same_count (cost_stays (position (book_of s) l).cost _ _ _ _ refl (less _ _ _ _ same_buys same_sells) bound.cost_bounded);
  }
    where
      same_buys : buys (book_of with_it) l ≡ buys (book_of s) l
      same_buys = buys_more l ∙ ap (λ (z : ℤ). buys (book_of s) l +ℤ z) (added_off l buy_part off) ∙ +ℤ_idr (buys (book_of s) l)

      same_sells : sells (book_of with_it) l ≡ sells (book_of s) l
      same_sells = sells_more l ∙ ap (λ (z : ℤ). sells (book_of s) l +ℤ z) (added_off l sell_part off) ∙ +ℤ_idr (sells (book_of s) l)

      same_count : get_or with_it.accepted l 0 ≡ get_or s.accepted l 0
      same_count = get_or-set_other s.accepted (named line_no) l _ _ (λ e. eqb-false (named line_no) l off (sym e))

      less : (a b c d : ℤ) → a ≡ b → c ≡ d → (a +ℤ c) ≤ℤ (b +ℤ d)
      less a b c d e f = omega (arith, ints)

  place_on : named line_no < length s.accepted → LineInBounds s (named line_no) → LineInBounds with_it (named line_no)
  place_on inside bound = record {
    may_hold = at_most _ _ (and_parts _ _ fits).0;
    may_be_short = at_most _ _ (and_parts _ _ fits).1;
    few_accepted = few;
    cost_bounded = rw count_more (linear (buys (book_of s) (named line_no)) (sells (book_of s) (named line_no)) _ _ (int_max (pos 0) quantity) (int_max (pos 0) (neg_ℤ quantity)) _ _ _ (buys_more (named line_no) ∙ ap (λ (z : ℤ). buys (book_of s) (named line_no) +ℤ z) (added_on buy_part)) (sells_more (named line_no) ∙ ap (λ (z : ℤ). sells (book_of s) (named line_no) +ℤ z) (added_on sell_part)) (open_size quantity) bound.cost_bounded);
  }
    where
      count_more : get_or with_it.accepted (named line_no) 0 ≡ get_or s.accepted (named line_no) 0 + nat_abs quantity
      count_more = get_or-set_same s.accepted (named line_no) _ _ inside

      linear : (b c b' c' p q : ℤ) (x n a : ℕ) → b' ≡ b +ℤ p → c' ≡ c +ℤ q → p +ℤ q ≡ pos n → (pos x +ℤ pos dearest *ℤ (b +ℤ c)) ≤ℤ pos (dearest * (10000 + a)) → (pos x +ℤ pos dearest *ℤ (b' +ℤ c')) ≤ℤ pos (dearest * (10000 + (a + n)))
      linear b c b' c' p q x n a e f g h =
          let sum : b' +ℤ c' ≡ (b +ℤ c) +ℤ pos n = omega (arith, ints) in
          let d = ap (λ (z : ℤ). pos dearest *ℤ z) sum ∙ times_add (pos dearest) (b +ℤ c) (pos n) in
          finish (pos dearest *ℤ (b' +ℤ c')) (pos dearest *ℤ (b +ℤ c)) d h
        where
          finish : (after before : ℤ) → after ≡ before +ℤ pos (dearest * n) → (pos x +ℤ before) ≤ℤ pos (dearest * (10000 + a)) → (pos x +ℤ after) ≤ℤ pos (dearest * (10000 + (a + n)))
          finish after before d h = omega (arith, ints)

  pub place_line : (l : ℕ) → l < length s.accepted → LineInBounds s l → LineInBounds with_it l
  place_line l inside bound = by (eqb (named line_no) l) refl
    where
      by : (on : Bool) → eqb (named line_no) l ≡ on → LineInBounds with_it l
      by true e = let same = eqb-true (named line_no) l e in subst (LineInBounds with_it) same (place_on (rw same inside) (rw same bound))
      by false e = place_off l e bound
