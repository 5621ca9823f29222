-- Every state that an account comes to from its begin is in bounds.
use Rattle.std.proofs.Common.{◌≡◌, ℕ, zero, suc, ◌+◌, ◌-◌, ◌*◌, ◌<◌, ◌≤◌, Bool, true, false, ◌&&◌, eqb, List, [], ◌∷◌, ◌++◌, length, get_or, set, replicate, ℤ, pos, negsuc, ◌+ℤ◌, ◌-ℤ◌, ◌*ℤ◌, neg_ℤ, nat_abs, ◌≤ℤ◌, Some, None, Option, sym, refl, ◌∙◌, subst, le_trans, arith, length-append}
use lib.Signed.{le_z, ≤ℤ_refl}
use Rattle.std.specs.Int.{int_max}
use Rattle.std.specs.List.{AllByRecursion}
use Rattle.std.proofs.ByRecursion.{All-get_or, All-from_get_or, All-set, All-push, All-weaker}
use Rattle.std.proofs.lemmas.List.{length-set, length-replicate, get_or-replicate}
use Rattle.std.proofs.lemmas.Int.{ints, clamps}
use Rattle.std.proofs.lemmas.Bool.{and_parts, leb-true, ltb-true, eqb-false, false≢true, true≢false}
use Rattle.terms.specs.Cards.{within}
use Rattle.terms.proofs.Places.{none_fails}
use Rattle.terms.specs.declared.cards.Held.{Held}
use Rattle.terms.specs.declared.refusal.Refusal.TheVariants.{BadCard, NoSuchLine, BadQuantity, BadPrice, BadAmount, OrdersFull, NetTooLarge, TooManyContracts, NotCovered, NoSuchOrder, MoreThanLeft, WorseThanLimit, CollateralTooLarge}
use Rattle.banks.specs.Meanings.{Meaning}
use Rattle.margin.specs.declared.book.Position.{Position}
use Rattle.margin.specs.declared.book.Open.{Open}
use Rattle.margin.specs.Book.{Cards, names, named, position}
use Rattle.margin.specs.Cells.{buys, sells}
use Rattle.margin.proofs.SumLaws.{at_most, sum_le}
use Rattle.deck.specs.Judgements.{name_fits, is_first, held_fits, first_unfit}
use Rattle.account.specs.declared.orders.Order.{Order}
use Rattle.account.specs.declared.orders.OrderState.{OrderState}
use Rattle.account.specs.declared.orders.OrderState.TheVariants.{Untouched, PartlyFilled, Gone}
use Rattle.account.specs.declared.orders.Event.{Event}
use Rattle.account.specs.declared.orders.Event.TheVariants.{Filled, Cancelled}
use Rattle.account.specs.Orders.{signed, left_after, fill_state, state_after, order_after, is_gone, found, kept, orders_after}
use Rattle.account.specs.declared.call.Call.{Call}
use Rattle.account.specs.declared.call.Call.TheVariants.{Place, Cancel, Fill, Deposit, Withdraw, Margin}
use Rattle.terms.specs.Checks.{unless}
use Rattle.account.specs.Account.{State, Answer, StillLeft, book_of, quantity_fits, price_fits, amount_fits, most_collateral, covered, with_collateral, new_order, placed, filled, cancelled, order_checks, fill_checks, on_order, bound_checks, step, run}
use Rattle.account.specs.Begin.{held_at, nothing, put_in, first_state, begin_checks, begin}
use Rattle.account.specs.Runs.{NoneRefuses}
use Rattle.account.specs.Bounds.{OrderInBounds, Ascending, LineInBounds, InBoundsIsSmall, InBounds, summed, dearest, BoundedAfterAnyCalls}
use Rattle.account.proofs.Fills.{one_side}
use Rattle.account.proofs.Lines.{as_size, cost_size, side_size, in_size, cancel_line, fill_line, place_line}
use Rattle.margin.proofs.Products.{both_up}
use Rattle.account.proofs.OrderSums.{of_one, sum_of}
use Rattle.account.proofs.Events.{buy_part, sell_part, of_one_high, size_high, buys_are, sells_are}
use Rattle.account.proofs.Checked.{front_passes, passed, no_place, refuses, decided_none, step_cases}
use Rattle.account.proofs.Kept.{none_unfit, put_in_length}

-- ---- the open orders after an event
pub orders_no_more : (number : ℤ) (event : Event) (orders : List Order) → length (orders_after number event orders) ≤ length orders
unfolding orders_after kept
orders_no_more number event [] = omega arith
orders_no_more number event (o ∷ os) = by (names number o.number) (is_gone (order_after event o).state) (orders_no_more number event os)
  where
    by : (this gone : Bool) → length (orders_after number event os) ≤ length os → length {A = Order} (elim this [ true ↦ elim gone [ true ↦ os | false ↦ order_after event o ∷ os ] | false ↦ o ∷ orders_after number event os ]) ≤ suc (length os)
    by true true h = omega arith
    by true false h = omega arith
    by false gone h = omega arith

-- an event keeps what holds of each order, if the order that it meets keeps it unless it is gone
pub orders_keep : (P : Order → Type 0) (number : ℤ) (event : Event) (orders : List Order) (o : Order) → found number orders ≡ Some o → (is_gone (order_after event o).state ≡ false → P o → P (order_after event o)) → AllByRecursion P orders → AllByRecursion P (orders_after number event orders)
unfolding orders_after kept found
orders_keep P number event [] o e keeps all = all
orders_keep P number event (first ∷ os) o e keeps all = by (λ f. orders_keep P number event os o f keeps all.1) (names number first.number) e
  where
    by_kept : P o → (gone : Bool) → is_gone (order_after event o).state ≡ gone → AllByRecursion P (elim gone [ true ↦ os | false ↦ order_after event o ∷ os ])
    by_kept p true g = all.1
    by_kept p false g = (keeps g p, all.1)

    by : (found number os ≡ Some o → AllByRecursion P (orders_after number event os)) → (this : Bool) → ◌≡◌ {A = Option Order} (elim this [ true ↦ Some first | false ↦ found number os ]) (Some o) → AllByRecursion P (elim this [ true ↦ elim (is_gone (order_after event first).state) [ true ↦ os | false ↦ order_after event first ∷ os ] | false ↦ first ∷ orders_after number event os ])
    by later true f = let same : first ≡ o = cc in subst (λ (x : Order). AllByRecursion P (elim (is_gone (order_after event x).state) [ true ↦ os | false ↦ order_after event x ∷ os ])) (sym same) (by_kept (subst P same all.0) (is_gone (order_after event o).state) refl)
    by later false f = (all.0, later f)

-- an event keeps what holds of the numbers, and their order
numbers_keep : (P : ℕ → Type 0) (number : ℤ) (event : Event) (orders : List Order) → AllByRecursion (λ (o : Order). P o.number) orders → AllByRecursion (λ (o : Order). P o.number) (orders_after number event orders)
unfolding orders_after kept order_after
numbers_keep P number event [] all = all
numbers_keep P number event (o ∷ os) all = by (numbers_keep P number event os all.1) (names number o.number) (is_gone (order_after event o).state)
  where
    by : AllByRecursion (λ (o : Order). P o.number) (orders_after number event os) → (this gone : Bool) → AllByRecursion (λ (o : Order). P o.number) (elim this [ true ↦ elim gone [ true ↦ os | false ↦ order_after event o ∷ os ] | false ↦ o ∷ orders_after number event os ])
    by later true true = all.1
    by later true false = all
    by later false gone = (all.0, later)

ascending_keeps : (number : ℤ) (event : Event) (orders : List Order) → Ascending orders → Ascending (orders_after number event orders)
unfolding orders_after kept order_after
ascending_keeps number event [] up = up
ascending_keeps number event (o ∷ os) up = by (ascending_keeps number event os up.1) (names number o.number) (is_gone (order_after event o).state)
  where
    by : Ascending (orders_after number event os) → (this gone : Bool) → Ascending (elim this [ true ↦ elim gone [ true ↦ os | false ↦ order_after event o ∷ os ] | false ↦ o ∷ orders_after number event os ])
    by later true true = up.1
    by later true false = up
    by later false gone = (numbers_keep (λ n. o.number < n) number event os up.0, later)

ascending_push : (orders : List Order) (o : Order) → AllByRecursion (λ earlier. earlier.number < o.number) orders → Ascending orders → Ascending (orders ++ o ∷ [])
ascending_push [] o before up = (tt, tt)
ascending_push (first ∷ os) o before up = (All-push (λ later. first.number < later.number) os o up.0 before.0, ascending_push os o before.1 up.1)

-- what holds of each order holds of the one found
pub found_has : (P : Order → Type 0) (number : ℤ) (orders : List Order) (o : Order) → found number orders ≡ Some o → AllByRecursion P orders → P o
unfolding found
found_has P number [] o e all = absurd (let z : ◌≡◌ {A = ℕ} 0 1 = cc in omega arith)
found_has P number (first ∷ os) o e all = by (λ f. found_has P number os o f all.1) (names number first.number) e
  where
    by : (found number os ≡ Some o → P o) → (this : Bool) → ◌≡◌ {A = Option Order} (elim this [ true ↦ Some first | false ↦ found number os ]) (Some o) → P o
    by later true f = let same : first ≡ o = cc in subst P same all.0
    by later false f = later f

-- an order that a cancel meets is gone, and one that a fill leaves open has something left
cancel_ends : (lines next : ℕ) (o : Order) → is_gone (order_after Cancelled o).state ≡ false → OrderInBounds lines next o → OrderInBounds lines next (order_after Cancelled o)
unfolding order_after state_after is_gone
cancel_ends lines next o e h = absurd (by o.state e)
  where
    by : (state : OrderState) → is_gone (state_after state Cancelled (nat_abs (left_after Cancelled o.rest.left))) ≡ false → ⊥
    by Untouched e = true≢false e
    by PartlyFilled e = true≢false e
    by Gone e = true≢false e

something : (n : ℕ) (quantity : ℤ) (state : OrderState) → is_gone (state_after state (Filled quantity) n) ≡ false → 1 ≤ n
unfolding state_after fill_state is_gone
something n quantity state e = by state e
  where
    not_none : (none : Bool) → eqb n 0 ≡ none → is_gone (elim none [ true ↦ Gone | false ↦ PartlyFilled ]) ≡ false → 1 ≤ n
    not_none true f e = absurd (true≢false e)
    not_none false f e = let h = eqb-false n 0 f in omega arith

    by : (state : OrderState) → is_gone (state_after state (Filled quantity) n) ≡ false → 1 ≤ n
    by Untouched e = not_none (eqb n 0) refl e
    by PartlyFilled e = not_none (eqb n 0) refl e
    by Gone e = absurd (true≢false e)

fill_leaves : (lines next : ℕ) (quantity : ℤ) (o : Order) → pos 1 ≤ℤ quantity → quantity ≤ℤ pos (nat_abs o.rest.left) → is_gone (order_after (Filled quantity) o).state ≡ false → OrderInBounds lines next o → OrderInBounds lines next (order_after (Filled quantity) o)
unfolding order_after left_after
fill_leaves lines next quantity o low high e h = record {
  of_a_line = h.of_a_line;
  numbered_from_1 = h.numbered_from_1;
  numbered_before = h.numbered_before;
  something_left = something _ quantity o.state e;
  not_much_left = less (nat_abs o.rest.left) (nat_abs (signed o.rest.left quantity)) (nat_abs (o.rest.left -ℤ signed o.rest.left quantity)) (side_size (signed o.rest.left quantity) (o.rest.left -ℤ signed o.rest.left quantity) o.rest.left (one_side o.rest.left quantity low high) (regroup (signed o.rest.left quantity) o.rest.left)) h.not_much_left;
  limit_low = h.limit_low;
  limit_high = h.limit_high;
}
  where
    less : (x y z : ℕ) → x ≡ y + z → x ≤ 10000 → z ≤ 10000
    less x y z e h = omega arith

    regroup : (a b : ℤ) → a +ℤ (b -ℤ a) ≡ b
    regroup a b = omega (arith, ints)

-- ---- each call
summed_set : (xs : List ℕ) (i n : ℕ) → i < length xs → summed (set xs i (get_or xs i 0 + n)) ≡ summed xs + n
unfolding summed
summed_set [] i n h = absurd (omega arith)
summed_set (x ∷ xs) zero n h = omega arith
summed_set (x ∷ xs) (suc i) n h = let later = summed_set xs i n (omega arith) in omega arith

pub one_of : (count : ℕ) (line : ℤ) → name_fits count line ≡ true → named line < count
unfolding named
one_of count (pos n) e = ltb-true n count (and_parts _ _ e).1
one_of count (negsuc n) e = absurd (false≢true e)

module _ (s : State) (bounds : InBounds s) where
  pub cancel_bounded : (number : ℤ) (o : Option Order) → found number s.orders ≡ o → NoneRefuses (order_checks o (λ o. [])) → InBounds (cancelled s number)
  cancel_bounded number None e h = refuses NoSuchOrder h.0
  cancel_bounded number (Some o) e h = record {
    a_position_a_line = bounds.a_position_a_line;
    a_count_a_line = bounds.a_count_a_line;
    few_orders = le_trans (orders_no_more number Cancelled s.orders) bounds.few_orders;
    each_order = orders_keep _ number Cancelled s.orders o e (cancel_ends (length s.cards.lines) s.next o) bounds.each_order;
    numbers_ascend = ascending_keeps number Cancelled s.orders bounds.numbers_ascend;
    each_line = λ l less. cancel_line s number o e l (bounds.each_line l less);
    next_from_1 = bounds.next_from_1;
    few_numbers = bounds.few_numbers;
    collateral_bounded = bounds.collateral_bounded;
  }

  pub fill_bounded : (number quantity price : ℤ) (o : Option Order) → found number s.orders ≡ o → NoneRefuses (fill_checks quantity price o) → InBounds (on_order {X = State × Answer} o (s, StillLeft 0) (λ o. (filled s number quantity price o, StillLeft (nat_abs (left_after (Filled quantity) o.rest.left))))).0
  fill_bounded number quantity price None e h = refuses NoSuchOrder h.1.1.0
  fill_bounded number quantity price (Some o) e h = record {
    a_position_a_line = length-set s.positions _ _ ∙ bounds.a_position_a_line;
    a_count_a_line = bounds.a_count_a_line;
    few_orders = le_trans (orders_no_more number (Filled quantity) s.orders) bounds.few_orders;
    each_order = orders_keep _ number (Filled quantity) s.orders o e (fill_leaves (length s.cards.lines) s.next quantity o low high) bounds.each_order;
    numbers_ascend = ascending_keeps number (Filled quantity) s.orders bounds.numbers_ascend;
    each_line = λ l less. fill_line s number quantity price o e low high (passed _ WorseThanLimit h.1.1.1.0) cheap l (rw bounds.a_position_a_line less) (bounds.each_line l less);
    next_from_1 = bounds.next_from_1;
    few_numbers = bounds.few_numbers;
    collateral_bounded = bounds.collateral_bounded;
  }
    where
      low : pos 1 ≤ℤ quantity
      low = at_most (pos 1) quantity (and_parts _ _ (passed (quantity_fits quantity) BadQuantity h.0)).0

      high : quantity ≤ℤ pos (nat_abs o.rest.left)
      high = at_most quantity (pos (nat_abs o.rest.left)) (passed _ MoreThanLeft h.1.1.0)

      cheap : nat_abs price ≤ 10000000
      cheap = let parts = and_parts _ _ (passed (price_fits price) BadPrice h.1.0) in in_size price 10000000 (at_most (pos 0) price parts.0) (at_most price (pos 10000000) parts.1)

  pub place_bounded : (line_no quantity limit : ℤ) → NoneRefuses (bound_checks s line_no quantity limit) → InBounds (placed s line_no quantity limit)
  place_bounded line_no quantity limit h = record {
    a_position_a_line = bounds.a_position_a_line;
    a_count_a_line = length-set s.accepted _ _ ∙ bounds.a_count_a_line;
    few_orders = rw (length-append s.orders (new_order s line_no quantity limit ∷ [])) (one_more (ltb-true _ _ (passed _ OrdersFull h.1.1.1.0)));
    each_order = All-push _ s.orders (new_order s line_no quantity limit) (All-weaker _ _ (λ o b. record { of_a_line = b.of_a_line; numbered_from_1 = b.numbered_from_1; numbered_before = later b.numbered_before; something_left = b.something_left; not_much_left = b.not_much_left; limit_low = b.limit_low; limit_high = b.limit_high }) s.orders bounds.each_order) new;
    numbers_ascend = ascending_push s.orders (new_order s line_no quantity limit) (All-weaker _ _ (λ o b. b.numbered_before) s.orders bounds.each_order) bounds.numbers_ascend;
    each_line = λ l less. place_line s line_no quantity limit (passed _ NetTooLarge h.1.1.1.1.0) (leb-true _ _ (passed _ TooManyContracts h.1.1.1.1.1.0)) l (rw bounds.a_count_a_line less) (bounds.each_line l less);
    next_from_1 = later bounds.next_from_1;
    few_numbers = rw (summed_set s.accepted (named line_no) (nat_abs quantity) (rw bounds.a_count_a_line inside)) (numbers _ _ _ some bounds.few_numbers);
    collateral_bounded = bounds.collateral_bounded;
  }
    where
      inside : named line_no < length s.cards.lines
      inside = one_of _ line_no (passed _ NoSuchLine h.0)

      sized : (pos 1 ≤ℤ pos (nat_abs quantity)) × (pos (nat_abs quantity) ≤ℤ pos 10000)
      sized = let parts = and_parts _ _ (passed _ BadQuantity h.1.0) in (at_most _ _ parts.0, at_most _ _ parts.1)

      down : (m n : ℕ) → pos m ≤ℤ pos n → m ≤ n
      down m n h = omega (arith, ints)

      some : 1 ≤ nat_abs quantity
      some = down 1 (nat_abs quantity) sized.0

      later : {m n : ℕ} → m < n → m < suc n
      later h = omega arith

      one_more : {m : ℕ} → m < 32 → m + 1 ≤ 32
      one_more h = omega arith

      numbers : (next sum n : ℕ) → 1 ≤ n → next ≤ suc sum → suc next ≤ suc (sum + n)
      numbers next sum n h k = omega arith

      new : OrderInBounds (length s.cards.lines) (suc s.next) (new_order s line_no quantity limit)
      new = let parts = and_parts _ _ (passed (price_fits limit) BadPrice h.1.1.0) in record { of_a_line = inside; numbered_from_1 = bounds.next_from_1; numbered_before = omega arith; something_left = some; not_much_left = down (nat_abs quantity) 10000 sized.1; limit_low = at_most (pos 0) limit parts.0; limit_high = at_most limit (pos 10000000) parts.1 }

  -- where the collateral alone changes, each line is as it was
  pub cash_bounded : (collateral : ℕ) → collateral ≤ most_collateral → InBounds (with_collateral s collateral)
  cash_bounded collateral h = record {
    a_position_a_line = bounds.a_position_a_line;
    a_count_a_line = bounds.a_count_a_line;
    few_orders = bounds.few_orders;
    each_order = bounds.each_order;
    numbers_ascend = bounds.numbers_ascend;
    each_line = λ l less. let b = bounds.each_line l less in record { may_hold = b.may_hold; may_be_short = b.may_be_short; few_accepted = b.few_accepted; cost_bounded = b.cost_bounded };
    next_from_1 = bounds.next_from_1;
    few_numbers = bounds.few_numbers;
    collateral_bounded = h;
  }

  pub step_bounded : (call : Call) → InBounds (step s call).0
  step_bounded (Place line quantity limit) = step_cases InBounds s (Place line quantity limit) bounds (λ h. place_bounded line quantity limit (front_passes (bound_checks s line quantity limit) (unless (covered (placed s line quantity limit)) NotCovered ∷ []) h))
  step_bounded (Cancel number) = step_cases InBounds s (Cancel number) bounds (cancel_bounded number (found number s.orders) refl)
  step_bounded (Fill number quantity price) = step_cases InBounds s (Fill number quantity price) bounds (fill_bounded number quantity price (found number s.orders) refl)
  step_bounded (Deposit amount) = step_cases InBounds s (Deposit amount) bounds (λ h. cash_bounded _ (leb-true _ _ (passed _ CollateralTooLarge h.1.0)))
  step_bounded (Withdraw amount) = step_cases InBounds s (Withdraw amount) bounds (λ h. cash_bounded _ (less s.collateral (nat_abs amount) bounds.collateral_bounded))
    where
      less : (c a : ℕ) → c ≤ most_collateral → c - a ≤ most_collateral
      less c a h = omega arith
  step_bounded Margin = step_cases InBounds s Margin bounds (λ h. bounds)

pub run_bounded : (s : State) → InBounds s → (calls : List Call) → InBounds (run s calls)
unfolding run
run_bounded s bounds [] = bounds
run_bounded s bounds (call ∷ calls) = run_bounded (step s call).0 (step_bounded s bounds call) calls

-- ---- begin
record PositionFits (p : Position) : Type 0 where
  net_low : negsuc 9999 ≤ℤ p.net
  net_high : p.net ≤ℤ pos 10000
  cost_small : nat_abs p.cost ≤ dearest * 10000

held_fits_lem : (lines : ℕ) (all : List Held) (place : ℕ) (h : Held) → held_fits lines all place h ≡ true → PositionFits (held_at h)
held_fits_lem lines all place h e = record { net_low = at_most (negsuc 9999) h.net nets.0; net_high = at_most h.net (pos 10000) nets.1; cost_small = le_trans (cost_size h.net h.price (in_size h.price 10000000 (at_most (pos 0) h.price prices.0) (at_most h.price (pos 10000000) prices.1))) (most (nat_abs h.net) (size h.net (at_most (negsuc 9999) h.net nets.0) (at_most h.net (pos 10000) nets.1))) }
  where
    parts : ((name_fits lines h.line && within (negsuc 9999) (pos 10000) h.net) ≡ true) × ((price_fits h.price && is_first h.line all place) ≡ true)
    parts = and_parts (name_fits lines h.line && within (negsuc 9999) (pos 10000) h.net) (price_fits h.price && is_first h.line all place) e

    nets : (le_z (negsuc 9999) h.net ≡ true) × (le_z h.net (pos 10000) ≡ true)
    nets = and_parts (le_z (negsuc 9999) h.net) (le_z h.net (pos 10000)) (and_parts (name_fits lines h.line) (within (negsuc 9999) (pos 10000) h.net) parts.0).1

    prices : (le_z (pos 0) h.price ≡ true) × (le_z h.price (pos 10000000) ≡ true)
    prices = and_parts (le_z (pos 0) h.price) (le_z h.price (pos 10000000)) (and_parts (price_fits h.price) (is_first h.line all place) parts.1).0

    size : (n : ℤ) → negsuc 9999 ≤ℤ n → n ≤ℤ pos 10000 → nat_abs n ≤ 10000
    size (pos n) low high = omega (arith, ints)
    size (negsuc n) low high = omega (arith, ints)

    most : (n : ℕ) → n ≤ 10000 → dearest * n ≤ dearest * 10000
    most n k = omega arith

put_in_fits : (held : List Held) (positions : List Position) → AllByRecursion (λ h. PositionFits (held_at h)) held → AllByRecursion PositionFits positions → AllByRecursion PositionFits (put_in held positions)
unfolding put_in
put_in_fits [] positions hs ps = ps
put_in_fits (h ∷ held) positions hs ps = put_in_fits held (set positions (named h.line) (held_at h)) hs.1 (All-set PositionFits positions (named h.line) (held_at h) hs.0 ps)

-- where no card and no record is unfit, what is held is small
records_fit : (cards : Cards) (held : List Held) → first_unfit cards held ≡ None → AllByRecursion (λ h. PositionFits (held_at h)) held
records_fit cards held e = All-from_get_or _ held none (λ k less. held_fits_lem (length cards.lines) held k (get_or held k none) (none_fails (held_fits (length cards.lines) held) none held (none_unfit cards held e).1 k less))
  where
    none : Held
    none = record { line = pos 0; net = pos 0; price = pos 0 }

module _ (bank : Meaning) (cards : Cards) (held : List Held) (collateral : ℕ) where
  abbrev first : State
  first = first_state bank cards held collateral

  no_buys : (l : ℕ) → buys (book_of first) l ≡ pos 0
  unfolding sum_of
  no_buys l = buys_are first l

  no_sells : (l : ℕ) → sells (book_of first) l ≡ pos 0
  unfolding sum_of
  no_sells l = sells_are first l

  first_line : first_unfit cards held ≡ None → (l : ℕ) → l < length cards.lines → LineInBounds first l
  first_line e l less = record {
    may_hold = long (position (book_of first) l).net _ (no_buys l) fits.net_high;
    may_be_short = short (position (book_of first) l).net _ (no_sells l) fits.net_low;
    few_accepted = rw none_accepted (omega arith);
    cost_bounded = rw (none_accepted, no_buys l, no_sells l) (cost (nat_abs (position (book_of first) l).cost) fits.cost_small);
  }
    where
      fits : PositionFits (position (book_of first) l)
      fits = All-get_or PositionFits _ l _ (rw (put_in_length held (replicate (length cards.lines) nothing), length-replicate (length cards.lines) nothing) less) (put_in_fits held _ (records_fit cards held e) (All-from_get_or PositionFits _ nothing (λ i i-less. rw (get_or-replicate (length cards.lines) i nothing nothing (subst (λ (n : ℕ). i < n) (length-replicate (length cards.lines) nothing) i-less)) (record { net_low = omega (arith, ints); net_high = omega (arith, ints); cost_small = omega arith }))))

      none_accepted : get_or {A = ℕ} (replicate (length cards.lines) 0) l 0 ≡ 0
      none_accepted = get_or-replicate (length cards.lines) l 0 0 less

      long : (n b : ℤ) → b ≡ pos 0 → n ≤ℤ pos 10000 → (n +ℤ b) ≤ℤ pos 10000
      long n b e h = omega (arith, ints)

      short : (n b : ℤ) → b ≡ pos 0 → negsuc 9999 ≤ℤ n → (b -ℤ n) ≤ℤ pos 10000
      short n b e h = omega (arith, ints)

      cost : (c : ℕ) → c ≤ dearest * 10000 → (pos c +ℤ pos 0) ≤ℤ pos (dearest * 10000)
      cost c h = omega (arith, ints)

  pub first_bounded : first_unfit cards held ≡ None → collateral ≤ most_collateral → InBounds first
  first_bounded e few = record {
    a_position_a_line = put_in_length held (replicate (length cards.lines) nothing) ∙ length-replicate (length cards.lines) nothing;
    a_count_a_line = length-replicate (length cards.lines) 0;
    few_orders = omega arith;
    each_order = tt;
    numbers_ascend = tt;
    each_line = first_line e;
    next_from_1 = omega arith;
    few_numbers = omega arith;
    collateral_bounded = few;
  }

pub bounded_after_any_calls : BoundedAfterAnyCalls
unfolding begin
bounded_after_any_calls bank cards held collateral begun e calls =
    let made = decided_none (begin_checks bank cards held collateral) (first_state bank cards held (nat_abs collateral)) begun e in
    let amounts = and_parts _ _ (passed (amount_fits collateral) BadAmount made.0.1.1.0) in
    run_bounded begun (subst InBounds made.1 (first_bounded bank cards held (nat_abs collateral) (no_place (first_unfit cards held) BadCard made.0.0) (in_size collateral most_collateral (at_most (pos 0) collateral amounts.0) (at_most collateral (pos most_collateral) amounts.1)))) calls

-- ---- small lines
sum_high : (l : ℕ) (part : Open → ℤ) → ((o : Open) → pos 0 ≤ℤ part o) → (orders : List Order) → pos 0 ≤ℤ sum_of (of_one l part) orders
unfolding sum_of
sum_high l part h [] = ≤ℤ_refl (pos 0)
sum_high l part h (o ∷ os) = sum_le (pos 0) _ (pos 0) _ (of_one_high l part o.rest (h o.rest)) (sum_high l part h os)

pub in_bounds_is_small : InBoundsIsSmall
in_bounds_is_small s bounds l less = record {
  net_small = size (position (book_of s) l).net (buys (book_of s) l) (sells (book_of s) l) (nat_abs (position (book_of s) l).net) (as_size (position (book_of s) l).net) some_buys some_sells b.may_hold b.may_be_short;
  cost_small = cost (nat_abs (position (book_of s) l).cost) (pos dearest *ℤ (buys (book_of s) l +ℤ sells (book_of s) l)) (get_or s.accepted l 0) (both_up (pos dearest) (buys (book_of s) l +ℤ sells (book_of s) l) (omega (arith, ints)) (sum_le (pos 0) _ (pos 0) _ some_buys some_sells)) b.few_accepted b.cost_bounded;
  buys_low = some_buys;
  buys_small = few (position (book_of s) l).net (buys (book_of s) l) (sells (book_of s) l) some_sells b.may_hold b.may_be_short;
  sells_low = some_sells;
  sells_small = few_sold (position (book_of s) l).net (buys (book_of s) l) (sells (book_of s) l) some_buys b.may_hold b.may_be_short;
}
  where
    b : LineInBounds s l
    b = bounds.each_line l less

    some_buys : pos 0 ≤ℤ buys (book_of s) l
    some_buys = rw (buys_are s l) (sum_high l buy_part (λ o. size_high o.left) s.orders)

    some_sells : pos 0 ≤ℤ sells (book_of s) l
    some_sells = rw (sells_are s l) (sum_high l sell_part (λ o. size_high (neg_ℤ o.left)) s.orders)

    size : (n b c : ℤ) (x : ℕ) → pos x ≡ int_max n (neg_ℤ n) → pos 0 ≤ℤ b → pos 0 ≤ℤ c → (n +ℤ b) ≤ℤ pos 10000 → (c -ℤ n) ≤ℤ pos 10000 → x ≤ 10000
    size n b c x e h k p q = omega (arith, ints, clamps)

    few : (n b c : ℤ) → pos 0 ≤ℤ c → (n +ℤ b) ≤ℤ pos 10000 → (c -ℤ n) ≤ℤ pos 10000 → b ≤ℤ pos 20000
    few n b c k p q = omega (arith, ints)

    few_sold : (n b c : ℤ) → pos 0 ≤ℤ b → (n +ℤ b) ≤ℤ pos 10000 → (c -ℤ n) ≤ℤ pos 10000 → c ≤ℤ pos 20000
    few_sold n b c k p q = omega (arith, ints)

    cost : (c : ℕ) (o : ℤ) (a : ℕ) → pos 0 ≤ℤ o → a ≤ 20000 → (pos c +ℤ o) ≤ℤ pos (dearest * (10000 + a)) → c ≤ 24000000000000000
    cost c o a h k p = omega (arith, ints)
