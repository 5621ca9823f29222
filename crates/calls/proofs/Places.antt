-- The open orders by their places in the list, as a program that searches the list and changes it in place meets them.
use Rattle.std.proofs.Common.{◌≡◌, ℕ, zero, suc, ◌<◌, Bool, true, false, cond, eqb, List, [], ◌∷◌, ◌++◌, length, get_or, take, drop, set, ℤ, pos, negsuc, nat_abs, Some, None, Ok, Err, Option, Result, sym, refl, ap, ◌∙◌, subst, ⊎_elim, le_refl, arith, w64, SFits}
use Rattle.std.proofs.lemmas.Bool.{lt-ltb, le-ltb, cases_lt}
use denote.Enum.Bare.{sameb}
use Rattle.std.specs.Result.{OkIff, result_eq}
use Rattle.std.specs.Int.{FitsUnsignedBits}
use Rattle.std.specs.declared.num.TryFromIntError.{TryFromIntError}
use Rattle.std.specs.List.{position, position_or_len, remove}
use Rattle.std.proofs.lemmas.List.Sums.{passes_at_first, fails_before_first}
use Rattle.std.proofs.lemmas.List.{set_split, set-get_or, take-set-le, drop-set-lt, get_or-set_same}
use Rattle.margin.specs.Book.{names}
use Rattle.account.specs.declared.orders.Order.{Order}
use Rattle.account.specs.declared.orders.OrderState.{OrderState}
use Rattle.account.specs.declared.orders.OrderState.TheVariants.{Untouched, PartlyFilled, Gone}
use Rattle.account.specs.contracts.orders.OrderState.{the_type}
use Rattle.account.specs.declared.orders.Event.{Event}
use Rattle.calls.specs.Accounts.{FirstAt, PlaceOf, none_open}
use Rattle.account.specs.Orders.{order_after, is_gone, found, kept, orders_after}

-- ---- numbers
pub names_is : (number : ℤ) (own : ℕ) (same : TryFromIntError → TryFromIntError → Bool) (r : Result ℕ TryFromIntError) → SFits w64 number → OkIff r (FitsUnsignedBits 64 number) (nat_abs number) → result_eq eqb same r (Ok own) ≡ names number own
unfolding names
names_is (pos n) own same (Ok m) fits h = ap (λ (k : ℕ). eqb k own) h.1
names_is (negsuc n) own same (Ok m) fits h = absurd h.0
names_is (pos n) own same (Err e) fits h = absurd (h (let f = fits.sfits in omega arith))
names_is (negsuc n) own same (Err e) fits h = refl

-- ---- places
later : (d : Order) (number : ℤ) (o : Order) (os : List Order) (i : ℕ) → FirstAt d number (o ∷ os) (suc i) → FirstAt d number os i
later d number o os i h = record { inside = let k = h.inside in omega arith; here = h.here; none_before = λ k less. h.none_before (suc k) (omega arith) }

-- a search that finds none
pub found_none : (d : Order) (number : ℤ) (orders : List Order) → ((k : ℕ) → k < length orders → names number (get_or orders k d).number ≡ false) → found number orders ≡ None
unfolding found
found_none d number [] h = refl
found_none d number (o ∷ os) h = ap (λ (this : Bool). elim this [ true ↦ Some o | false ↦ found number os ]) (h 0 (omega arith)) ∙ found_none d number os (λ k less. h (suc k) (omega arith))

-- and one that finds a place
pub found_at : (d : Order) (number : ℤ) (orders : List Order) (i : ℕ) → FirstAt d number orders i → found number orders ≡ Some (get_or orders i d)
unfolding found
found_at d number [] i h = absurd (let k = h.inside in omega arith)
found_at d number (o ∷ os) zero h = ap (λ (this : Bool). elim this [ true ↦ Some o | false ↦ found number os ]) h.here
found_at d number (o ∷ os) (suc i) h = ap (λ (this : Bool). elim this [ true ↦ Some o | false ↦ found number os ]) (h.none_before 0 (omega arith)) ∙ found_at d number os i (later d number o os i h)

-- the orders after an event, by that place
pub after_at : (d : Order) (number : ℤ) (event : Event) (orders : List Order) (i : ℕ) → FirstAt d number orders i → orders_after number event orders ≡ take i orders ++ kept (order_after event (get_or orders i d)) (drop (suc i) orders)
unfolding orders_after
after_at d number event [] i h = absurd (let k = h.inside in omega arith)
after_at d number event (o ∷ os) zero h = ap (λ (this : Bool). elim this [ true ↦ kept (order_after event o) os | false ↦ o ∷ orders_after number event os ]) h.here
after_at d number event (o ∷ os) (suc i) h = ap (λ (this : Bool). elim this [ true ↦ kept (order_after event o) os | false ↦ o ∷ orders_after number event os ]) (h.none_before 0 (omega arith)) ∙ ap (λ (rest : List Order). o ∷ rest) (after_at d number event os i (later d number o os i h))

-- the states' own test
pub gone_is : (state : OrderState) → sameb the_type state Gone ≡ is_gone state
unfolding is_gone
gone_is Untouched = refl
gone_is PartlyFilled = refl
gone_is Gone = refl

-- ---- the order at a place, which leaves the list if it is gone
pub gone_leaves : (orders : List Order) (i : ℕ) (o : Order) → is_gone o.state ≡ true → remove orders i ≡ take i orders ++ kept o (drop (suc i) orders)
unfolding kept
gone_leaves orders i o e = ap (λ (gone : Bool). take i orders ++ elim gone [ true ↦ drop (suc i) orders | false ↦ o ∷ drop (suc i) orders ]) (sym e)

pub open_stays : (d : Order) (orders : List Order) (i : ℕ) → i < length orders → is_gone (get_or orders i d).state ≡ false → orders ≡ take i orders ++ kept (get_or orders i d) (drop (suc i) orders)
unfolding kept
open_stays d orders i inside e = sym (set-get_or orders i d) ∙ set_split orders i (get_or orders i d) inside ∙ ap (λ (gone : Bool). take i orders ++ elim gone [ true ↦ drop (suc i) orders | false ↦ get_or orders i d ∷ drop (suc i) orders ]) (sym e)

-- an order changed at its place, and settled there
pub changed_settled : (d : Order) (orders : List Order) (i : ℕ) (o : Order) → i < length orders → take i (set orders i o) ++ kept (get_or (set orders i o) i d) (drop (suc i) (set orders i o)) ≡ take i orders ++ kept o (drop (suc i) orders)
changed_settled d orders i o inside = rw (take-set-le i orders i o (le_refl i), get_or-set_same orders i o d inside, drop-set-lt (suc i) orders i o (le_refl (suc i))) refl

-- ---- a search for the first order that has a number
pub place_is : (number : ℤ) (orders : List Order) (r : Option ℕ) → r ≡ position (λ o. names number o.number) orders → PlaceOf number orders r
place_is number orders r e =
    ⊎_elim
    (λ inside. subst (PlaceOf number orders) (sym (e ∙ ap at_place (lt-ltb first (length orders) inside))) (record { inside = inside; here = passes_at_first test orders none_open inside; none_before = λ k less. fails_before_first test orders k none_open less }))
    (λ past. subst (PlaceOf number orders) (sym (e ∙ ap at_place (le-ltb first (length orders) past))) (found_none none_open number orders (λ k less. fails_before_first test orders k none_open (omega arith))))
    (cases_lt first (length orders))
  where
    test : Order → Bool
    test o = names number o.number

    first : ℕ
    first = position_or_len test orders

    at_place : Bool → Option ℕ
    at_place inside = cond inside (Some first) None
