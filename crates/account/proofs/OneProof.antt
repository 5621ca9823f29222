-- The bounds of a state can be proved in one way at most, so that what an invariant keeps of them truncated comes out whole; and they read no bank.
use Rattle.std.proofs.Common.{ℕ, ℤ, ◌≤ℤ◌, List, [], ◌∷◌, refl}
use std.HLevel.{Π_prop}
use native.Mathlib.Bridge.{le_prop}
use base.Stored.{coded_ℕ}
use denote.Struct.Props.{≡_prop, props}
use Rattle.std.specs.List.{AllByRecursion-prop}
use Rattle.banks.specs.Meanings.{Meaning}
use Rattle.account.specs.declared.orders.Order.{Order}
use Rattle.account.specs.Account.{State}
use Rattle.account.specs.Bounds.{OrderInBounds, Ascending, LineInBounds, InBounds}

at_most_one : (a b : ℤ) → IsProp (a ≤ℤ b)
at_most_one a b = hlevel props

order_one : (lines next : ℕ) (o : Order) → IsProp (OrderInBounds lines next o)
order_one lines next o p q = λ i. record {
  of_a_line = le_prop p.of_a_line q.of_a_line i;
  numbered_from_1 = le_prop p.numbered_from_1 q.numbered_from_1 i;
  numbered_before = le_prop p.numbered_before q.numbered_before i;
  something_left = le_prop p.something_left q.something_left i;
  not_much_left = le_prop p.not_much_left q.not_much_left i;
  limit_low = at_most_one _ _ p.limit_low q.limit_low i;
  limit_high = at_most_one _ _ p.limit_high q.limit_high i;
}

ascending_one : (orders : List Order) → IsProp (Ascending orders)
ascending_one [] p q = refl
ascending_one (o ∷ os) p q = λ i. (AllByRecursion-prop _ (λ later. le_prop) os p.0 q.0 i, ascending_one os p.1 q.1 i)

line_one : (s : State) (l : ℕ) → IsProp (LineInBounds s l)
line_one s l p q = λ i. record {
  may_hold = at_most_one _ _ p.may_hold q.may_hold i;
  may_be_short = at_most_one _ _ p.may_be_short q.may_be_short i;
  few_accepted = le_prop p.few_accepted q.few_accepted i;
  cost_bounded = at_most_one _ _ p.cost_bounded q.cost_bounded i;
}

pub in_bounds_one : (s : State) → IsProp (InBounds s)
in_bounds_one s p q = λ i. record {
  a_position_a_line = ≡_prop coded_ℕ _ _ p.a_position_a_line q.a_position_a_line i;
  a_count_a_line = ≡_prop coded_ℕ _ _ p.a_count_a_line q.a_count_a_line i;
  few_orders = le_prop p.few_orders q.few_orders i;
  each_order = AllByRecursion-prop _ (order_one _ _) s.orders p.each_order q.each_order i;
  numbers_ascend = ascending_one s.orders p.numbers_ascend q.numbers_ascend i;
  each_line = Π_prop (λ l. Π_prop (λ less. line_one s l)) p.each_line q.each_line i;
  next_from_1 = le_prop p.next_from_1 q.next_from_1 i;
  few_numbers = le_prop p.few_numbers q.few_numbers i;
  collateral_bounded = le_prop p.collateral_bounded q.collateral_bounded i;
}

-- the same state over another bank
abbrev pub over_bank : Meaning → State → State
over_bank bank s = record { bank = bank; cards = s.cards; positions = s.positions; orders = s.orders; accepted = s.accepted; next = s.next; collateral = s.collateral }

pub any_bank : (s : State) (bank : Meaning) → InBounds s → InBounds (over_bank bank s)
any_bank s bank b = record {
  a_position_a_line = b.a_position_a_line;
  a_count_a_line = b.a_count_a_line;
  few_orders = b.few_orders;
  each_order = b.each_order;
  numbers_ascend = b.numbers_ascend;
  each_line = λ l less. let h = b.each_line l less in record { may_hold = h.may_hold; may_be_short = h.may_be_short; few_accepted = h.few_accepted; cost_bounded = h.cost_bounded };
  next_from_1 = b.next_from_1;
  few_numbers = b.few_numbers;
  collateral_bounded = b.collateral_bounded;
}
