-- What calls are told at both sides of each of their bounds, worked out by the definitions on an account of one future.
use Rattle.std.specs.Prelude.{◌≡◌, ℕ, [], ◌∷◌, drop, replicate, pos, negsuc, Ok, Err}
use Rattle.terms.specs.declared.cards.Family.{Family}
use Rattle.terms.specs.declared.cards.Month.{Month}
use Rattle.terms.specs.declared.cards.Line.{Line}
use Rattle.terms.specs.declared.refusal.Refusal.TheVariants.{BadCard, WrongShape, NoSuchLine, BadQuantity, BadPrice, BadAmount, OrdersFull, NetTooLarge, TooManyContracts, NotCovered, NoSuchOrder, MoreThanLeft, WorseThanLimit, CollateralTooLarge}
use Rattle.margin.specs.Book.{Cards}
use Rattle.margin.specs.Figures.{future, netted_family_card, one_future}
use Rattle.account.specs.declared.call.Call.TheVariants.{Place, Cancel, Fill, Deposit, Withdraw}
use Rattle.account.specs.Account.{Numbered, StillLeft, Ended, Collateral}
use Rattle.account.specs.Figures.{begun, told, holding, empty, buy_at}

-- cards of one of each, of which these may be bad
unfoldable pub one_of : Family → Month → Line → ℕ → Cards
one_of family month line futures = record { families = family ∷ []; baskets = one_future.baskets; months = month ∷ []; lines = line ∷ []; futures = futures }

pub record RefusedCalls : Type 0 where
  pub places : told (empty (pos 1000000)) (Place (negsuc 0) (pos 0) (pos 0) ∷ Place (pos 1) (pos 1) (pos 0) ∷ Place (pos 0) (pos 0) (pos 0) ∷ Place (pos 0) (negsuc 10000) (pos 0) ∷ Place (pos 0) (pos 1) (negsuc 0) ∷ Place (pos 0) (pos 1) (pos 10000001) ∷ Place (pos 0) (pos 1) (pos 0) ∷ []) ≡ Err NoSuchLine ∷ Err NoSuchLine ∷ Err BadQuantity ∷ Err BadQuantity ∷ Err BadPrice ∷ Err BadPrice ∷ Ok (Numbered 1) ∷ []
  pub places_above_the_net : told (empty (pos 100000000000000)) (buy_at (pos 10000) (pos 90000) ∷ buy_at (pos 1) (pos 90000) ∷ buy_at (negsuc 9999) (pos 90000) ∷ buy_at (negsuc 0) (pos 90000) ∷ Cancel (pos 1) ∷ buy_at (pos 1) (pos 90000) ∷ []) ≡ Ok (Numbered 1) ∷ Err NetTooLarge ∷ Ok (Numbered 2) ∷ Err NetTooLarge ∷ Ok (Ended 10000) ∷ Err TooManyContracts ∷ []
  pub places_above_32 : drop 31 (told (empty (pos 1000000)) (replicate 33 (buy_at (pos 1) (pos 90000)))) ≡ Ok (Numbered 32) ∷ Err OrdersFull ∷ []
  pub fills_of_a_buy : told (empty (pos 1000000)) (buy_at (pos 3) (pos 90000) ∷ Fill (pos 1) (pos 0) (pos 90000) ∷ Fill (pos 1) (pos 10001) (pos 90000) ∷ Fill (pos 1) (pos 1) (negsuc 0) ∷ Fill (pos 2) (pos 4) (pos 90001) ∷ Fill (pos 1) (pos 4) (pos 90001) ∷ Fill (pos 1) (pos 3) (pos 90001) ∷ Fill (pos 1) (pos 1) (pos 90000) ∷ Fill (pos 1) (pos 2) (pos 89999) ∷ Fill (pos 1) (pos 1) (pos 0) ∷ []) ≡ Ok (Numbered 1) ∷ Err BadQuantity ∷ Err BadQuantity ∷ Err BadPrice ∷ Err NoSuchOrder ∷ Err MoreThanLeft ∷ Err WorseThanLimit ∷ Ok (StillLeft 2) ∷ Ok (StillLeft 0) ∷ Err NoSuchOrder ∷ []
  pub fills_of_a_sell : told (empty (pos 1000000)) (buy_at (negsuc 1) (pos 110000) ∷ Fill (pos 1) (pos 1) (pos 109999) ∷ Fill (pos 1) (pos 1) (pos 110001) ∷ Cancel (pos 1) ∷ Cancel (pos 1) ∷ buy_at (pos 1) (pos 90000) ∷ []) ≡ Ok (Numbered 1) ∷ Err WorseThanLimit ∷ Ok (StillLeft 1) ∷ Ok (Ended 1) ∷ Err NoSuchOrder ∷ Ok (Numbered 2) ∷ []
  pub amounts : told (empty (pos 5)) (Deposit (negsuc 0) ∷ Deposit (pos 100000000000001) ∷ Deposit (pos 99999999999996) ∷ Deposit (pos 99999999999995) ∷ Withdraw (pos 100000000000001) ∷ Withdraw (pos 100000000000000) ∷ Withdraw (pos 1) ∷ Deposit (pos 1) ∷ buy_at (pos 1) (pos 90001) ∷ Withdraw (pos 1) ∷ Withdraw (pos 0) ∷ []) ≡ Err BadAmount ∷ Err BadAmount ∷ Err CollateralTooLarge ∷ Ok (Collateral 100000000000000) ∷ Err BadAmount ∷ Ok (Collateral 0) ∷ Err NotCovered ∷ Ok (Collateral 1) ∷ Ok (Numbered 1) ∷ Err NotCovered ∷ Ok (Collateral 1) ∷ []
  pub a_bad_family : begun (one_of (record { rule = pos 2; window = pos 0 }) (record { basket = pos 1 }) (future (pos 0) (pos 0)) 1) [] (pos 0) ≡ Err (BadCard 0)
  pub a_bad_month : begun (one_of netted_family_card (record { basket = pos 1 }) (future (pos 1) (pos 0)) 1) [] (pos 0) ≡ Err (BadCard 2)
  pub a_bad_line : begun (one_of netted_family_card (record { basket = pos 0 }) (future (pos 1) (pos 0)) 2) [] (pos 0) ≡ Err (BadCard 3)
  pub too_many_futures : begun (one_of netted_family_card (record { basket = pos 0 }) (future (pos 0) (pos 0)) 2) [] (negsuc 0) ≡ Err WrongShape
  pub held_of_no_line : begun one_future (holding (pos 1) (pos 1) (pos 100000) ∷ []) (negsuc 0) ≡ Err (BadCard 4)
  pub held_too_many : begun one_future (holding (pos 0) (pos 10001) (pos 100000) ∷ []) (pos 0) ≡ Err (BadCard 4)
  pub held_twice : begun one_future (holding (pos 0) (pos 1) (pos 100000) ∷ holding (pos 0) (pos 1) (pos 100000) ∷ []) (pos 1000000) ≡ Err (BadCard 5)
  pub no_such_collateral : begun one_future (holding (pos 0) (pos 10) (pos 100000) ∷ []) (negsuc 0) ≡ Err BadAmount
  pub held_not_covered : begun one_future (holding (pos 0) (pos 10) (pos 100000) ∷ []) (pos 99999) ≡ Err NotCovered
