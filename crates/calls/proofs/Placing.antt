-- What the checks say of an order that they let pass, and how far numbers run.
use Rattle.std.proofs.Common.{◌≡◌, ℕ, suc, ◌+◌, ◌*◌, ◌<◌, ◌≤◌, Bool, true, leb, List, [], ◌∷◌, ◌++◌, length, get_or, set, ℤ, pos, negsuc, nat_abs, ◌≤ℤ◌, Some, None, Ok, Option, sym, refl, ap, ◌∙◌, suc-mul, arith}
use Rattle.std.proofs.lemmas.List.{get_or-set_same, map-append}
use Rattle.std.proofs.lemmas.Int.{ints}
use Rattle.std.proofs.lemmas.Bool.{and_parts, ltb-true, false≢true}
use Rattle.terms.specs.Checks.{unless}
use Rattle.terms.specs.declared.refusal.Refusal.{Refusal}
use Rattle.terms.specs.declared.refusal.Refusal.TheVariants.{NoSuchLine, BadQuantity, NetTooLarge, TooManyContracts, NotCovered}
use Rattle.margin.specs.declared.book.Open.{Open}
use Rattle.margin.specs.Book.{Book, named}
use Rattle.margin.proofs.SumLaws.{at_most}
use Rattle.deck.specs.Judgements.{name_fits}
use Rattle.account.specs.declared.orders.Order.{Order}
use Rattle.account.specs.declared.orders.OrderState.TheVariants.{Untouched}
use Rattle.account.specs.Account.{State, book_of, bound_checks, quantity_fits, price_fits, book_net_fits, covered, new_order, placed}
use Rattle.calls.specs.States.{state_with}
use Rattle.calls.specs.Accounts.{rest_of, book_with, trial_checks, judged}
use Rattle.account.specs.Bounds.{InBounds, summed}
use Rattle.account.specs.Runs.{NoneRefuses}
use Rattle.account.proofs.Checked.{passed}
use Rattle.account.proofs.Lines.{in_size}

pub contracts_fit : (n : ℕ) → quantity_fits (pos n) ≡ true → (1 ≤ n) × (n ≤ 10000)
contracts_fit n e = let parts = and_parts _ _ e in (down 1 n (at_most (pos 1) (pos n) parts.0), down n 10000 (at_most (pos n) (pos 10000) parts.1))
  where
    down : (m n : ℕ) → pos m ≤ℤ pos n → m ≤ n
    down m n h = omega (arith, ints)

pub price_fits_lem : (price : ℤ) → price_fits price ≡ true → nat_abs price ≤ 10000000
price_fits_lem price e = let parts = and_parts _ _ e in in_size price 10000000 (at_most (pos 0) price parts.0) (at_most price (pos 10000000) parts.1)

module _ (s : State) (b : InBounds s) (line : ℕ) (quantity limit : ℤ) (h : NoneRefuses (bound_checks s (pos line) quantity limit)) where
  pub line_inside : line < length s.cards.lines
  line_inside = ltb-true line (length s.cards.lines) (and_parts _ _ (passed _ NoSuchLine h.0)).1

  pub few_contracts : nat_abs quantity ≤ 10000
  few_contracts = (contracts_fit (nat_abs quantity) (passed _ BadQuantity h.1.0)).1

-- numbers run no further than contracts are accepted
summed_few : (xs : List ℕ) (most : ℕ) → ((i : ℕ) → i < length xs → get_or xs i 0 ≤ most) → summed xs ≤ length xs * most
unfolding summed
summed_few [] most h = omega arith
summed_few (x ∷ xs) most h = let first = h 0 (omega arith) in let later = summed_few xs most (λ i less. h (suc i) (omega arith)) in linear x (summed xs) first later
  where
    linear : (x y : ℕ) → x ≤ most → y ≤ length xs * most → x + y ≤ suc (length xs) * most
    linear x y h k = rw (suc-mul (length xs) most) (omega arith)

pub next_small : (s : State) → InBounds s → length s.cards.lines ≤ 16 → s.next ≤ 320001
next_small s b few = let all = summed_few s.accepted 20000 (λ l less. (b.each_line l (rw (sym b.a_count_a_line) less)).few_accepted) in omega (arith, b.few_numbers, b.a_count_a_line)

-- ---- an order on trial
-- a line that is named is the number of its name
pub named_size : (count : ℕ) (line : ℤ) → name_fits count line ≡ true → nat_abs line ≡ named line
unfolding named
named_size count (pos n) e = refl
named_size count (negsuc n) e = absurd (false≢true e)

-- and its name is its number
numbered_back : (count : ℕ) (line : ℤ) → name_fits count line ≡ true → pos (nat_abs line) ≡ line
numbered_back count (pos n) e = refl
numbered_back count (negsuc n) e = absurd (false≢true e)

pub front_none : (first later : List (Option Refusal)) → judged (first ++ later) ≡ Ok tt → judged first ≡ Ok tt
front_none [] later e = refl
front_none (None ∷ first) later e = front_none first later e
front_none (Some why ∷ first) later e = e

-- whatever is made of the order that a call asks for is made of what the call says
pub of_asked : {X : Type 0} (F : ℤ → ℤ → ℤ → X) (count : ℕ) (line quantity limit : ℤ) (order : Open) → name_fits count line ≡ true → order ≡ record { line = nat_abs line; left = quantity; limit = limit } → F (pos order.line) order.left order.limit ≡ F line quantity limit
of_asked F count line quantity limit order has e = ap (λ (o : Open). F (pos o.line) o.left o.limit) e ∙ ap (λ (l : ℤ). F l quantity limit) (numbered_back count line has)

pub asked_is : (count : ℕ) (line quantity limit : ℤ) (order : Open) → name_fits count line ≡ true → order ≡ record { line = nat_abs line; left = quantity; limit = limit } → order ≡ record { line = named line; left = quantity; limit = limit }
asked_is count line quantity limit order has e = e ∙ ap (λ (n : ℕ). numbered n) (named_size count line has)
  where
    numbered : ℕ → Open
    numbered n = record { line = n; left = quantity; limit = limit }

pub three_pass : (a b c : Bool) (x y z : Refusal) (rest : List (Option Refusal)) → a ≡ true → b ≡ true → c ≡ true → judged rest ≡ judged (unless a x ∷ unless b y ∷ unless c z ∷ rest)
three_pass a b c x y z rest e f g = rw (e, f, g) refl

-- the checks of an order by the state in which it is placed
abbrev pub book_checks : State → ℤ → ℤ → ℤ → List (Option Refusal)
book_checks s line quantity limit = unless (book_net_fits (book_of (placed s line quantity limit)) (named line)) NetTooLarge ∷ unless (leb (get_or (placed s line quantity limit).accepted (named line) 0) 20000) TooManyContracts ∷ unless (covered (placed s line quantity limit)) NotCovered ∷ []

module _ (s : State) (line quantity limit : ℤ) (inside : named line < length s.accepted) where
  abbrev on_trial : Open
  on_trial = record { line = named line; left = quantity; limit = limit }

  abbrev of_orders : List Open → Book
  of_orders orders = record { positions = s.positions; orders = orders }

  -- the book of the state with the order placed is the book on trial
  trial_book : book_with s on_trial ≡ book_of (placed s line quantity limit)
  trial_book = ap (λ (os : List Open). of_orders os) (sym (map-append rest_of s.orders (new_order s line quantity limit ∷ [])))

  pub trial_is : trial_checks s (book_with s on_trial) (named line) (nat_abs quantity) ≡ book_checks s line quantity limit
  trial_is =
      ap (λ (book : Book). trial_checks s book (named line) (nat_abs quantity)) trial_book
      ∙ ap (λ (n : ℕ). unless (book_net_fits (book_of (placed s line quantity limit)) (named line)) NetTooLarge ∷ unless (leb n 20000) TooManyContracts ∷ unless (covered (placed s line quantity limit)) NotCovered ∷ []) (sym (get_or-set_same s.accepted (named line) (get_or s.accepted (named line) 0 + nat_abs quantity) 0 inside))

-- ---- an order placed
pub placed_is : (s : State) (line : ℕ) (quantity limit : ℤ) (orders : List Order) (count next : ℕ) → orders ≡ s.orders ++ record { number = s.next; rest = record { line = line; left = quantity; limit = limit }; state = Untouched } ∷ [] → count ≡ get_or s.accepted line 0 + nat_abs quantity → next ≡ s.next + 1 → state_with s.bank s.cards s.positions orders (set s.accepted line count) next s.collateral ≡ placed s (pos line) quantity limit
unfolding named
placed_is s line quantity limit orders count next e f g =
    ap (λ (os : List Order). state_with s.bank s.cards s.positions os (set s.accepted line count) next s.collateral) e
    ∙ ap (λ (n : ℕ). state_with s.bank s.cards s.positions (placed s (pos line) quantity limit).orders (set s.accepted line n) next s.collateral) f
    ∙ ap (λ (n : ℕ). state_with s.bank s.cards s.positions (placed s (pos line) quantity limit).orders (placed s (pos line) quantity limit).accepted n s.collateral) (g ∙ one_more)
  where
    one_more : s.next + 1 ≡ suc s.next
    one_more = omega arith
