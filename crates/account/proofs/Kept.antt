-- What every state has that an account comes to from its begin: a position for each line, futures whose rates do not fall, and a margin that the collateral covers.
use Rattle.std.proofs.Common.{◌≡◌, ℕ, ◌+◌, ◌-◌, ◌≤◌, true, ◌||◌, leb, List, [], ◌∷◌, length, set, replicate, ℤ, pos, nat_abs, ◌≤ℤ◌, Some, None, Ok, Option, refl, ◌∙◌, subst, ⊎_elim, le_trans, arith}
use Rattle.std.proofs.lemmas.List.{length-set, length-replicate}
use Rattle.std.proofs.lemmas.Bool.{and_parts, or_cases, leb-true, ltb-true, lt-leb, both_ways, false≢true}
use Rattle.terms.specs.Cards.{future_fits}
use Rattle.terms.specs.declared.cards.Line.{Line}
use Rattle.terms.specs.declared.cards.Held.{Held}
use Rattle.terms.specs.declared.refusal.Refusal.TheVariants.{BadCard, BadQuantity, NotCovered, NoSuchOrder, MoreThanLeft, WorseThanLimit}
use Rattle.banks.specs.Meanings.{Meaning}
use Rattle.terms.specs.Judging.{failing}
use Rattle.terms.proofs.Places.{none_fails}
use Rattle.margin.specs.declared.book.Position.{Position}
use Rattle.margin.specs.Book.{Cards, named, line, is_future}
use Rattle.margin.proofs.SumLaws.{at_most}
use Rattle.deck.specs.Judgements.{family_fits, basket_fits, month_fits, line_fits, held_fits, along, first_unfit, no_line}
use Rattle.deck.proofs.Facts.{along_none}
use Rattle.account.specs.declared.orders.Order.{Order}
use Rattle.account.specs.declared.call.Call.{Call}
use Rattle.account.specs.declared.call.Call.TheVariants.{Place, Cancel, Fill, Deposit, Withdraw, Margin}
use Rattle.account.specs.declared.orders.Event.TheVariants.{Filled}
use Rattle.account.specs.Orders.{found, left_after}
use Rattle.account.specs.Account.{State, Answer, last_of, book_of, margin_of, quantity_fits, StillLeft, order_checks, on_order, checks, fill_checks, step, run, cancelled, filled, placed, with_collateral}
use Rattle.account.specs.Begin.{held_at, nothing, put_in, first_state, begin_checks, begin}
use Rattle.account.specs.Runs.{NoneRefuses, fill_or_cancel, OnlyFillsAndCancels}
use Rattle.account.proofs.Eased.{RatesRise, FuturesRise, margin_eases}
use Rattle.account.proofs.Events.{fill_eases, cancel_eases}
use Rattle.account.proofs.Checked.{passed, no_place, refuses, decided_none, step_cases}

pub record Kept (s : State) : Type 0 where
  pub a_position_a_line : length s.positions ≡ length s.cards.lines
  pub rates_rise : FuturesRise s.cards
  pub covers : margin_of s ≤ s.collateral

-- ---- fills and cancels
-- a state with what every state has, and with no greater margin than another
pub record Lower (s s' : State) : Type 0 where
  pub kept : Kept s'
  pub no_greater : margin_of s' ≤ margin_of s

module _ (s : State) (kept : Kept s) where
  same : Lower s s
  same = record { kept = kept; no_greater = omega arith }

  cancel_lowers : (number : ℤ) (o : Option Order) → found number s.orders ≡ o → NoneRefuses (order_checks o (λ o. [])) → Lower s (cancelled s number)
  cancel_lowers number None e h = refuses NoSuchOrder h.0
  cancel_lowers number (Some o) e h = record { kept = record { a_position_a_line = kept.a_position_a_line; rates_rise = kept.rates_rise; covers = le_trans lower kept.covers }; no_greater = lower }
    where
      lower : margin_of (cancelled s number) ≤ margin_of s
      lower = margin_eases (last_of s) s.bank.price s.cards (book_of s) (book_of (cancelled s number)) kept.rates_rise (λ l less. cancel_eases s number o e l)

  fill_lowers : (number quantity price : ℤ) (o : Option Order) → found number s.orders ≡ o → NoneRefuses (fill_checks quantity price o) → Lower s (on_order {X = State × Answer} o (s, StillLeft 0) (λ o. (filled s number quantity price o, StillLeft (nat_abs (left_after (Filled quantity) o.rest.left))))).0
  fill_lowers number quantity price None e h = refuses NoSuchOrder h.1.1.0
  fill_lowers number quantity price (Some o) e h = record { kept = record { a_position_a_line = length-set s.positions _ _ ∙ kept.a_position_a_line; rates_rise = kept.rates_rise; covers = le_trans lower kept.covers }; no_greater = lower }
    where
      low : pos 1 ≤ℤ quantity
      low = at_most (pos 1) quantity (and_parts _ _ (passed (quantity_fits quantity) BadQuantity h.0)).0

      high : quantity ≤ℤ pos (nat_abs o.rest.left)
      high = at_most quantity (pos (nat_abs o.rest.left)) (passed _ MoreThanLeft h.1.1.0)

      lower : margin_of (filled s number quantity price o) ≤ margin_of s
      lower = margin_eases (last_of s) s.bank.price s.cards (book_of s) (book_of (filled s number quantity price o)) kept.rates_rise (λ l less. fill_eases s number quantity price o e low high (passed _ WorseThanLimit h.1.1.1.0) l (rw kept.a_position_a_line less))

  pub fill_or_cancel_lowers : (call : Call) → fill_or_cancel call ≡ true → Lower s (step s call).0
  fill_or_cancel_lowers (Place line quantity limit) e = absurd (false≢true e)
  fill_or_cancel_lowers (Cancel number) e = step_cases (Lower s) s (Cancel number) same (cancel_lowers number (found number s.orders) refl)
  fill_or_cancel_lowers (Fill number quantity price) e = step_cases (Lower s) s (Fill number quantity price) same (fill_lowers number quantity price (found number s.orders) refl)
  fill_or_cancel_lowers (Deposit amount) e = absurd (false≢true e)
  fill_or_cancel_lowers (Withdraw amount) e = absurd (false≢true e)
  fill_or_cancel_lowers Margin e = absurd (false≢true e)

  -- ---- every call
  place_keeps : (line_no quantity limit : ℤ) → NoneRefuses (checks s (Place line_no quantity limit)) → Kept (placed s line_no quantity limit)
  place_keeps line_no quantity limit h = record { a_position_a_line = kept.a_position_a_line; rates_rise = kept.rates_rise; covers = leb-true _ _ (passed _ NotCovered h.1.1.1.1.1.1.0) }

  withdraw_keeps : (amount : ℤ) → NoneRefuses (checks s (Withdraw amount)) → Kept (with_collateral s (s.collateral - nat_abs amount))
  withdraw_keeps amount h = record { a_position_a_line = kept.a_position_a_line; rates_rise = kept.rates_rise; covers = less (margin_of s) (nat_abs amount) s.collateral (leb-true _ _ (passed _ NotCovered h.1.0)) }
    where
      less : (m a c : ℕ) → m + a ≤ c → m ≤ c - a
      less m a c h = omega arith

  deposit_keeps : (amount : ℤ) → Kept (with_collateral s (s.collateral + nat_abs amount))
  deposit_keeps amount = record { a_position_a_line = kept.a_position_a_line; rates_rise = kept.rates_rise; covers = more (margin_of s) (nat_abs amount) s.collateral kept.covers }
    where
      more : (m a c : ℕ) → m ≤ c → m ≤ c + a
      more m a c h = omega arith

  pub step_keeps : (call : Call) → Kept (step s call).0
  step_keeps (Place line quantity limit) = step_cases Kept s (Place line quantity limit) kept (place_keeps line quantity limit)
  step_keeps (Cancel number) = (fill_or_cancel_lowers (Cancel number) refl).kept
  step_keeps (Fill number quantity price) = (fill_or_cancel_lowers (Fill number quantity price) refl).kept
  step_keeps (Deposit amount) = step_cases Kept s (Deposit amount) kept (λ h. deposit_keeps amount)
  step_keeps (Withdraw amount) = step_cases Kept s (Withdraw amount) kept (withdraw_keeps amount)
  step_keeps Margin = step_cases Kept s Margin kept (λ h. kept)

-- ---- runs
pub run_keeps : (s : State) → Kept s → (calls : List Call) → Kept (run s calls)
unfolding run
run_keeps s kept [] = kept
run_keeps s kept (call ∷ calls) = run_keeps (step s call).0 (step_keeps s kept call) calls

pub run_lowers : (s : State) → Kept s → (calls : List Call) → OnlyFillsAndCancels calls → margin_of (run s calls) ≤ margin_of s
unfolding run
run_lowers s kept [] only = omega arith
run_lowers s kept (call ∷ calls) only = let lower = fill_or_cancel_lowers s kept call only.0 in le_trans (run_lowers (step s call).0 lower.kept calls only.1) lower.no_greater

-- ---- begin
future_rises : (f : Line) → future_fits f ≡ true → RatesRise f
future_rises f e =
    let parts = and_parts _ _ e in
    let upTo-rates = and_parts _ _ parts.0 in
    let upTo-change = and_parts _ _ upTo-rates.0 in
    let price-spot = and_parts _ _ upTo-change.0 in
    let third = and_parts _ _ (and_parts _ _ upTo-rates.1).0 in
    let second = and_parts _ _ third.0 in
    record { spot_low = at_most _ _ (and_parts _ _ price-spot.1).0; first_second = at_most _ _ second.1; second_third = at_most _ _ third.1 }

-- where no card and no held record is unfit, no line and no held record is
pub none_unfit : (cards : Cards) (held : List Held) → first_unfit cards held ≡ None → (failing (line_fits (length cards.months) cards.futures) 0 cards.lines ≡ None) × (failing (held_fits (length cards.lines) held) 0 held ≡ None)
none_unfit cards held = last_two (failing (λ place. family_fits) 0 cards.families) (failing (λ place. basket_fits (length cards.families)) 0 cards.baskets) (failing (λ place. month_fits (length cards.baskets)) 0 cards.months) (failing (line_fits (length cards.months) cards.futures) 0 cards.lines) (failing (held_fits (length cards.lines) held) 0 held) (length cards.families) (length cards.baskets) (length cards.months) (length cards.lines)
  where
    last_two : (f b m l h : Option ℕ) (families baskets months lines : ℕ) → along f families (along b baskets (along m months (along l lines h))) ≡ None → (l ≡ None) × (h ≡ None)
    last_two f b m l h families baskets months lines e =
        let past-families = (along_none f families (along b baskets (along m months (along l lines h))) e).1 in
        let past-baskets = (along_none b baskets (along m months (along l lines h)) past-families).1 in
        along_none l lines h (along_none m months (along l lines h) past-baskets).1

begun_rises : (cards : Cards) (held : List Held) → first_unfit cards held ≡ None → FuturesRise cards
unfolding is_future
begun_rises cards held e l less is = future_rises (line cards l) (a_future (and_parts _ _ (none_fails (line_fits (length cards.months) cards.futures) no_line cards.lines (none_unfit cards held e).0 l less)).1)
  where
    a_future : (leb cards.futures l || future_fits (line cards l)) ≡ true → future_fits (line cards l) ≡ true
    a_future h = ⊎_elim (λ t. absurd (both_ways _ (lt-leb cards.futures l (ltb-true l cards.futures is)) t)) (λ t. t) (or_cases _ _ h)

pub put_in_length : (held : List Held) (positions : List Position) → length (put_in held positions) ≡ length positions
unfolding put_in
put_in_length [] positions = refl
put_in_length (h ∷ hs) positions = put_in_length hs (set positions (named h.line) (held_at h)) ∙ length-set positions (named h.line) (held_at h)

pub begin_keeps : (bank : Meaning) (cards : Cards) (held : List Held) (collateral : ℤ) (s : State) → begin bank cards held collateral ≡ Ok s → Kept s
unfolding begin
begin_keeps bank cards held collateral s e =
    let made = decided_none (begin_checks bank cards held collateral) (first_state bank cards held (nat_abs collateral)) s e in
    subst Kept made.1 (record {
      a_position_a_line = put_in_length held (replicate (length cards.lines) nothing) ∙ length-replicate (length cards.lines) nothing;
      rates_rise = begun_rises cards held (no_place (first_unfit cards held) BadCard made.0.0);
      covers = leb-true _ _ (passed _ NotCovered made.0.1.1.1.0);
    })
