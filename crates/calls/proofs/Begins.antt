-- How an account begins, by what is told of its cards.
use Rattle.std.proofs.Common.{◌≡◌, ℕ, List, [], ◌∷◌, ℤ, nat_abs, is_ok, Some, None, Ok, Err, Option, Result, refl, ap, ◌∙◌, arith}
use Rattle.terms.specs.Checks.{unless, refused_at, decided}
use Rattle.terms.specs.declared.cards.Held.{Held}
use Rattle.terms.specs.declared.fault.Fault.{Fault}
use Rattle.terms.specs.declared.fault.Fault.TheVariants.{Refused, Memory}
use Rattle.terms.specs.declared.refusal.Refusal.{Refusal}
use Rattle.terms.specs.declared.refusal.Refusal.TheVariants.{BadCard, WrongShape, BadAmount, NotCovered}
use Rattle.banks.specs.Meanings.{Meaning}
use Rattle.margin.specs.Book.{Cards}
use Rattle.deck.specs.Decks.{DeckOutcome}
use Rattle.deck.specs.Judgements.{first_unfit, counted, cards_judged}
use Rattle.account.specs.Account.{amount_fits, covered}
use Rattle.account.specs.Begin.{first_state, begin}
use Rattle.calls.specs.declared.accounts.Account.{Account}
use Rattle.calls.specs.Begun.{BeginOutcome, with_cards}

-- two checks that decide first
two_decide : {X Y : Type 0} (a b : Option Refusal) (x : X) (y : Y) (later : List (Option Refusal)) (why : Refusal) → decided (a ∷ b ∷ []) x ≡ Err why → decided (a ∷ b ∷ later) y ≡ Err why
two_decide None None x y later why e = absurd (let z : ◌≡◌ {A = ℕ} 0 1 = cc in omega arith)
two_decide None (Some w) x y later why e = let same : w ≡ why = cc in ap Err same
two_decide (Some w) b x y later why e = let same : w ≡ why = cc in ap Err same

two_pass : {X Y : Type 0} (a b : Option Refusal) (x x' : X) (y : Y) (later : List (Option Refusal)) → decided (a ∷ b ∷ []) x ≡ Ok x' → decided (a ∷ b ∷ later) y ≡ decided later y
two_pass None None x x' y later e = refl
two_pass None (Some w) x x' y later e = absurd (let z : ◌≡◌ {A = ℕ} 0 1 = cc in omega arith)
two_pass (Some w) b x x' y later e = absurd (let z : ◌≡◌ {A = ℕ} 0 1 = cc in omega arith)

module _ {B : Type 0} (meaning : B → Meaning) (bank : Meaning) (cards : Cards) (held : List Held) (collateral : ℤ) where
  -- cards that are refused, or that no memory is left for
  pub begin_refused : (fault : Fault) → DeckOutcome (Err fault) cards (cards_judged bank.lines cards held) → BeginOutcome {B = B} meaning (Err fault) (cards_judged bank.lines cards held) (begin bank cards held collateral)
  unfolding begin
  begin_refused (Refused why) h = two_decide (refused_at BadCard (first_unfit cards held)) (unless (counted bank.lines cards) WrongShape) cards (first_state bank cards held (nat_abs collateral)) (unless (amount_fits collateral) BadAmount ∷ unless (covered (first_state bank cards held (nat_abs collateral))) NotCovered ∷ []) why h
  begin_refused Memory h = ap is_ok h

  rest_is : cards_judged bank.lines cards held ≡ Ok cards → begin bank cards held collateral ≡ with_cards bank cards held collateral
  unfolding begin
  rest_is h = two_pass (refused_at BadCard (first_unfit cards held)) (unless (counted bank.lines cards) WrongShape) cards cards (first_state bank cards held (nat_abs collateral)) (unless (amount_fits collateral) BadAmount ∷ unless (covered (first_state bank cards held (nat_abs collateral))) NotCovered ∷ []) h

  pub begin_goes_on : (r : Result (Account B) Fault) → cards_judged bank.lines cards held ≡ Ok cards → BeginOutcome meaning r (Ok cards) (with_cards bank cards held collateral) → BeginOutcome meaning r (cards_judged bank.lines cards held) (begin bank cards held collateral)
  begin_goes_on (Ok account) h outcome = rest_is h ∙ outcome
  begin_goes_on (Err (Refused why)) h outcome = rest_is h ∙ outcome
  begin_goes_on (Err Memory) h outcome = ap is_ok h
