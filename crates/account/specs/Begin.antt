-- How an account begins: what refuses it, in the order of the checks, and its first state.
use Rattle.std.specs.Prelude.{ℕ, List, [], ◌∷◌, length, replicate, ℤ, pos, ◌*ℤ◌, Option, Result, slice_set, unsigned_abs}
use Rattle.terms.specs.declared.cards.Held.{Held}
use Rattle.terms.specs.declared.refusal.Refusal.{Refusal}
use Rattle.terms.specs.declared.refusal.Refusal.TheVariants.{BadCard, WrongShape, BadAmount, NotCovered}
use Rattle.banks.specs.Meanings.{Meaning}
use Rattle.terms.specs.Checks.{unless, refused_at, decided}
use Rattle.margin.specs.declared.book.Position.{Position}
use Rattle.margin.specs.Book.{Cards, named}
use Rattle.deck.specs.Judgements.{first_unfit, counted}
use Rattle.account.specs.Account.{State, amount_fits, covered}

-- ---- the first state
-- contracts taken at a price in kopecks
abbrev pub held_at : Held → Position
held_at h = record { net = h.net; cost = pos 80000 *ℤ h.net *ℤ h.price }

abbrev pub nothing : Position
nothing = record { net = pos 0; cost = pos 0 }

-- positions with what is held put in
unfoldable pub put_in : List Held → List Position → List Position
put_in [] positions = positions
put_in (h ∷ hs) positions = put_in hs (slice_set positions (named h.line) (held_at h))

abbrev pub first_state : Meaning → Cards → List Held → ℕ → State
first_state bank cards held collateral = record {
  bank = bank;
  cards = cards;
  positions = put_in held (replicate (length cards.lines) nothing);
  orders = [];
  accepted = replicate (length cards.lines) 0;
  next = 1;
  collateral = collateral;
}

-- ---- what refuses it
abbrev pub begin_checks : Meaning → Cards → List Held → ℤ → List (Option Refusal)
begin_checks bank cards held collateral =
    refused_at BadCard (first_unfit cards held)
    ∷ unless (counted bank.lines cards) WrongShape
    ∷ unless (amount_fits collateral) BadAmount
    ∷ unless (covered (first_state bank cards held (unsigned_abs collateral))) NotCovered
    ∷ []

unfoldable pub begin : Meaning → Cards → List Held → ℤ → Result State Refusal
begin bank cards held collateral = decided (begin_checks bank cards held collateral) (first_state bank cards held (unsigned_abs collateral))
