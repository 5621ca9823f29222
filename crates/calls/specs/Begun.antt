-- What the caller of begin is told.
use Rattle.std.specs.Prelude.{◌≡◌, true, false, List, [], ◌∷◌, ℤ, is_ok, Ok, Err, Result, unsigned_abs}
use Rattle.terms.specs.Checks.{unless, decided}
use Rattle.terms.specs.declared.cards.Held.{Held}
use Rattle.terms.specs.declared.fault.Fault.{Fault}
use Rattle.terms.specs.declared.fault.Fault.TheVariants.{Refused, Memory}
use Rattle.terms.specs.declared.refusal.Refusal.{Refusal}
use Rattle.banks.specs.Meanings.{Meaning}
use Rattle.margin.specs.Book.{Cards}
use Rattle.terms.specs.declared.refusal.Refusal.TheVariants.{BadAmount, NotCovered}
use Rattle.account.specs.Account.{State, amount_fits, covered}
use Rattle.account.specs.Begin.{first_state}
use Rattle.calls.specs.declared.accounts.Account.{Account}
use Rattle.calls.specs.Accounts.{state_of}

-- the account has the state that begins; a refusal is the one that applies; and where memory is wanting, no card is refused
abbrev pub BeginOutcome : {B : Type 0} → (B → Meaning) → Result (Account B) Fault → Result Cards Refusal → Result State Refusal → Type 0
BeginOutcome meaning (Ok account) judged begun = begun ≡ Ok (state_of meaning account)
BeginOutcome meaning (Err (Refused why)) judged begun = begun ≡ Err why
BeginOutcome meaning (Err Memory) judged begun = is_ok judged ≡ true

-- what is told of an account whose cards are not refused
abbrev pub with_cards : Meaning → Cards → List Held → ℤ → Result State Refusal
with_cards bank cards held collateral =
    decided (unless (amount_fits collateral) BadAmount ∷ unless (covered (first_state bank cards held (unsigned_abs collateral))) NotCovered ∷ []) (first_state bank cards held (unsigned_abs collateral))

-- an account is taken as it is, if its collateral covers its margin
abbrev pub CoverOutcome : {B : Type 0} → (B → Meaning) → Account B → Result (Account B) Fault → Type 0
CoverOutcome meaning before (Ok after) = (after ≡ before) × (covered (state_of meaning before) ≡ true)
CoverOutcome meaning before (Err fault) = (fault ≡ Refused NotCovered) × (covered (state_of meaning before) ≡ false)
