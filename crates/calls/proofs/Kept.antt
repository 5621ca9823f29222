-- What the invariant of an account says of its state.
use mathlib.Core.Logic.{∥∥₁_elim}
use Rattle.banks.specs.Meanings.{Meaning}
use Rattle.account.specs.Account.{State}
use Rattle.account.specs.Bounds.{InBounds}
use Rattle.account.proofs.OneProof.{in_bounds_one, any_bank, over_bank}
use Rattle.calls.specs.declared.accounts.Account.{Account}
use Rattle.calls.specs.Accounts.{state_of}

pub bounded : {B : Type 0} (meaning : B → Meaning) (a : Account B) → InBounds (state_of meaning a)
bounded meaning a = ∥∥₁_elim a.bounds (in_bounds_one (state_of meaning a)) (λ b. b (meaning a.bank))

-- the invariant of a state, from its bounds over one bank
pub kept : (s : State) → InBounds s → ∥ ((bank : Meaning) → InBounds (over_bank bank s)) ∥₁
kept s b = ∣ (λ bank. any_bank s bank b) ∣₁
