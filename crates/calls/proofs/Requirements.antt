-- What margin answers, from what is blocked; and that it is safe.
use Rattle.std.proofs.Common.{◌≡◌, ℕ, zero, suc, ◌≤◌, List, [], ◌∷◌, length, ℤ, Option, sym, refl, ap, ◌∙◌, subst, ap₂, arith}
use Rattle.margin.specs.Worlds.{World, listed_world}
use Rattle.margin.specs.Layers.{family_loss, family_worst}
use Rattle.cover.specs.declared.Blocked.{Blocked}
use Rattle.account.specs.Account as account
use Rattle.account.specs.Account.{State, book_of, cells_of, last_of, each, requirement, run}
use Rattle.account.specs.Runs.{SafelyMargined}
use Rattle.account.proofs.Kept.{run_keeps, begin_keeps}
use Rattle.account.proofs.Safe.{kept_is_safe}
use Rattle.calls.specs.declared.answer.FamilyWorst.{FamilyWorst}
use Rattle.calls.specs.Answers.{families_of, requirement_of}
use Rattle.calls.specs.Blockings.{BlockedFor, family_in}
use Rattle.calls.specs.Safety.{SafeIfReached}

families_are : (loss : ℕ → ℕ) (worst : ℕ → ℤ × ℕ) (n : ℕ) → 1 ≤ n → n ≤ 2 → families_of (family_in (loss 0 ∷ loss 1 ∷ []) (worst 0 ∷ worst 1 ∷ []) n 0 ∷ family_in (loss 0 ∷ loss 1 ∷ []) (worst 0 ∷ worst 1 ∷ []) n 1 ∷ []) ≡ each n (λ f. (loss f, (worst f).1))
unfolding each
families_are loss worst zero h k = absurd (omega arith)
families_are loss worst (suc zero) h k = refl
families_are loss worst (suc (suc zero)) h k = refl
families_are loss worst (suc (suc (suc n))) h k = absurd (omega arith)

abbrev made : ℕ → List (ℕ × ℕ) → ℕ → World → account.Requirement
made amount families costliest world = record { amount = amount; families = families; costliest = costliest; world = world }

pub requirement_is : (s : State) (b : Blocked) (count : ℕ) (families : List (Option FamilyWorst)) → 1 ≤ length s.cards.families → length s.cards.families ≤ 2 → count ≡ length s.cards.families → BlockedFor s.bank s.cards (book_of s) b → families ≡ family_in b.losses b.worsts count 0 ∷ family_in b.losses b.worsts count 1 ∷ [] → requirement_of (record { amount = b.amount; families = families; costliest = b.costliest; world = b.world }) ≡ requirement s
requirement_is s b count families some few same h e =
    ap (λ (amount : ℕ). made amount (families_of families) b.costliest (listed_world b.world)) h.amount_is
    ∙ ap (λ (fs : List (ℕ × ℕ)). made (requirement s).amount fs b.costliest (listed_world b.world)) these
    ∙ ap₂ (made (requirement s).amount (requirement s).families) h.costliest_is h.world_is
  where
    these : families_of families ≡ (requirement s).families
    these =
        ap families_of e
        ∙ ap₂ (λ (ls : List ℕ) (ws : List (ℤ × ℕ)). families_of (family_in ls ws count 0 ∷ family_in ls ws count 1 ∷ [])) h.losses_are h.worsts_are
        ∙ families_are (family_loss (last_of s) s.cards (cells_of s)) (family_worst (last_of s) s.cards (cells_of s)) count (rw same some) (rw same few)
        ∙ ap (λ (n : ℕ). each n (λ f. (family_loss (last_of s) s.cards (cells_of s) f, (family_worst (last_of s) s.cards (cells_of s) f).1))) same

-- what margin answers in a state that was reached is safe
pub reached_is_safe : (s : State) (answer : account.Requirement) → answer ≡ requirement s → SafeIfReached s answer
reached_is_safe s answer e bank cards held collateral begun starts calls same =
    subst (SafelyMargined s) (sym e) (subst (λ (t : State). SafelyMargined t (requirement t)) same (kept_is_safe (run begun calls) (run_keeps begun (begin_keeps bank cards held collateral begun starts) calls)))
