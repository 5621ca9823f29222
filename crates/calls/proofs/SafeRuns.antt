-- Every margin answered in a run is safe.
use Rattle.std.proofs.Common.{◌≡◌, ℕ, true, List, [], ◌∷◌, ◌++◌, ℤ, nat_abs, is_ok, Some, None, Ok, Option, Result, refl, ap, ◌∙◌, arith}
use Rattle.terms.specs.Checks.{unless, refused_at, decided}
use Rattle.terms.specs.declared.cards.Held.{Held}
use Rattle.terms.specs.declared.refusal.Refusal.{Refusal}
use Rattle.terms.specs.declared.refusal.Refusal.TheVariants.{BadCard, WrongShape, BadAmount, NotCovered}
use Rattle.banks.specs.Meanings.{Meaning}
use Rattle.margin.specs.Book.{Cards}
use Rattle.deck.specs.Judgements.{first_unfit, counted, cards_judged}
use Rattle.account.specs.declared.call.Call.{Call}
use Rattle.account.specs.declared.call.Call.TheVariants.{Margin}
use Rattle.account.specs.Account.{State, Answer, Required, amount_fits, covered, requirement, step, run, answers}
use Rattle.account.specs.Begin.{first_state, begin}
use Rattle.account.proofs.Kept.{run_keeps, begin_keeps}
use Rattle.account.proofs.Safe.{kept_is_safe}
use Rattle.calls.specs.Safety.{EveryMarginIsSafe}
use Rattle.calls.proofs.RunSteps.{answers_append}

-- an account that begins has cards that are not refused
two_let_pass : {X Y : Type 0} (a b : Option Refusal) (later : List (Option Refusal)) (x : X) (y y' : Y) → decided (a ∷ b ∷ later) y ≡ Ok y' → is_ok (decided (a ∷ b ∷ []) x) ≡ true
two_let_pass None None later x y y' e = refl
two_let_pass None (Some why) later x y y' e = absurd (let z : ◌≡◌ {A = ℕ} 0 1 = cc in omega arith)
two_let_pass (Some why) b later x y y' e = absurd (let z : ◌≡◌ {A = ℕ} 0 1 = cc in omega arith)

module _ (bank : Meaning) (cards : Cards) (held : List Held) (collateral : ℤ) where
  pub judged_ok : (begun : State) → begin bank cards held collateral ≡ Ok begun → is_ok (cards_judged bank.lines cards held) ≡ true
  unfolding begin
  judged_ok begun e = two_let_pass (refused_at BadCard (first_unfit cards held)) (unless (counted bank.lines cards) WrongShape) (unless (amount_fits collateral) BadAmount ∷ unless (covered (first_state bank cards held (nat_abs collateral))) NotCovered ∷ []) cards (first_state bank cards held (nat_abs collateral)) begun e

  -- margin is answered where it stands
  margin_answered : (s : State) (before after : List Call) → answers s (before ++ Margin ∷ after) ≡ answers s before ++ Ok (Required (requirement (run s before))) ∷ answers (run s before) after
  unfolding answers step
  margin_answered s before after = answers_append s before (Margin ∷ after)

  pub run_is_safe : (s t : State) → begin bank cards held collateral ≡ Ok s → begin bank cards held collateral ≡ Ok t → (calls : List Call) (told : List (Result Answer Refusal)) → told ≡ answers s calls → EveryMarginIsSafe t calls told
  run_is_safe s t e f calls told h before after split =
      let same : s ≡ t = cc in (
        requirement (run t before),
        h ∙ ap (λ (u : State). answers u calls) same ∙ ap (answers t) split ∙ margin_answered t before after,
        kept_is_safe (run t before) (run_keeps t (begin_keeps bank cards held collateral t f) before),
      )
