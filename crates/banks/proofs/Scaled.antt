-- A scale that is made means what its rule says: its reach lies within the bound, and no price is cut.
use Rattle.std.proofs.Common.{◌≡◌, ℕ, ◌*◌, ◌≤◌, min, leb, ℤ, pos, ◌*ℤ◌, nat_abs, Ok, sym, ap, ◌∙◌, subst, le_trans, arith}
use mathlib.Core.Path.{fun_ext}
use Rattle.std.proofs.lemmas.Bool.{le-leb, leb-true}
use Rattle.terms.specs.Cards.{within}
use Rattle.terms.specs.declared.refusal.Refusal.TheVariants.{BadQuantity, ReachTooLarge}
use Rattle.banks.specs.Meanings.{Meaning, Sound, capped, most_reach}
use Rattle.banks.specs.Outcomes.{making}
use Rattle.banks.specs.Layers.{scale_meaning, scale_of, scale_judged, scale_made, Scales}
use Rattle.banks.specs.Soundness.{cap_keeps, scaled_size}
use Rattle.terms.proofs.Passed.{pass_unless, passed_unless}

module _ (factor : ℕ) (m : Meaning) (sm : Sound m) (fits : factor * m.reach ≤ most_reach) where
  scaled : ℕ → (ℕ → ℕ → ℕ → ℤ) → Meaning
  scaled reach price = record { half = m.half; lines = m.lines; reach = reach; price = price }

  pub scale_means : scale_meaning factor m ≡ scale_of factor m
  unfolding scaled
  scale_means =
      ap (λ reach. scaled reach (λ line point column. capped most_reach (pos factor *ℤ m.price line point column))) reached
      ∙ ap (scaled (factor * m.reach)) (fun_ext λ line. fun_ext λ point. fun_ext λ column. cap_keeps most_reach (pos factor *ℤ m.price line point column) (le_trans (scaled_size factor m sm line point column) fits))
    where
      reached : min most_reach (factor * m.reach) ≡ factor * m.reach
      reached = omega arith

module _ (factor : ℤ) (m : Meaning) where
  pub scale_passed : (size : ℕ) → scale_judged factor m.reach ≡ Ok size → Scales factor m size
  scale_passed size e =
      let ranged = passed_unless (within (pos 1) (pos 100) factor) BadQuantity _ size e in
      let reached = passed_unless (leb (nat_abs factor * m.reach) most_reach) ReachTooLarge _ size ranged.1 in
      let own : nat_abs factor ≡ size = cc reached.1 in
      record { sized = own; in_range = ranged.0; small_reach = subst (λ n. n * m.reach ≤ most_reach) own (leb-true (nat_abs factor * m.reach) most_reach reached.0) }

  pub scale_allowed : (size : ℕ) → Scales factor m size → scale_judged factor m.reach ≡ Ok size
  scale_allowed size s =
      let small : nat_abs factor * m.reach ≤ most_reach = subst (λ n. n * m.reach ≤ most_reach) (sym s.sized) s.small_reach in
      pass_unless _ _ BadQuantity s.in_range ∙ pass_unless _ _ ReachTooLarge (le-leb (nat_abs factor * m.reach) most_reach small) ∙ ap Ok s.sized

  pub scale_made_lem : Sound m → (size : ℕ) → scale_judged factor m.reach ≡ Ok size → Ok (scale_meaning size m) ≡ scale_made factor m
  scale_made_lem sm size e =
      ap Ok (scale_means size m sm (scale_passed size e).small_reach) ∙ sym (ap (λ j. making j (λ f. scale_of f m)) e)
