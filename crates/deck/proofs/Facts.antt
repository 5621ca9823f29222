-- What holds of cards that no check refuses.
use Rattle.std.proofs.Common.{◌≡◌, ℕ, ◌+◌, ◌<◌, ◌≤◌, true, ◌||◌, leb, List, [], ◌∷◌, length, get_or, pos, negsuc, Some, None, Ok, Err, Option, Result, ℤ, ◌&&◌, refl, ap₂, subst, ⊎_elim, arith}
use lib.Signed.{le_z}
use Rattle.std.specs.Ordering.{int_eq}
use Rattle.std.proofs.lemmas.Bool.Decides.{same_from_decides, Decides-int_eq}
use Rattle.std.proofs.lemmas.Int.{ints}
use Rattle.std.proofs.lemmas.Bool.{and_parts, or_cases, leb-true, le-leb, eqb-true, lt-leb, both_ways}
use Rattle.terms.specs.Cards.{within, future_fits}
use Rattle.terms.specs.Checks.{unless, refused_at, decided}
use Rattle.terms.specs.declared.cards.Held.{Held}
use Rattle.terms.specs.declared.refusal.Refusal.{Refusal}
use Rattle.terms.specs.declared.refusal.Refusal.TheVariants.{BadCard, WrongShape}
use Rattle.terms.proofs.Passed.{passed_unless, passed_places}
use Rattle.terms.proofs.Places.{none_fails, some_is_none}
use Rattle.margin.specs.Book.{Cards}
use Rattle.deck.specs.Decks.{refusal_of}
use Rattle.deck.specs.Judgements.{name_fits, basket_fits, month_fits, line_fits, along, first_unfit, counted, cards_judged, no_basket, no_month, no_line}

-- ---- the refusal, and what stands where there is none

pub refused_as : {X : Type 0} (j : Result X Refusal) (why : Refusal) → refusal_of j ≡ Some why → j ≡ Err why
refused_as (Ok x) why e = cc
refused_as (Err other) why e = cc

passed_as : {X : Type 0} (checks : List (Option Refusal)) (x : X) → refusal_of (decided checks x) ≡ None → decided checks x ≡ Ok x
passed_as [] x e = refl
passed_as (None ∷ checks) x e = passed_as checks x e
passed_as (Some why ∷ checks) x e = cc

pub along_none : (here : Option ℕ) (count : ℕ) (later : Option ℕ) → along here count later ≡ None → (here ≡ None) × (later ≡ None)
along_none (Some k) count later e = absurd (some_is_none k e)
along_none None count None e = (refl, refl)
along_none None count (Some k) e = absurd (some_is_none (count + k) e)

le_itself : (z : ℤ) → le_z z z ≡ true
le_itself (pos n) = le-leb n n (omega arith)
le_itself (negsuc n) = le-leb n n (omega arith)

-- two integers are one where neither lies below the other
pub same_number : (x y : ℤ) → int_eq x y ≡ (le_z y x && le_z x y)
same_number x y =
    same_from_decides (int_eq x y) (le_z y x && le_z x y) (Decides-int_eq x y) ((λ e. sides (and_parts (le_z y x) (le_z x y) e)), (λ e. subst (λ (z : ℤ). (le_z z x && le_z x z) ≡ true) e (alike x)))
  where
    sides : (le_z y x ≡ true) × (le_z x y ≡ true) → x ≡ y
    sides (a, b) = omega (arith, ints)

    alike : (z : ℤ) → (le_z z z && le_z z z) ≡ true
    alike z = ap₂ (λ b d. b && d) (le_itself z) (le_itself z)

-- ---- the facts

pub record Facts (of_bank : ℕ) (cards : Cards) : Type 0 where
  pub some_families : 1 ≤ length cards.families
  pub few_families : length cards.families ≤ 2
  pub few_baskets : length cards.baskets ≤ 4
  pub few_months : length cards.months ≤ 8
  pub some_lines : 1 ≤ length cards.lines
  pub few_lines : length cards.lines ≤ 16
  pub bank_lines : length cards.lines ≡ of_bank
  pub few_futures : cards.futures ≤ length cards.lines
  pub baskets_named : (b : ℕ) → b < length cards.baskets → name_fits (length cards.families) (get_or cards.baskets b no_basket).family ≡ true
  pub months_named : (m : ℕ) → m < length cards.months → name_fits (length cards.baskets) (get_or cards.months m no_month).basket ≡ true
  pub lines_named : (l : ℕ) → l < length cards.lines → name_fits (length cards.months) (get_or cards.lines l no_line).month ≡ true
  pub futures_fit : (l : ℕ) → l < cards.futures → future_fits (get_or cards.lines l no_line) ≡ true

range : (low high n : ℕ) → within (pos low) (pos high) (pos n) ≡ true → (low ≤ n) × (n ≤ high)
range low high n h = let t = and_parts (leb low n) (leb n high) h in (leb-true low n t.0, leb-true n high t.1)

module _ (bank_lines : ℕ) (cards : Cards) (held : List Held) where
  pub none_refused : refusal_of (cards_judged bank_lines cards held) ≡ None → cards_judged bank_lines cards held ≡ Ok cards
  none_refused e =
      passed_as (refused_at BadCard (first_unfit cards held) ∷ unless (counted bank_lines cards) WrongShape ∷ []) cards e

  pub facts : cards_judged bank_lines cards held ≡ Ok cards → Facts bank_lines cards
  facts e =
      let fit = passed_places (first_unfit cards held) BadCard _ cards e in
      let count = passed_unless (counted bank_lines cards) WrongShape _ cards fit.1 in
      let f = along_none _ (length cards.families) _ fit.0 in
      let b = along_none _ (length cards.baskets) _ f.1 in
      let m = along_none _ (length cards.months) _ b.1 in
      let l = along_none _ (length cards.lines) _ m.1 in
      let parts = and_parts _ _ count.0 in
      let upper = and_parts _ _ parts.0 in
      let tops = and_parts _ _ upper.0 in
      let lower = and_parts _ _ parts.1 in
      let lined = and_parts _ _ lower.0 in
      let families = range 1 2 (length cards.families) tops.0 in
      let lines = range 1 16 (length cards.lines) lined.0 in
      let futures = range 1 (length cards.lines) cards.futures lower.1 in
      record {
        some_families = families.0;
        few_families = families.1;
        few_baskets = (range 1 4 (length cards.baskets) tops.1).1;
        few_months = (range 1 8 (length cards.months) upper.1).1;
        some_lines = lines.0;
        few_lines = lines.1;
        bank_lines = eqb-true (length cards.lines) bank_lines lined.1;
        few_futures = futures.1;
        baskets_named = λ k h. (and_parts _ _ (none_fails (λ _. basket_fits (length cards.families)) no_basket cards.baskets b.0 k h)).0;
        months_named = none_fails (λ _. month_fits (length cards.baskets)) no_month cards.months m.0;
        lines_named = λ k h. (and_parts _ _ (none_fails (line_fits (length cards.months) cards.futures) no_line cards.lines l.0 k h)).0;
        futures_fit = λ k h. future k h (and_parts _ _ (none_fails (line_fits (length cards.months) cards.futures) no_line cards.lines l.0 k (omega (arith, futures.1)))).1;
      }
    where
      future : (k : ℕ) → k < cards.futures → (leb cards.futures k || future_fits (get_or cards.lines k no_line)) ≡ true → future_fits (get_or cards.lines k no_line) ≡ true
      future k h e = ⊎_elim (λ t. absurd (both_ways _ (lt-leb cards.futures k h) t)) (λ t. t) (or_cases _ _ e)
