-- A file as a whole: what passed the checks, what is in use of the lists, and what is left of them where it was refused.
use Rattle.std.proofs.Common.{◌≡◌, ℕ, ◌+◌, ◌≤◌, true, false, eqb, List, [], ◌∷◌, ◌++◌, length, take, drop, replicate, pos, is_err, IfOk, Some, None, Ok, Err, Option, Result, sym, refl, ap, ◌∙◌, subst, arith, length-append}
use Rattle.std.specs.Result.{IsErrAnd}
use Rattle.std.proofs.lemmas.Result.{err_from_is_err_and}
use Rattle.std.proofs.lemmas.List.{take_at, length-replicate}
use Rattle.std.proofs.lemmas.Bool.{eqb-true, true≢false, false≢true}
use Rattle.terms.specs.Checks.{refused_at, decided}
use Rattle.terms.specs.declared.refusal.Refusal.{Refusal}
use Rattle.terms.specs.declared.refusal.Refusal.TheVariants.{BadCard}
use Rattle.deck.specs.Judgements.{first_unfit}
use Rattle.terms.proofs.Passed.{passed_unless, err_is_ok}
use Rattle.load.specs.declared.lists.Lengths.{Lengths}
use Rattle.load.specs.declared.loading.Loaded.{Loaded}
use Rattle.kinds.specs.Formats.{family_format, basket_format, month_format, future_format, held_format, order_format}
use Rattle.load.specs.Days.{Day, Contents, lengths_of, zeros}
use Rattle.load.specs.Reading.{day_in, over, with_day}
use Rattle.load.specs.Loading.{wanted, list_checks, text_checks, card_checks, cards_of, next, loading, loaded_of, answer_of, held_by, Kept}
use Rattle.load.specs.Used.{Inside, used_cards, used_checks}
use Rattle.load.proofs.Parts.{all_long}
use Rattle.load.proofs.Rooms.{take_over}

pub lengths_are : (given : Lengths) → decided {X = Unit {0}} (list_checks given) tt ≡ Ok tt → given ≡ wanted
lengths_are given e =
    let a = passed_unless (eqb given.families 2) _ _ tt e in
    let b = passed_unless (eqb given.baskets 4) _ _ tt a.1 in
    let c = passed_unless (eqb given.months 8) _ _ tt b.1 in
    let d = passed_unless (eqb given.lines 16) _ _ tt c.1 in
    let f = passed_unless (eqb given.prices 1785) _ _ tt d.1 in
    let g = passed_unless (eqb given.held 16) _ _ tt f.1 in
    let h = passed_unless (eqb given.orders 2000) _ _ tt g.1 in
    let families = eqb-true given.families 2 a.0 in
    let baskets = eqb-true given.baskets 4 b.0 in
    let months = eqb-true given.months 8 c.0 in
    let lines = eqb-true given.lines 16 d.0 in
    let prices = eqb-true given.prices 1785 f.0 in
    let held = eqb-true given.held 16 g.0 in
    let orders = eqb-true given.orders 2000 h.0 in
    λ i. record { families = families i; baskets = baskets i; months = months i; lines = lines i; prices = prices i; held = held i; orders = orders i }

-- checks that pass or refuse something do the same to another
pub decided_yes : {X : Type 0} (checks : List (Option Refusal)) (x : X) → Ok tt ≡ decided {X = Unit {0}} checks tt → Ok x ≡ decided checks x
decided_yes [] x e = refl
decided_yes (None ∷ checks) x e = decided_yes checks x e
decided_yes (Some why ∷ checks) x e = absurd (err_is_ok why tt (sym e))

pub decided_no : {X : Type 0} (checks : List (Option Refusal)) (x : X) (e : Refusal) → Err e ≡ decided {X = Unit {0}} checks tt → Err e ≡ decided checks x
decided_no [] x e f = absurd (err_is_ok e tt f)
decided_no (None ∷ checks) x e f = decided_no checks x e f
decided_no (Some why ∷ checks) x e f = let same : e ≡ why = cc in ap Err same

pub next_parts : {X Y : Type 0} (t : Result X Refusal) (more : X → Result Y Refusal) (y : Y) → next t more ≡ Ok y → (x : X) × (t ≡ Ok x) × (more x ≡ Ok y)
next_parts (Ok x) more y e = (x, refl, e)
next_parts (Err why) more y e = absurd (err_is_ok why y e)

module _ (given : Lengths) (text : List ℕ) where
  pub refused_lists : (e : Refusal) → Err e ≡ decided {X = Unit {0}} (list_checks given) tt → Err e ≡ loading given text
  refused_lists e f = ap (λ t. next t (λ _. next (decided {X = Unit {0}} (text_checks text) tt) (λ _. next (day_in given text) (λ read. decided (card_checks read.0) read.0)))) f

  module _ (lists-fit : Ok tt ≡ decided {X = Unit {0}} (list_checks given) tt) where
    behind_lists : next (decided {X = Unit {0}} (text_checks text) tt) (λ _. next (day_in given text) (λ read. decided (card_checks read.0) read.0)) ≡ loading given text
    behind_lists = ap (λ t. next t (λ _. next (decided {X = Unit {0}} (text_checks text) tt) (λ _. next (day_in given text) (λ read. decided (card_checks read.0) read.0)))) lists-fit

    pub refused_text : (e : Refusal) → Err e ≡ decided {X = Unit {0}} (text_checks text) tt → Err e ≡ loading given text
    refused_text e f = ap (λ t. next t (λ _. next (day_in given text) (λ read. decided (card_checks read.0) read.0))) f ∙ behind_lists

    module _ (text-fits : Ok tt ≡ decided {X = Unit {0}} (text_checks text) tt) where
      pub behind_text : next (day_in given text) (λ read. decided (card_checks read.0) read.0) ≡ loading given text
      behind_text = ap (λ t. next t (λ _. next (day_in given text) (λ read. decided (card_checks read.0) read.0))) text-fits ∙ behind_lists

      by_day : (t : Result (Day × ℕ) Refusal) (d : Day) → next t (λ read. Ok read.0) ≡ Ok d → next t (λ read. decided (card_checks read.0) read.0) ≡ decided (card_checks d) d
      by_day (Ok x) d e = let same : x.0 ≡ d = cc in ap (λ y. decided (card_checks y) y) same
      by_day (Err why) d e = absurd (err_is_ok why d e)

      no_day : (t : Result (Day × ℕ) Refusal) (e : Refusal) → next {Y = Day} t (λ read. Ok read.0) ≡ Err e → next t (λ read. decided (card_checks read.0) read.0) ≡ Err e
      no_day (Ok x) e f = absurd (err_is_ok e x.0 (sym f))
      no_day (Err why) e f = let same : why ≡ e = cc in ap Err same

      pub refused_day : (e : Refusal) → next {Y = Day} (day_in given text) (λ read. Ok read.0) ≡ Err e → Err e ≡ loading given text
      refused_day e f = sym (no_day (day_in given text) e f) ∙ behind_text

      pub judged_day : (d : Day) → next (day_in given text) (λ read. Ok read.0) ≡ Ok d → decided (card_checks d) d ≡ loading given text
      judged_day d f = sym (by_day (day_in given text) d f) ∙ behind_text

module _ (lists after : Contents) where
  pub kept_yes : (t : Result Day Refusal) (r : Loaded) → Kept t (Ok r) lists after → (d : Day) × (t ≡ Ok d) × (r ≡ loaded_of d) × (after ≡ with_day d lists)
  kept_yes (Ok d) r h = let here = h.0 in let same : r ≡ loaded_of d = cc in (d, refl, same, h.1)
  kept_yes (Err e) r h = absurd (err_is_ok e r (sym h))

  pub kept_no : (t : Result Day Refusal) (e : Refusal) → Kept t (Err e) lists after → t ≡ Err e
  kept_no (Ok d) e h = absurd (err_is_ok e (loaded_of d) h.0)
  kept_no (Err f) e h = let same : f ≡ e = cc in ap Err same

  pub keeps : (t : Result Day Refusal) (d : Day) (r : Loaded) → Ok d ≡ t → r ≡ loaded_of d → after ≡ with_day d lists → Kept t (Ok r) lists after
  keeps t d r e f h = subst (λ u. Kept u (Ok r) lists after) e (ap Ok f, h)

  pub keeps_no : (t : Result Day Refusal) (r : Result Loaded Refusal) (e : Refusal) → IsErrAnd r (λ f. f ≡ e) → Err e ≡ t → Kept t r lists after
  keeps_no t r e h f = let p = err_from_is_err_and r h in rw (p.1, p.2) (subst (λ u. Kept u (Err e) lists after) f refl)

long_over : {R : Type 0} (xs before : List R) → length xs ≤ length (over xs before)
long_over xs before = omega (arith, length-append xs (drop (length xs) before))

-- of lists that hold a day, the records in use are the day's
module _ (d : Day) (lists : Contents) where
  pub in_use : Inside (loaded_of d) (with_day d lists)
  in_use = record {
    families = long_over d.families lists.families;
    baskets = long_over d.baskets lists.baskets;
    months = long_over d.months lists.months;
    lines = omega (arith, long_over (d.futures ++ d.options) lists.lines, length-append d.futures d.options);
    prices = long_over d.prices lists.prices;
    held = long_over d.held lists.held;
    orders = long_over d.orders lists.orders;
  }

  cards_used : used_cards (loaded_of d) (with_day d lists) ≡ cards_of d
  cards_used =
      let families = take_over d.families [] lists.families in
      let baskets = take_over d.baskets [] lists.baskets in
      let months = take_over d.months [] lists.months in
      let both = take_at (d.futures ++ d.options) (drop (length (d.futures ++ d.options)) lists.lines) (length d.futures + length d.options) (length-append d.futures d.options) in
      λ i. record { families = families i; baskets = baskets i; months = months i; lines = both i; futures = length d.futures }

  held_used : take (length d.held) (over d.held lists.held) ≡ d.held
  held_used = take_over d.held [] lists.held

  -- so that the checks of both say the same
  pub checks_used : used_checks (loaded_of d) (with_day d lists) ≡ card_checks d
  checks_used = λ i. refused_at BadCard (first_unfit (cards_used i) (held_used i)) ∷ []

-- zeros depend on the lengths alone
pub zeros_long : (lists : Contents) → lengths_of (zeros lists) ≡ lengths_of lists
zeros_long lists =
    all_long (length-replicate (length lists.families) _) (length-replicate (length lists.baskets) _) (length-replicate (length lists.months) _) (length-replicate (length lists.lines) _) (length-replicate (length lists.prices) _) (length-replicate (length lists.held) _) (length-replicate (length lists.orders) _)

zeros_of : Lengths → Contents
zeros_of l =
    record {
      families = replicate l.families family_format.empty;
      baskets = replicate l.baskets basket_format.empty;
      months = replicate l.months month_format.empty;
      lines = replicate l.lines future_format.empty;
      prices = replicate l.prices (pos 0);
      held = replicate l.held held_format.empty;
      orders = replicate l.orders order_format.empty;
    }

pub same_zeros : (a b : Contents) → lengths_of a ≡ lengths_of b → zeros a ≡ zeros b
unfolding zeros_of
same_zeros a b e = ap zeros_of e

-- lists that were cleared and then written over hold the day, or are cleared once more
module _ (text : List ℕ) (lists cleared after : Contents) (r : Result Loaded Refusal) (zero : cleared ≡ zeros lists) (kept : Kept (loading (lengths_of cleared) text) r cleared after) where
  abbrev t : Result Day Refusal
  t = loading (lengths_of lists) text

  over_zeros : Kept t r (zeros lists) after
  over_zeros = subst (λ (n : Lengths). Kept (loading n text) r (zeros lists) after) (zeros_long lists) (subst (λ (l : Contents). Kept (loading (lengths_of l) text) r l after) zero kept)

  pub accepted : is_err r ≡ false → (r ≡ answer_of t) × (after ≡ held_by t lists) × IfOk r (λ used. Inside used after)
  accepted e = by r e over_zeros
    where
      by : (q : Result Loaded Refusal) → is_err q ≡ false → Kept t q (zeros lists) after → (q ≡ answer_of t) × (after ≡ held_by t lists) × IfOk q (λ used. Inside used after)
      by (Ok x) f h =
          let day = kept_yes (zeros lists) after t x h in
          let inside = subst (λ (l : Contents). Inside (loaded_of day.0) l) (sym day.3) (in_use day.0 (zeros lists)) in
          (ap Ok day.2 ∙ ap answer_of (sym day.1), day.3 ∙ ap (λ u. held_by u lists) (sym day.1), subst (λ (u : Loaded). Inside u after) (sym day.2) inside)
      by (Err why) f h = absurd (true≢false f)

  pub refused : (again : Contents) → is_err r ≡ true → lengths_of after ≡ lengths_of cleared → again ≡ zeros after → (r ≡ answer_of t) × (again ≡ held_by t lists) × IfOk r (λ used. Inside used again)
  refused again e long more =
      let same = same_zeros after lists (long ∙ ap lengths_of zero ∙ zeros_long lists) in
      by r e over_zeros (more ∙ same)
    where
      by : (q : Result Loaded Refusal) → is_err q ≡ true → Kept t q (zeros lists) after → again ≡ zeros lists → (q ≡ answer_of t) × (again ≡ held_by t lists) × IfOk q (λ used. Inside used again)
      by (Ok x) f h g = absurd (false≢true f)
      by (Err why) f h g =
          let no_day = kept_no (zeros lists) after t why h in
          (ap answer_of (sym no_day), g ∙ ap (λ u. held_by u lists) (sym no_day), tt)
