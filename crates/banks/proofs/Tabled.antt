-- A table that is made means what its rule says: its count is a number of lines, and no entry is cut.
use Rattle.std.proofs.Common.{◌≡◌, ℕ, ◌*◌, ◌/◌, ◌%◌, ◌≤◌, Bool, true, false, eqb, ltb, leb, List, length, get_or, ℤ, pos, negsuc, nat_abs, None, Ok, sym, ap, ◌∙◌, subst, ⊎_elim, zero-le, mul-le-mul_left, arith, lit≤}
use Rattle.std.proofs.lemmas.List.{get_or_past}
use Rattle.std.proofs.lemmas.Bool.{leb-true, eq-eqb, eqb-true, and_parts, cases_lt, false≢true}
use Rattle.terms.specs.Cards.{within}
use Rattle.terms.specs.Judging.{failing}
use Rattle.terms.specs.Halves.{half_of, points}
use Rattle.terms.specs.declared.half.Half.{Half}
use Rattle.terms.specs.declared.refusal.Refusal.TheVariants.{OutsideField, WrongShape}
use Rattle.banks.specs.Meanings.{columns, grains, bounded}
use Rattle.terms.specs.Checks.{decided}
use Rattle.banks.specs.Outcomes.{on_half, making}
use Rattle.banks.specs.Soundness.{size_product}
use Rattle.banks.specs.Tables.{most_entry, entry_at, entries, fits_at, listed, table_of, table_checks, table_judged, table_made, Tabulates}
use Rattle.banks.proofs.Bounded.{bounded_is}
use Rattle.terms.proofs.Passed.{pass_unless, pass_places, passed_unless, passed_places}
use Rattle.banks.proofs.Halved.{passed_half}
use Rattle.terms.proofs.Places.{all_pass, none_fails}

-- ---- ranges as facts

pub count_range : (n : ℤ) → within (pos 1) (pos 16) n ≡ true → (1 ≤ nat_abs n) × (nat_abs n ≤ 16)
count_range (pos n) h = let t = and_parts (leb 1 n) (leb n 16) h in (leb-true 1 n t.0, leb-true n 16 t.1)
count_range (negsuc n) h = absurd (false≢true h)

price_size : (e : ℤ) → within (pos 0) (pos 10000000) e ≡ true → nat_abs e ≤ most_entry
price_size (pos n) h = leb-true n 10000000 (and_parts (leb 0 n) (leb n 10000000) h).1
price_size (negsuc n) h = absurd (false≢true h)

change_size : (e : ℤ) → within (negsuc 9999999) (pos 10000000) e ≡ true → nat_abs e ≤ most_entry
change_size (pos n) h = leb-true n 10000000 h
change_size (negsuc n) h =
    let k : n ≤ 9999999 = leb-true n 9999999 (and_parts (leb n 9999999) true h).0 in
    omega arith

entry_size : (half : Half) (place : ℕ) (e : ℤ) → fits_at half place e ≡ true → nat_abs e ≤ most_entry
entry_size half place e h = go (ltb ((place / points half) % columns) 3) h
  where
    go : (b : Bool) → elim b [ true ↦ within (pos 0) (pos 10000000) e | false ↦ within (negsuc 9999999) (pos 10000000) e ] ≡ true → nat_abs e ≤ most_entry
    go true h = price_size e h
    go false h = change_size e h

-- ---- the meaning

module _ (grid : Half) (lines : ℕ) (list : List ℤ) (some : 1 ≤ lines) (few : lines ≤ 16) (fitting : failing (fits_at grid) 0 list ≡ None) where
  entry_small : (place : ℕ) → nat_abs (get_or list place (pos 0)) ≤ most_entry
  entry_small place = ⊎_elim
      (λ in_List. entry_size grid place (get_or list place (pos 0)) (none_fails (fits_at grid) (pos 0) list fitting place in_List))
      (λ past. rw (get_or_past list place (pos 0) past) zero-le)
      (cases_lt place (length list))

  listed_size : (line point column : ℕ) → nat_abs (listed grid list line point column) ≤ grains * most_entry
  listed_size line point column =
      rw (size_product (pos grains) (get_or list (entry_at grid line point column) (pos 0))) (mul-le-mul_left grains (entry_small (entry_at grid line point column)))

  pub table_means : bounded grid lines (grains * most_entry) (listed grid list) ≡ table_of grid lines list
  table_means =
      bounded_is grid lines (grains * most_entry) (listed grid list) some few (lit≤ tt) (λ line point column _ _. listed_size line point column)

-- ---- the outcome

module _ (half lines : ℤ) (list : List ℤ) where
  pub table_passed : (grid : Half) → table_judged half lines list ≡ Ok grid → Tabulates half lines list grid
  table_passed grid e =
      let h = passed_half (half_of half) (λ g. decided (table_checks lines list g) g) grid e in
      let counted = passed_unless (within (pos 1) (pos 16) lines) WrongShape _ grid h.2 in
      let long = passed_unless (eqb (length list) (entries h.0 (nat_abs lines))) _ _ grid counted.1 in
      let all = passed_places (failing (fits_at h.0) 0 list) OutsideField _ grid long.1 in
      let own : h.0 ≡ grid = cc all.1 in
      subst (Tabulates half lines list) own (record {
        of_half = h.1;
        few_lines = counted.0;
        whole = eqb-true (length list) (entries h.0 (nat_abs lines)) long.0;
        fitting = none_fails (fits_at h.0) (pos 0) list all.0;
      })

  pub table_allowed : (grid : Half) → Tabulates half lines list grid → table_judged half lines list ≡ Ok grid
  table_allowed grid t =
      ap (λ h. on_half h (λ g. decided (table_checks lines list g) g)) t.of_half
      ∙ pass_unless _ _ WrongShape t.few_lines
      ∙ pass_unless _ _ _ (eq-eqb (length list) (entries grid (nat_abs lines)) t.whole)
      ∙ pass_places _ _ OutsideField (all_pass (fits_at grid) (pos 0) list t.fitting)

  pub table_made_lem : (grid : Half) → table_judged half lines list ≡ Ok grid → Ok (bounded grid (nat_abs lines) (grains * most_entry) (listed grid list)) ≡ table_made half lines list
  table_made_lem grid e =
      let t = table_passed grid e in
      let range = count_range lines t.few_lines in
      ap Ok (table_means grid (nat_abs lines) list range.0 range.1 (all_pass (fits_at grid) (pos 0) list t.fitting))
      ∙ sym (ap (λ j. making j (λ g. table_of g (nat_abs lines) list)) e)
