-- Of a well-formed text only forms, numbers and cards are refused.
use Rattle.std.proofs.Common.{◌≡◌, ℕ, zero, suc, ◌+◌, ◌/◌, ◌%◌, ◌≤◌, Bool, true, false, not, ◌&&◌, eqb, leb, List, [], ◌∷◌, ◌++◌, length, ℤ, pos, Ok, Err, refl, subst, arith}
use Rattle.std.specs.Fmt.{signed_decimal}
use Rattle.terms.specs.Refusals.{number_of}
use Rattle.terms.specs.Halves.{points}
use Rattle.terms.specs.declared.half.Half.{Half}
use Rattle.terms.specs.declared.refusal.Refusal.{Refusal}
use Rattle.terms.specs.declared.refusal.Refusal.TheVariants.{OutsideField, WrongForm}
use Rattle.text.specs.Grammar.{Inner, Outer}
use Rattle.forms.specs.declared.field.Allowed.{Allowed}
use Rattle.forms.specs.Fields.{allows, Asked}
use Rattle.forms.specs.Reads.{Told, then, given}
use Rattle.forms.specs.Judged.{same, judge_numbers, judge_inner, judge_inners, judge_form, judge_next, judge_list}
use Rattle.forms.specs.Rows.{line_asked, column_asked, prices_asked, is_due, added, judge_due, judge_row, judge_rows}

-- a refusal of a form or of a number
abbrev pub OfForms : Refusal → Type 0
OfForms e = (2 ≤ number_of e) × (number_of e ≤ 3)

-- only such a refusal is told
abbrev pub Formal : {X : Type 0} → Told X → Type 0
Formal t = (e : Refusal) → t ≡ Err e → OfForms e

pub ok_formal : {X : Type 0} (x : X) (q : ℕ) → Formal (Ok (x, q))
ok_formal x q e h = let z : ◌≡◌ {A = ℕ} 0 1 = cc in absurd (omega arith)

wrong_formal : {X : Type 0} (p : ℕ) → Formal {X = X} (Err (WrongForm p))
wrong_formal p e h = let is : WrongForm p ≡ e = cc in subst OfForms is (omega arith, omega arith)

pub given_formal : {X : Type 0} (b : Bool) (e : Refusal) (t : Told X) → OfForms e → Formal t → Formal (given b e t)
given_formal true e t f g = g
given_formal false e t f g = λ w h. let is : e ≡ w = cc in subst OfForms is f

pub then_formal : {X Y : Type 0} (t : Told X) (more : X → ℕ → Told Y) → Formal t → ((x : X) (q : ℕ) → t ≡ Ok (x, q) → Formal (more x q)) → Formal (then t more)
then_formal (Ok r) more f g = g r.0 r.1 refl
then_formal (Err e) more f g = λ w h. let is : e ≡ w = cc in subst OfForms is (f e refl)

pub wrong : (p : ℕ) → OfForms (WrongForm p)
wrong p = (omega arith, omega arith)

outside : (p : ℕ) → OfForms (OutsideField p)
outside p = (omega arith, omega arith)

module _ {R : Type 0} where
  numbers_formal : (fill : R → ℕ → ℤ → R) (allowed : Allowed) (ns : List ℤ) (index : ℕ) (r : R) (at : ℕ) → Formal (judge_numbers fill allowed ns index r at)
  unfolding judge_numbers
  numbers_formal fill allowed [] index r at = ok_formal r at
  numbers_formal fill allowed (n ∷ ns) index r at = given_formal (allows allowed n) (OutsideField (at + 1)) _ (outside (at + 1)) (numbers_formal fill allowed ns (index + 1) (fill r index n) (at + 1 + length (signed_decimal n)))

  inner_formal : (fill : R → ℕ → ℤ → R) (a : Asked) (i : Inner) (r : R) (at : ℕ) → Formal (judge_inner fill a i r at)
  unfolding judge_inner
  inner_formal fill a i r at = given_formal (same a.head i.head && eqb (length i.numbers) a.count) (WrongForm (at + 1)) _ (wrong (at + 1)) (then_formal _ _ (numbers_formal fill a.allowed i.numbers 0 r (at + 2 + length i.head)) (λ s u _. ok_formal s (u + 1)))

  inners_formal : (fill : ℕ → R → ℕ → ℤ → R) (fields : List Asked) (is : List Inner) (inner : ℕ) (r : R) (at : ℕ) → Formal (judge_inners fill fields is inner r at)
  unfolding judge_inners
  inners_formal fill [] [] inner r at = ok_formal r (at + 2)
  inners_formal fill [] (i ∷ is) inner r at = wrong_formal (at + 1)
  inners_formal fill (a ∷ more) [] inner r at = wrong_formal at
  inners_formal fill (a ∷ more) (i ∷ is) inner r at = then_formal _ _ (inner_formal (fill inner) a i r at) (λ s q _. inners_formal fill more is (inner + 1) s q)

  module _ (head : List ℕ) (fields : List Asked) (empty : R) (fill : ℕ → R → ℕ → ℤ → R) where
    form_formal : (f : Outer) (at : ℕ) → Formal (judge_form head fields empty fill f at)
    unfolding judge_form
    form_formal f at = given_formal (same head f.head) (WrongForm at) _ (wrong at) (inners_formal fill fields f.inners 0 empty (at + 1 + length f.head))

    pub next_formal : (fs : List Outer) (at : ℕ) → Formal (judge_next head fields empty fill fs at)
    unfolding judge_next
    next_formal [] at = wrong_formal at
    next_formal (f ∷ fs) at = form_formal f at

    pub list_formal : (room : ℕ) (rs : List R) (fs : List Outer) (at : ℕ) → Formal (judge_list head fields empty fill room rs fs at)
    unfolding judge_list
    list_formal room rs [] at = ok_formal rs at
    list_formal zero rs (f ∷ fs) at = given_formal (not (same head f.head)) (WrongForm at) _ (wrong at) (ok_formal rs at)
    list_formal (suc room) rs (f ∷ fs) at = by (same head f.head) (then_formal _ _ (form_formal f at) (λ r q _. list_formal room (rs ++ (r ∷ [])) fs q))
      where
        by : (b : Bool) → Formal (then (judge_form head fields empty fill f at) (λ r q. judge_list head fields empty fill room (rs ++ (r ∷ [])) fs q)) → Formal {X = List R} (elim b [ false ↦ Ok (rs, at) | true ↦ then (judge_form head fields empty fill f at) (λ r q. judge_list head fields empty fill room (rs ++ (r ∷ [])) fs q) ])
        by false g = ok_formal rs at
        by true g = g

due_formal : (a : Asked) (due bracket : ℕ) (is : List Inner) (at : ℕ) → Formal (judge_due a due bracket is at)
unfolding judge_due
due_formal a due bracket [] at = wrong_formal at
due_formal a due bracket (i ∷ is) at = then_formal _ _ (inner_formal (λ _ _ n. n) a i (pos 0) at) (λ n q _. given_formal (is_due due n) (WrongForm bracket) _ (wrong bracket) (ok_formal is q))

row_formal : (line column : ℕ) (half : Half) (ps : List ℤ) (f : Outer) (at : ℕ) → Formal (judge_row line column half ps f at)
unfolding judge_row
row_formal line column half ps f at =
    given_formal _ (WrongForm at) _ (wrong at)
    (then_formal _ _ (due_formal line_asked line at f.inners (at + 1 + length f.head)) (λ is q _.
    then_formal _ _ (due_formal column_asked column at is q) (λ js u _.
    inners_formal (λ _. added) (prices_asked half column ∷ []) js 0 ps u)))

pub rows_formal : (first : ℕ) (half : Half) (room left index : ℕ) (ps : List ℤ) (fs : List Outer) (at : ℕ) → Formal (judge_rows first half room left index ps fs at)
unfolding judge_rows
rows_formal first half room zero index ps fs at = ok_formal ps at
rows_formal first half room (suc left) index ps [] at = wrong_formal at
rows_formal first half room (suc left) index ps (f ∷ fs) at =
    given_formal (leb (length ps + points half) room) (WrongForm at) _ (wrong at)
    (then_formal _ _ (row_formal (first + index / 7) (index % 7) half ps f at) (λ qs q _. rows_formal first half room left (index + 1) qs fs q))
