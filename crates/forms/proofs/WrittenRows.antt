-- The reader over the writing of a row.
use Rattle.std.proofs.Common.{◌≡◌, ℕ, zero, suc, ◌+◌, ◌/◌, ◌%◌, Bool, true, false, leb, List, [], ◌∷◌, ◌++◌, length, drop, ℤ, pos, Ok, Err, codes, sym, refl, ap, ◌∙◌, append_assoc, arith, length-append}
use Rattle.std.specs.List.{AllByRecursion}
use Rattle.terms.specs.Halves.{points}
use Rattle.terms.specs.declared.half.Half.{Half}
use Rattle.terms.specs.declared.refusal.Refusal.TheVariants.{WrongForm}
use Rattle.text.specs.Grammar.{Inner, Outer, letters, ProperInner, Proper, inner_text, outer_text, text_of}
use Rattle.text.proofs.Readback.{ok_parts, err_ok}
use Rattle.text.proofs.Parsed.{together}
use Rattle.forms.specs.Fields.{Asked}
use Rattle.forms.specs.Reads.{Told, then, given, inner_in, inners_in, outer_in, close_in}
use Rattle.forms.specs.Judged.{same, judge_inner}
use Rattle.forms.specs.Rows.{line_asked, column_asked, prices_asked, added, is_due, due_in, front_in, row_in, rows_in, judge_due, judge_row, judge_rows, ReadsRows}
use Rattle.forms.proofs.There.{behind_all, behind_one, then_same}
use Rattle.forms.proofs.Written.{K, given_then, given_same, given_ok, same_heads, then_ok_parts, then_assoc, inner_missing, inner_there, inner_end, inners_there, inners_end, begins_there, no_letter_forms, nothing_there}

module _ {Y : Type 0} (text rest : List ℕ) (f : Unit {0} → ℕ → Told Y) (g : List Inner → ℕ → Told Y) (h : (is : List Inner) (u : ℕ) → drop u text ≡ K is ++ (41 ∷ rest) → AllByRecursion ProperInner is → f tt u ≡ g is u) where
  -- the number that is due, and what comes behind it
  due_then : (a : Asked) (due bracket : ℕ) (is : List Inner) (at : ℕ) → letters a.head ≡ true → AllByRecursion ProperInner is → drop at text ≡ K is ++ (41 ∷ rest) → then (due_in a due bracket text at) f ≡ then (judge_due a due bracket is at) g
  unfolding due_in judge_due
  due_then a due bracket [] at l p e = ap (λ t. then (then t (λ n q. given (is_due due n) (WrongForm bracket) (Ok (tt, q)))) f) (inner_missing text (λ _ _ n. n) a (pos 0) at rest e)
  due_then a due bracket (i ∷ is) at l p e =
      let opened = e ∙ append_assoc (32 ∷ inner_text i) (K is) (41 ∷ rest) in
      then_assoc (inner_in (λ _ _ n. n) a text (pos 0) at) (λ n q. given (is_due due n) (WrongForm bracket) (Ok (tt, q))) f
      ∙ then_same _ _ _ _ (inner_there text (λ _ _ n. n) a i (pos 0) at (K is ++ (41 ∷ rest)) l p.0 opened) (λ n q done.
      let place = inner_end text (λ _ _ n. n) a i (pos 0) n at q done in
      let here : drop q text ≡ K is ++ (41 ∷ rest) = ap (λ k. drop k text) place ∙ behind_all text at (32 ∷ inner_text i) (K is ++ (41 ∷ rest)) opened in
      given_then (is_due due n) (WrongForm bracket) tt q f ∙ given_same (is_due due n) (WrongForm bracket) _ _ (λ _. h is q here p.1) ∙ sym (given_then (is_due due n) (WrongForm bracket) is q g))
      ∙ sym (then_assoc (judge_inner (λ _ _ n. n) a i (pos 0) at) (λ n q. given (is_due due n) (WrongForm bracket) (Ok (is, q))) g)

-- the number that is due is that of the first inner form
pub due_parts : (a : Asked) (due bracket : ℕ) (is js : List Inner) (at u : ℕ) → judge_due a due bracket is at ≡ Ok (js, u) → (i : Inner) × (is ≡ i ∷ js) × (n : ℤ) × (p : ℕ) × (judge_inner (λ _ _ n. n) a i (pos 0) at ≡ Ok (n, p)) × (is_due due n ≡ true) × (p ≡ u)
unfolding judge_due
due_parts a due bracket [] js at u e = absurd (err_ok (js, u) (WrongForm at) e)
due_parts a due bracket (i ∷ is) js at u e =
    let q = then_ok_parts (judge_inner (λ _ _ n. n) a i (pos 0) at) (λ n p. given (is_due due n) (WrongForm bracket) (Ok (is, p))) js u e in
    let d = given_ok (is_due due q.0) (WrongForm bracket) (Ok (is, q.1)) js u q.3 in
    let same_rest = ok_parts is js q.1 u d.1 in
    (i, ap (λ l. i ∷ l) same_rest.0, q.0, q.1, q.2, d.0, same_rest.1)

module _ (line column : ℕ) (half : Half) (prices : List ℤ) (f : Outer) (at : ℕ) where
  row_there : (text rest : List ℕ) → Proper f → drop at text ≡ outer_text f ++ rest → row_in line column half text prices at ≡ judge_row line column half prices f at
  unfolding row_in front_in judge_row outer_in inners_in
  row_there text rest p e =
      let body = K f.inners ++ (41 ∷ 10 ∷ rest) in
      let opened : drop at text ≡ 40 ∷ (f.head ++ body) = e ∙ ap (λ x. 40 ∷ x) (sym (together f.head (K f.inners) (41 ∷ 10 ∷ []) rest)) in
      let inside = behind_one text at 40 (f.head ++ body) opened in
      let last = λ (_ : Unit {0}) (q : ℕ). then (inner_in added (prices_asked half column) text prices q) (λ ps u. then (close_in text u) (λ _ v. Ok (ps, v))) in
      let named = λ (_ : Unit {0}) (q : ℕ). then (due_in column_asked column at text q) last in
      let more = λ (_ : Unit {0}) (q : ℕ). then (due_in line_asked line at text q) named in
      then_assoc (outer_in (codes "row") text at) (λ _ q. then (due_in line_asked line at text q) (λ _ u. due_in column_asked column at text u)) last
      ∙ then_same (outer_in (codes "row") text at) (outer_in (codes "row") text at) _ more refl (λ _ q _. then_assoc (due_in line_asked line at text q) (λ _ u. due_in column_asked column at text u) last)
      ∙ ap (λ t. then (given t (WrongForm at) (Ok (tt, at + 1 + length (codes "row")))) more) (begins_there text (codes "row") f.head body at refl p.0.1 (no_letter_forms f.inners (10 ∷ rest)) opened)
      ∙ given_then (same (codes "row") f.head) (WrongForm at) tt (at + 1 + length (codes "row")) more
      ∙ given_same (same (codes "row") f.head) (WrongForm at) _ _ (λ t.
      let alike = same_heads (codes "row") f.head t in
      let here = behind_all text (at + 1) f.head body inside in
      ap (λ h. more tt (at + 1 + length h)) alike
      ∙ due_then text (10 ∷ rest) named _ (λ is q b ps.
      due_then text (10 ∷ rest) last _ (λ js u d qs.
      ap (λ t. then t (λ ps u. then (close_in text u) (λ _ v. Ok (ps, v)))) (sym (one_inner text u))
      ∙ inners_there text (λ _. added) (prices_asked half column ∷ []) js rest 0 prices u (refl, tt) qs d)
      column_asked column at is q refl ps b)
      line_asked line at f.inners (at + 1 + length f.head) refl p.1 here)
    where
      one_inner : (text : List ℕ) (u : ℕ) → inners_in (λ _. added) text (prices_asked half column ∷ []) 0 prices u ≡ inner_in added (prices_asked half column) text prices u
      one_inner text u = then_id (inner_in added (prices_asked half column) text prices u)
        where
          then_id : {X : Type 0} (t : Told X) → then t (λ x q. Ok (x, q)) ≡ t
          then_id (Ok r) = refl
          then_id (Err r) = refl

  pub row_end : (text : List ℕ) (xs : List ℤ) (u : ℕ) → judge_row line column half prices f at ≡ Ok (xs, u) → u ≡ at + length (outer_text f)
  unfolding judge_row
  row_end text xs u e =
      let front = at + 1 + length f.head in
      let headed = given_ok (same (codes "row") f.head) (WrongForm at) _ xs u e in
      let named = then_ok_parts (judge_due line_asked line at f.inners front) _ xs u headed.1 in
      let column-named = then_ok_parts (judge_due column_asked column at named.0 named.1) _ xs u named.3 in
      let first = due_parts line_asked line at f.inners named.0 front named.1 named.2 in
      let second = due_parts column_asked column at named.0 column-named.0 named.1 column-named.1 column-named.2 in
      let first-end = inner_end text (λ _ _ n. n) line_asked first.0 (pos 0) first.2 front first.3 first.4 in
      let second-end = inner_end text (λ _ _ n. n) column_asked second.0 (pos 0) second.2 named.1 second.3 second.4 in
      let last = inners_end text (λ _. added) (prices_asked half column ∷ []) column-named.0 0 prices xs column-named.1 u column-named.3 in
      let whole : length (K f.inners) ≡ length (32 ∷ inner_text first.0) + (length (32 ∷ inner_text second.0) + length (K column-named.0)) = ap (λ is. length (K is)) (first.1 ∙ ap (λ is. first.0 ∷ is) second.1) ∙ length-append (32 ∷ inner_text first.0) _ ∙ ap (λ n. length (32 ∷ inner_text first.0) + n) (length-append (32 ∷ inner_text second.0) (K column-named.0)) in
      let end : u ≡ front + length (K f.inners) + 2 = sums _ _ _ _ _ _ _ _ _ _ first-end first.6 second-end second.6 last whole in
      omega (arith, end, length-append f.head (K f.inners ++ (41 ∷ 10 ∷ [])), length-append (K f.inners) (41 ∷ 10 ∷ []))
    where
      sums : (front a b c d u k i j t : ℕ) → a ≡ front + i → a ≡ b → c ≡ b + j → c ≡ d → u ≡ d + k + 2 → t ≡ i + (j + k) → u ≡ front + t + 2
      sums front a b c d u k i j t p q r s v w = omega arith

row_missing : (line column : ℕ) (half : Half) (text : List ℕ) (prices : List ℤ) (at : ℕ) → drop at text ≡ [] → row_in line column half text prices at ≡ Err (WrongForm at)
unfolding row_in front_in outer_in
row_missing line column half text prices at e = rw (nothing_there text at 40 e)

module _ (first : ℕ) (half : Half) (text : List ℕ) (room : ℕ) where
  rows_there : (fs : List Outer) (left index : ℕ) (prices : List ℤ) (at : ℕ) → AllByRecursion Proper fs → drop at text ≡ text_of fs → rows_in first half text room left index prices at ≡ judge_rows first half room left index prices fs at
  unfolding rows_in judge_rows
  rows_there fs zero index prices at p e = refl
  rows_there [] (suc left) index prices at p e = missing (leb (length prices + points half) room)
    where
      missing : (b : Bool) → given b (WrongForm at) (then (row_in (first + index / 7) (index % 7) half text prices at) (λ ps q. rows_in first half text room left (index + 1) ps q)) ≡ Err (WrongForm at)
      missing true = ap (λ t. then t (λ ps q. rows_in first half text room left (index + 1) ps q)) (row_missing (first + index / 7) (index % 7) half text prices at e)
      missing false = refl
  rows_there (f ∷ fs) (suc left) index prices at p e =
      ap (given (leb (length prices + points half) room) (WrongForm at))
      (then_same _ _ _ _ (row_there (first + index / 7) (index % 7) half prices f at text (text_of fs) p.0 e) (λ ps q done.
      let place = row_end (first + index / 7) (index % 7) half prices f at text ps q done in
      rows_there fs left (index + 1) ps q p.1 (ap (λ n. drop n text) place ∙ behind_all text at (outer_text f) (text_of fs) e)))

pub reads_rows : ReadsRows
reads_rows first half fs text room left index prices at p e = rows_there first half text room fs left index prices at p e
