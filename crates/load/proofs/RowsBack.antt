-- From rows that were read to how they were written, and ahead again.
use Rattle.std.proofs.Common.{◌≡◌, ℕ, zero, suc, ◌+◌, ◌/◌, ◌%◌, ◌≤◌, true, leb, List, [], ◌∷◌, ◌++◌, length, take, drop, ℤ, pos, negsuc, Ok, codes, sym, refl, ap, ◌∙◌, subst, append_assoc, append-nil, arith, length-append}
use mathlib.Core.List.{append_cancel_left}
use Rattle.std.specs.List.{AllByRecursion}
use Rattle.std.proofs.lemmas.List.{take_at, drop_at, take-append-drop}
use Rattle.std.proofs.lemmas.Bool.{eqb-true, eq-eqb, le-leb, false≢true}
use Rattle.terms.specs.Halves.{points}
use Rattle.terms.specs.declared.half.Half.{Half}
use Rattle.terms.specs.declared.refusal.Refusal.TheVariants.{WrongForm}
use Rattle.text.specs.Grammar.{Inner, Outer, Proper, outer_text, text_of}
use Rattle.text.proofs.Readback.{ok_parts, err_ok}
use Rattle.forms.specs.declared.field.Allowed.{Allowed}
use Rattle.forms.specs.declared.field.Allowed.TheVariants.{Any}
use Rattle.forms.specs.Fields.{allows, Asked}
use Rattle.forms.specs.Reads.{then, given}
use Rattle.forms.specs.Judged.{same, judge_inners}
use Rattle.forms.specs.Rows.{line_asked, column_asked, prices_asked, price_allowed, is_due, added, rows_in, judge_due, judge_row, judge_rows}
use Rattle.forms.proofs.There.{behind_all}
use Rattle.forms.proofs.Written.{given_ok, then_ok_parts, same_heads}
use Rattle.forms.proofs.WrittenRows.{due_parts, row_end, reads_rows}
use Rattle.load.specs.Writing.{row_form, row_forms, RowsFit}
use Rattle.load.proofs.Back.{text_append}
use Rattle.load.proofs.Written.{Vec, listed, Each, fill_vec, inner_back, inner_ahead, inners_back, inners_ahead, listed_long}

places : (u q at a b c d e : ℕ) → u ≡ q + c → q ≡ at + a → a ≡ b → c ≡ d → e ≡ b + d → u ≡ at + e
places u q at a b c d e f g h i j = omega arith

-- ---- numbers as a list

added_all : (k : ℕ) (v : Vec k) (index : ℕ) (ps : List ℤ) → fill_vec added k v index ps ≡ ps ++ listed k v
added_all zero v index ps = sym (append-nil ps)
added_all (suc k) v index ps = added_all k v.1 (index + 1) (ps ++ (v.0 ∷ [])) ∙ append_assoc ps (v.0 ∷ []) (listed k v.1)

each_all : (allowed : Allowed) (k : ℕ) (v : Vec k) → Each allowed k v → AllByRecursion (λ n. allows allowed n ≡ true) (listed k v)
each_all allowed zero v f = tt
each_all allowed (suc k) v f = (f.0, each_all allowed k v.1 f.1)

vec_of : (allowed : Allowed) (k : ℕ) (ns : List ℤ) → length ns ≡ k → AllByRecursion (λ n. allows allowed n ≡ true) ns → (v : Vec k) × (listed k v ≡ ns) × Each allowed k v
vec_of allowed zero [] e f = (tt, refl, tt)
vec_of allowed zero (n ∷ ns) e f = absurd (omega arith)
vec_of allowed (suc k) [] e f = absurd (omega arith)
vec_of allowed (suc k) (n ∷ ns) e f =
    let more = vec_of allowed k ns (omega arith) f.1 in
    ((n, more.0), ap (λ l. n ∷ l) more.1, (f.0, more.2))

-- ---- the number that is due

due_is : (due : ℕ) (n : ℤ) → is_due due n ≡ true → n ≡ pos due
due_is due (pos n) e = ap pos (eqb-true n due e)
due_is due (negsuc n) e = absurd (false≢true e)

abbrev one : List ℕ → ℕ → Inner
one head due = record { head = head; numbers = pos due ∷ [] }

-- an inner form of one number, a name
abbrev named : List ℕ → Asked
named head = record { head = head; count = 1; allowed = Any }

module _ (head : List ℕ) (due bracket : ℕ) where
  due_back : (is js : List Inner) (at u : ℕ) → judge_due (named head) due bracket is at ≡ Ok (js, u) → is ≡ one head due ∷ js
  due_back is js at u e =
      let p = due_parts (named head) due bracket is js at u e in
      let i = inner_back (λ _ _ n. n) (named head) p.0 (pos 0) p.2 at p.3 p.4 in
      p.1 ∙ ap (λ x. x ∷ js) (i.1 ∙ ap (λ n. record { head = head; numbers = n ∷ [] }) (sym i.2 ∙ due_is due p.2 p.5))

  due_ahead : (js : List Inner) (at : ℕ) → (u : ℕ) × (judge_due (named head) due bracket (one head due ∷ js) at ≡ Ok (js, u))
  unfolding judge_due
  due_ahead js at =
      let i = inner_ahead (λ _ _ n. n) (named head) (pos due, tt) (pos 0) at (refl, tt) in
      (i.0, ap (λ t. then t (λ n p. given (is_due due n) (WrongForm bracket) (Ok (js, p)))) i.1 ∙ ap (λ t. given t (WrongForm bracket) (Ok (js, i.0))) (eq-eqb due due refl))

-- ---- one row

module _ (line column : ℕ) (half : Half) (ps : List ℤ) where
  row_back : (f : Outer) (xs : List ℤ) (at u : ℕ) → judge_row line column half ps f at ≡ Ok (xs, u) → (v : Vec (points half)) × (f ≡ row_form line column (listed (points half) v)) × (xs ≡ ps ++ listed (points half) v) × Each (price_allowed column) (points half) v
  unfolding judge_row
  row_back f xs at u e =
      let front = at + 1 + length f.head in
      let headed = given_ok (same (codes "row") f.head) (WrongForm at) _ xs u e in
      let head = same_heads (codes "row") f.head headed.0 in
      let lined = then_ok_parts (judge_due line_asked line at f.inners front) _ xs u headed.1 in
      let columned = then_ok_parts (judge_due column_asked column at lined.0 lined.1) _ xs u lined.3 in
      let first = due_back (codes "line") line at f.inners lined.0 front lined.1 lined.2 in
      let second = due_back (codes "column") column at lined.0 columned.0 lined.1 columned.1 columned.2 in
      let last = inners_back (λ _. added) (prices_asked half column ∷ []) columned.0 0 ps xs columned.1 u columned.3 in
      let inners = first ∙ ap (λ l. one (codes "line") line ∷ l) (second ∙ ap (λ l. one (codes "column") column ∷ l) last.1) in
      (last.0.0, (λ i. record { head = sym head i; inners = inners i }), last.2 ∙ added_all (points half) last.0.0 0 ps, last.3.0)

  row_ahead : (v : Vec (points half)) (at : ℕ) → Each (price_allowed column) (points half) v → (u : ℕ) × (judge_row line column half ps (row_form line column (listed (points half) v)) at ≡ Ok (ps ++ listed (points half) v, u))
  unfolding judge_row
  row_ahead v at f =
      let prices : Inner = record { head = codes "prices"; numbers = listed (points half) v } in
      let first = due_ahead (codes "line") line at (one (codes "column") column ∷ prices ∷ []) (at + 1 + length (codes "row")) in
      let second = due_ahead (codes "column") column at (prices ∷ []) first.0 in
      let last = inners_ahead (λ _. added) (prices_asked half column ∷ []) (v, tt) 0 ps second.0 (f, tt) in
      let read-prices = λ (js : List Inner) (q : ℕ). judge_inners (λ _. added) (prices_asked half column ∷ []) js 0 ps q in (
        last.0,
        ap (λ t. then t (λ is p. then (judge_due column_asked column at is p) read-prices)) first.1
            ∙ ap (λ t. then t read-prices) second.1
            ∙ last.1
            ∙ ap (λ l. Ok (l, last.0)) (added_all (points half) v 0 ps),
      )

-- ---- rows that follow one another

module _ (first : ℕ) (half : Half) where
  abbrev k : ℕ
  k = points half

  -- what rows were read as
  record Taken (room left index : ℕ) (ps : List ℤ) (fs : List Outer) (at : ℕ) (xs : List ℤ) (u : ℕ) : Type 0 where
    pub prices : List ℤ
    pub rest : List Outer
    pub whole : fs ≡ row_forms first half left index prices ++ rest
    pub all : xs ≡ ps ++ prices
    pub fit : RowsFit half left index prices
    pub place : u ≡ at + length (text_of (row_forms first half left index prices))
    pub proper : AllByRecursion Proper rest

  judged_back : (room left index : ℕ) (ps : List ℤ) (fs : List Outer) (at : ℕ) (xs : List ℤ) (u : ℕ) → AllByRecursion Proper fs → judge_rows first half room left index ps fs at ≡ Ok (xs, u) → Taken room left index ps fs at xs u
  unfolding judge_rows
  judged_back room zero index ps fs at xs u p h =
      let q = ok_parts ps xs at u h in
      record { prices = []; rest = fs; whole = refl; all = sym q.0 ∙ sym (append-nil ps); fit = refl; place = omega (arith, q.1); proper = p }
  judged_back room (suc left) index ps [] at xs u p h = absurd (err_ok (xs, u) (WrongForm at) h)
  judged_back room (suc left) index ps (f ∷ fs) at xs u p h =
      let line = first + index / 7 in
      let column = index % 7 in
      let g = given_ok (leb (length ps + k) room) (WrongForm at) (then (judge_row line column half ps f at) (λ qs q. judge_rows first half room left (index + 1) qs fs q)) xs u h in
      let w = then_ok_parts (judge_row line column half ps f at) (λ qs q. judge_rows first half room left (index + 1) qs fs q) xs u g.1 in
      let row = row_back line column half ps f w.0 at w.1 w.2 in
      let taken = judged_back room left (index + 1) w.0 fs w.1 xs u p.1 w.3 in
      let mine = listed k row.0 in
      let long = listed_long k row.0 in
      let takes = take_at mine taken.prices k long in
      let drops = drop_at mine taken.prices k long in
      let form-is = row.1 ∙ ap (row_form line column) (sym takes) in
      let forms-are = ap (λ l. row_forms first half left (index + 1) l) (sym drops) in
      let end = row_end line column half ps f at (text_of fs) w.0 w.1 w.2 in
      record {
        prices = mine ++ taken.prices;
        rest = taken.rest;
        whole = λ i. form-is i ∷ (taken.whole ∙ ap (λ l. l ++ taken.rest) forms-are) i;
        all = taken.all ∙ ap (λ l. l ++ taken.prices) row.2 ∙ append_assoc ps mine taken.prices;
        fit = (ap length takes ∙ long, subst (AllByRecursion (λ n. allows (price_allowed column) n ≡ true)) (sym takes) (each_all (price_allowed column) k row.0 row.3), subst (RowsFit half left (index + 1)) (sym drops) taken.fit);
        place = places u w.1 at _ _ _ _ _ taken.place end (ap (λ o. length (outer_text o)) form-is) (ap (λ l. length (text_of l)) forms-are) (length-append (outer_text (row_form line column (take k (mine ++ taken.prices)))) (text_of (row_forms first half left (index + 1) (drop k (mine ++ taken.prices)))));
        proper = taken.proper;
      }

  judged_ahead : (room left index : ℕ) (ps qs : List ℤ) (rest : List Outer) (at : ℕ) → RowsFit half left index qs → length ps + length qs ≤ room → (u : ℕ) × (judge_rows first half room left index ps (row_forms first half left index qs ++ rest) at ≡ Ok (ps ++ qs, u))
  unfolding judge_rows
  judged_ahead room zero index ps qs rest at fit few = (at, ap (λ l. Ok (l, at)) (sym (append-nil ps) ∙ ap (λ l. ps ++ l) (sym fit)))
  judged_ahead room (suc left) index ps qs rest at fit few =
      let line = first + index / 7 in
      let column = index % 7 in
      let v = vec_of (price_allowed column) k (take k qs) fit.0 fit.1 in
      let row = row_ahead line column half ps v.0 at v.2 in
      let row_is = ap (λ l. judge_row line column half ps (row_form line column l) at) (sym v.1) ∙ row.1 ∙ ap (λ l. Ok (ps ++ l, row.0)) v.1 in
      let both = ap length (sym (take-append-drop k qs)) ∙ length-append (take k qs) (drop k qs) in
      let room_for : length ps + k ≤ room = omega (arith, both, fit.0) in
      let more = judged_ahead room left (index + 1) (ps ++ take k qs) (drop k qs) rest row.0 fit.2 (omega (arith, both, fit.0, length-append ps (take k qs))) in
      let next = λ (l : List ℤ) (q : ℕ). judge_rows first half room left (index + 1) l (row_forms first half left (index + 1) (drop k qs) ++ rest) q in (
        more.0,
        ap (λ t. given t (WrongForm at) (then (judge_row line column half ps (row_form line column (take k qs)) at) next)) (le-leb (length ps + k) room room_for)
            ∙ ap (λ t. then t next) row_is
            ∙ more.1
            ∙ ap (λ l. Ok (l, more.0)) (append_assoc ps (take k qs) (drop k qs) ∙ ap (λ l. ps ++ l) (take-append-drop k qs)),
      )

  module _ (text : List ℕ) (at room left : ℕ) where
    pub rows_read : (fs : List Outer) (xs : List ℤ) (u : ℕ) → AllByRecursion Proper fs → drop at text ≡ text_of fs → rows_in first half text room left 0 [] at ≡ Ok (xs, u) → (rest : List Outer) × (fs ≡ row_forms first half left 0 xs ++ rest) × RowsFit half left 0 xs × (drop u text ≡ text_of rest) × AllByRecursion Proper rest
    rows_read fs xs u p e h =
        let taken = judged_back room left 0 [] fs at xs u p (sym (reads_rows first half fs text room left 0 [] at p e) ∙ h) in
        let same-prices = sym taken.all in
        let mine = row_forms first half left 0 taken.prices in
        let behind = ap (λ n. drop n text) taken.place ∙ behind_all text at (text_of mine) (text_of taken.rest) (e ∙ ap text_of taken.whole ∙ text_append mine taken.rest) in
        (taken.rest, taken.whole ∙ ap (λ l. row_forms first half left 0 l ++ taken.rest) same-prices, subst (RowsFit half left 0) same-prices taken.fit, behind, taken.proper)

    pub rows_written : (qs : List ℤ) (rest : List Outer) → RowsFit half left 0 qs → length qs ≤ room → AllByRecursion Proper (row_forms first half left 0 qs ++ rest) → drop at text ≡ text_of (row_forms first half left 0 qs ++ rest) → (u : ℕ) × (rows_in first half text room left 0 [] at ≡ Ok (qs, u)) × (drop u text ≡ text_of rest)
    rows_written qs rest fit few p e =
        let fs = row_forms first half left 0 qs ++ rest in
        let read = judged_ahead room left 0 [] qs rest at fit (omega arith) in
        let is = reads_rows first half fs text room left 0 [] at p e ∙ read.1 in
        let back = rows_read fs qs read.0 p e is in
        (read.0, is, back.3 ∙ ap text_of (sym (append_cancel_left (row_forms first half left 0 qs) rest back.0 back.1)))
