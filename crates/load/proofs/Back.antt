-- From what was read to how it was written, and from what is written to what is read: one form, and forms of a kind that follow one another.
use Rattle.std.proofs.Common.{◌≡◌, ℕ, zero, suc, ◌+◌, ◌≤◌, Bool, true, false, not, List, [], ◌∷◌, ◌++◌, map, length, drop, Ok, sym, refl, ap, ◌∙◌, subst, append_assoc, append-nil, arith, length-append}
use mathlib.Core.List.{append_cancel_left}
use Rattle.std.specs.List.{AllByRecursion}
use Rattle.terms.specs.declared.refusal.Refusal.TheVariants.{WrongForm}
use Rattle.text.specs.Grammar.{Outer, Proper, outer_text, text_of}
use Rattle.text.proofs.Readback.{ok_parts, err_ok}
use Rattle.forms.specs.Reads.{Told, then, given}
use Rattle.forms.specs.Judged.{same, judge_form, judge_next, judge_list}
use Rattle.forms.proofs.There.{behind_all}
use Rattle.forms.proofs.Written.{given_ok, then_ok_parts, form_end, reads_forms, reads_lists}
use Rattle.kinds.specs.Formats.{Format}
use Rattle.load.specs.Reading.{form_at, any_at}
use Rattle.load.proofs.Codecs.{Codec}
use Rattle.load.proofs.Written.{form_with, filled_by, form_back, form_ahead, same_refl}

-- the next form, if there is one, has another head
abbrev pub Other : List ℕ → List Outer → Type 0
Other head [] = Unit {0}
Other head (f ∷ fs) = same head f.head ≡ false

places : (u q at a b c d : ℕ) → u ≡ q + c → q ≡ at + a → a ≡ b → d ≡ b + c → u ≡ at + d
places u q at a b c d e f g h = omega arith

pub text_append : (fs gs : List Outer) → text_of (fs ++ gs) ≡ text_of fs ++ text_of gs
text_append [] gs = refl
text_append (f ∷ fs) gs = ap (λ t. outer_text f ++ t) (text_append fs gs) ∙ sym (append_assoc (outer_text f) (text_of fs) (text_of gs))

module _ {R : Type 0} (format : Format R) (codec : Codec format) where
  abbrev judge : Outer → ℕ → Told R
  judge f at = judge_form format.head format.fields format.empty format.fill f at

  -- a record that may be written, in forms that may be
  abbrev pub Good : R → Type 0
  Good r = codec.Fits r × Proper (codec.form r)

  one_back : (f : Outer) (r : R) (at u : ℕ) → Proper f → judge f at ≡ Ok (r, u) → (f ≡ codec.form r) × Good r
  one_back f r at u p h =
      let w = form_back format f r at u h in
      let known = codec.back w.0 w.3 in
      let is : f ≡ codec.form r = w.1 ∙ ap (form_with format) (sym known.0) ∙ codec.written (filled_by format w.0) ∙ ap codec.form (sym w.2) in
      (is, (subst codec.Fits (sym w.2) known.1, subst Proper is p))

  one_ahead : (r : R) (at : ℕ) → codec.Fits r → (u : ℕ) × (judge (codec.form r) at ≡ Ok (r, u))
  one_ahead r at fit =
      let w = codec.ahead r fit in
      let read = form_ahead format (codec.numbers r) at w.0 in
      (read.0, ap (λ f. judge f at) (sym (codec.written r)) ∙ read.1 ∙ ap (λ s. Ok (s, read.0)) w.1)

  head_is : (r : R) → same format.head (codec.form r).head ≡ true
  head_is r = ap (λ (f : Outer). same format.head f.head) (sym (codec.written r)) ∙ same_refl format.head

  abbrev list : ℕ → List R → List Outer → ℕ → Told (List R)
  list room rs fs at = judge_list format.head format.fields format.empty format.fill room rs fs at

  -- what a list of forms was read as
  pub record Taken (rs : List R) (fs : List Outer) (at : ℕ) (xs : List R) (u room : ℕ) : Type 0 where
    pub records : List R
    pub rest : List Outer
    pub whole : fs ≡ map codec.form records ++ rest
    pub all : xs ≡ rs ++ records
    pub good : AllByRecursion Good records
    pub few : length records ≤ room
    pub place : u ≡ at + length (text_of (map codec.form records))
    pub proper : AllByRecursion Proper rest

  list_back : (room : ℕ) (rs : List R) (fs : List Outer) (at : ℕ) (xs : List R) (u : ℕ) → AllByRecursion Proper fs → list room rs fs at ≡ Ok (xs, u) → Taken rs fs at xs u room
  unfolding judge_list
  list_back room rs [] at xs u p h =
      let q = ok_parts rs xs at u h in
      none room [] rs at xs u p q.0 q.1
    where
      none : (room : ℕ) (fs : List Outer) (rs : List R) (at : ℕ) (xs : List R) (u : ℕ) → AllByRecursion Proper fs → rs ≡ xs → at ≡ u → Taken rs fs at xs u room
      none room fs rs at xs u p e f = record { records = []; rest = fs; whole = refl; all = sym e ∙ sym (append-nil rs); good = tt; few = omega arith; place = omega arith; proper = p }
  list_back zero rs (f ∷ fs) at xs u p h =
      let q = given_ok (not (same format.head f.head)) (WrongForm at) (Ok (rs, at)) xs u h in
      let w = ok_parts rs xs at u q.1 in
      record { records = []; rest = f ∷ fs; whole = refl; all = sym w.0 ∙ sym (append-nil rs); good = tt; few = omega arith; place = omega (arith, w.1); proper = p }
  list_back (suc room) rs (f ∷ fs) at xs u p h =
      by (same format.head f.head) h (λ r q g. list_back room (rs ++ (r ∷ [])) fs q xs u p.1 g)
    where
      by : (b : Bool) → ◌≡◌ {A = Told (List R)} (elim b [ false ↦ Ok (rs, at) | true ↦ then (judge f at) (λ r q. list room (rs ++ (r ∷ [])) fs q) ]) (Ok (xs, u)) → ((r : R) (q : ℕ) → list room (rs ++ (r ∷ [])) fs q ≡ Ok (xs, u) → Taken (rs ++ (r ∷ [])) fs q xs u room) → Taken rs (f ∷ fs) at xs u (suc room)
      by false g more =
          let w = ok_parts rs xs at u g in
          record { records = []; rest = f ∷ fs; whole = refl; all = sym w.0 ∙ sym (append-nil rs); good = tt; few = omega arith; place = omega (arith, w.1); proper = p }
      by true g more =
          let w = then_ok_parts (judge f at) (λ r q. list room (rs ++ (r ∷ [])) fs q) xs u g in
          let first = one_back f w.0 at w.1 p.0 w.2 in
          let taken = more w.0 w.1 w.3 in
          let end = form_end (text_of fs) format.head format.fields format.empty format.fill f w.0 at w.1 w.2 in
          let written = ap (λ g. length (outer_text g)) first.0 in
          let records = taken.records in
          record {
            records = w.0 ∷ records;
            rest = taken.rest;
            whole = λ i. first.0 i ∷ taken.whole i;
            all = taken.all ∙ append_assoc rs (w.0 ∷ []) records;
            good = (first.1, taken.good);
            few = let less = taken.few in omega arith;
            place = places u w.1 at (length (outer_text f)) (length (outer_text (codec.form w.0))) (length (text_of (map codec.form records))) (length (text_of (map codec.form (w.0 ∷ records)))) taken.place end written (length-append (outer_text (codec.form w.0)) (text_of (map codec.form records)));
            proper = taken.proper;
          }

  list_ahead : (room : ℕ) (rs ys : List R) (rest : List Outer) (at : ℕ) → AllByRecursion codec.Fits ys → length ys ≤ room → Other format.head rest → (u : ℕ) × (list room rs (map codec.form ys ++ rest) at ≡ Ok (rs ++ ys, u))
  unfolding judge_list
  list_ahead room rs [] [] at good few other = (at, ap (λ l. Ok (l, at)) (sym (append-nil rs)))
  list_ahead zero rs [] (f ∷ fs) at good few other = (at, ap (λ t. given (not t) (WrongForm at) (Ok (rs, at))) other ∙ ap (λ l. Ok (l, at)) (sym (append-nil rs)))
  list_ahead (suc room) rs [] (f ∷ fs) at good few other = (at, ap (λ (t : Bool). elim t [ false ↦ Ok (rs, at) | true ↦ then (judge f at) (λ r q. list room (rs ++ (r ∷ [])) fs q) ]) other ∙ ap (λ l. Ok (l, at)) (sym (append-nil rs)))
  list_ahead zero rs (y ∷ ys) rest at good few other = absurd (omega arith)
  list_ahead (suc room) rs (y ∷ ys) rest at good few other =
      let first = one_ahead y at good.0 in
      let more = list_ahead room (rs ++ (y ∷ [])) ys rest first.0 good.1 (omega arith) other in
      let fs = map codec.form ys ++ rest in (
        more.0,
        ap (λ (t : Bool). elim t [ false ↦ Ok (rs, at) | true ↦ then (judge (codec.form y) at) (λ r q. list room (rs ++ (r ∷ [])) fs q) ]) (head_is y)
            ∙ ap (λ t. then t (λ r q. list room (rs ++ (r ∷ [])) fs q)) first.1
            ∙ more.1
            ∙ ap (λ l. Ok (l, more.0)) (append_assoc rs (y ∷ []) ys),
      )

  pub all_proper : (ys : List R) (rest : List Outer) → AllByRecursion Good ys → AllByRecursion Proper rest → AllByRecursion Proper (map codec.form ys ++ rest)
  all_proper [] rest good p = p
  all_proper (y ∷ ys) rest good p = (good.0.1, all_proper ys rest good.1 p)

  pub all_fit : (ys : List R) → AllByRecursion Good ys → AllByRecursion codec.Fits ys
  all_fit [] good = tt
  all_fit (y ∷ ys) good = (good.0.0, all_fit ys good.1)

  module _ (text : List ℕ) (at : ℕ) where
    -- forms of the kind that were read, of those that are left: how they are written, and what is left behind them
    pub any_back : (room : ℕ) (fs : List Outer) (xs : List R) (u : ℕ) → AllByRecursion Proper fs → drop at text ≡ text_of fs → any_at format text room at ≡ Ok (xs, u) → (rest : List Outer) × (fs ≡ map codec.form xs ++ rest) × AllByRecursion Good xs × (length xs ≤ room) × (drop u text ≡ text_of rest) × AllByRecursion Proper rest
    any_back room fs xs u p e h =
        let taken = list_back room [] fs at xs u p (sym (reads_lists format.head format.fields format.empty format.fill codec.lettered fs text room at [] p e) ∙ h) in
        let same-records = sym taken.all in
        let behind = ap (λ n. drop n text) taken.place ∙ behind_all text at (text_of (map codec.form taken.records)) (text_of taken.rest) (e ∙ ap text_of taken.whole ∙ text_append (map codec.form taken.records) taken.rest) in
        (taken.rest, taken.whole ∙ ap (λ l. map codec.form l ++ taken.rest) same-records, subst (AllByRecursion Good) same-records taken.good, subst (λ (l : List R). length l ≤ room) same-records taken.few, behind, taken.proper)

    pub any_ahead : (room : ℕ) (ys : List R) (rest : List Outer) → AllByRecursion Good ys → AllByRecursion Proper rest → length ys ≤ room → Other format.head rest → drop at text ≡ text_of (map codec.form ys ++ rest) → (u : ℕ) × (any_at format text room at ≡ Ok (ys, u)) × (drop u text ≡ text_of rest)
    any_ahead room ys rest good p few other e =
        let proper = all_proper ys rest good p in
        let read = list_ahead room [] ys rest at (all_fit ys good) few other in
        let is = reads_lists format.head format.fields format.empty format.fill codec.lettered (map codec.form ys ++ rest) text room at [] proper e ∙ read.1 in
        let back = any_back room (map codec.form ys ++ rest) ys read.0 proper e is in
        (read.0, is, back.4 ∙ ap text_of (sym (append_cancel_left (map codec.form ys) rest back.0 back.1)))

    pub form_read : (fs : List Outer) (r : R) (u : ℕ) → AllByRecursion Proper fs → drop at text ≡ text_of fs → form_at format text at ≡ Ok (r, u) → (rest : List Outer) × (fs ≡ codec.form r ∷ rest) × Good r × (drop u text ≡ text_of rest) × AllByRecursion Proper rest
    unfolding judge_next
    form_read fs r u p e h = by fs p e (sym (reads_forms format.head format.fields format.empty format.fill codec.lettered fs text at p e) ∙ h)
      where
        by : (gs : List Outer) → AllByRecursion Proper gs → drop at text ≡ text_of gs → judge_next format.head format.fields format.empty format.fill gs at ≡ Ok (r, u) → (rest : List Outer) × (gs ≡ codec.form r ∷ rest) × Good r × (drop u text ≡ text_of rest) × AllByRecursion Proper rest
        by [] q f g = absurd (err_ok (r, u) (WrongForm at) g)
        by (g ∷ gs) q f k =
            let first = one_back g r at u q.0 k in
            let end = form_end text format.head format.fields format.empty format.fill g r at u k in
            (gs, ap (λ o. o ∷ gs) first.0, first.1, ap (λ n. drop n text) end ∙ behind_all text at (outer_text g) (text_of gs) f, q.1)

    pub form_written : (r : R) (rest : List Outer) → Good r → AllByRecursion Proper rest → drop at text ≡ text_of (codec.form r ∷ rest) → (u : ℕ) × (form_at format text at ≡ Ok (r, u)) × (drop u text ≡ text_of rest)
    unfolding judge_next
    form_written r rest good p e =
        let read = one_ahead r at good.0 in
        let is = reads_forms format.head format.fields format.empty format.fill codec.lettered (codec.form r ∷ rest) text at (good.1, p) e ∙ next_is r rest read in
        let back = form_read (codec.form r ∷ rest) r read.0 (good.1, p) e is in
        (read.0, is, back.3 ∙ ap text_of (sym (ap tail_of back.1)))
      where
        tail_of : List Outer → List Outer
        tail_of [] = []
        tail_of (f ∷ fs) = fs

        next_is : (r : R) (rest : List Outer) (read : (u : ℕ) × (judge (codec.form r) at ≡ Ok (r, u))) → judge_next format.head format.fields format.empty format.fill (codec.form r ∷ rest) at ≡ Ok (r, read.0)
        next_is r rest read = read.1

-- the head of what comes next
pub other_map : {X : Type 0} (head : List ℕ) (form : X → Outer) (xs : List X) (rest : List Outer) → ((x : X) → same head (form x).head ≡ false) → Other head rest → Other head (map form xs ++ rest)
other_map head form [] rest h o = o
other_map head form (x ∷ xs) rest h o = h x
