-- The reader over the writing of a form.
use Rattle.std.proofs.Common.{◌≡◌, ℕ, zero, suc, ◌+◌, Bool, true, false, ◌&&◌, eqb, ltb, List, [], ◌∷◌, ◌++◌, length, get_or, drop, ℤ, Ok, Err, sym, refl, ap, ◌∙◌, append_assoc, arith, length-append}
use Rattle.std.specs.List.{flat_map, AllByRecursion}
use Rattle.std.specs.Fmt.{signed_decimal}
use Rattle.std.proofs.lemmas.Bool.{and_parts, and_left, le-ltb, eqb-true, true≢false}
use Rattle.std.proofs.lemmas.List.{length-drop}
use Rattle.terms.specs.declared.refusal.Refusal.{Refusal}
use Rattle.terms.specs.declared.refusal.Refusal.TheVariants.{OutsideField, WrongForm}
use Rattle.text.specs.Numbers.{number_at}
use Rattle.text.specs.Writing.{InRange, NoDigit}
use Rattle.text.specs.Grammar.{Inner, Outer, letters, ProperInner, Proper, inner_text, outer_text, text_of}
use Rattle.text.proofs.Decimal.{one_writing}
use Rattle.text.proofs.Readback.{reads_fronts, ok_parts, err_ok}
use Rattle.text.proofs.Parsed.{together}
use Rattle.forms.specs.declared.field.Allowed.{Allowed}
use Rattle.forms.specs.Fields.{allows, Asked}
use Rattle.forms.specs.Reads.{Told, then, given, stands, behind, fits_head, is_head, spaces, byte_in, number_in, field_in, spaced_in, open_in, head_in, numbers_in, inner_in, inners_in, begins, outer_in, close_in, form_in, list_on}
use Rattle.forms.specs.Judged.{judge_next, judge_list, ReadsLists, same, judge_numbers, judge_inner, judge_inners, judge_form, Lettered, ReadsForms}
use Rattle.forms.proofs.There.{behind_all, behind_one, stands_is, byte_is, then_same}
use Rattle.forms.proofs.Heads.{NoLetter, head_same, spaces_form}

pub given_then : {X Y : Type 0} (t : Bool) (e : Refusal) (x : X) (q : ℕ) (more : X → ℕ → Told Y) → then (given t e (Ok (x, q))) more ≡ given t e (more x q)
given_then true e x q more = refl
given_then false e x q more = refl

pub given_same : {X : Type 0} (t : Bool) (e : Refusal) (u v : Told X) → (t ≡ true → u ≡ v) → given t e u ≡ given t e v
given_same true e u v h = h refl
given_same false e u v h = refl

pub given_ok : {X : Type 0} (t : Bool) (e : Refusal) (u : Told X) (x : X) (q : ℕ) → given t e u ≡ Ok (x, q) → (t ≡ true) × (u ≡ Ok (x, q))
given_ok true e u x q h = (refl, h)
given_ok false e u x q h = absurd (err_ok (x, q) e h)

abbrev J : List ℤ → List ℕ
J ns = flat_map (λ n. 32 ∷ signed_decimal n) ns

no_digit : (ns : List ℤ) (rest : List ℕ) → NoDigit (J ns ++ (41 ∷ rest))
no_digit [] rest = refl
no_digit (n ∷ ns) rest = refl

no_letter : (ns : List ℤ) (rest : List ℕ) → NoLetter (J ns ++ (41 ∷ rest))
no_letter [] rest = refl
no_letter (n ∷ ns) rest = refl

module _ (text : List ℕ) where
  number_there : (at : ℕ) (n : ℤ) (rest : List ℕ) → InRange n → NoDigit rest → drop at text ≡ signed_decimal n ++ rest → number_in text at ≡ Ok (n, at + length (signed_decimal n))
  unfolding number_in
  number_there at n rest p d e =
      let reads = (reads_fronts n (length (signed_decimal n)) (signed_decimal n ++ rest)).0 (record { front = signed_decimal n; rest = rest; whole = refl; writes = (one_writing n).0 p; ends = d; long = refl }) in
      ap (behind at) (ap number_at e ∙ reads)

  spaced_there : (at : ℕ) (allowed : Allowed) (n : ℤ) (rest : List ℕ) → InRange n → NoDigit rest → drop at text ≡ 32 ∷ (signed_decimal n ++ rest) → spaced_in allowed text at ≡ given (allows allowed n) (OutsideField (at + 1)) (Ok (n, at + 1 + length (signed_decimal n)))
  unfolding spaced_in field_in
  spaced_there at allowed n rest p d e =
      let read = number_there (at + 1) n rest p d (behind_one text at 32 (signed_decimal n ++ rest) e) in
      ap (λ t. then t (λ _ q. field_in allowed text q)) (byte_is text at 32 (signed_decimal n ++ rest) e) ∙ ap (λ t. then t (λ m q. given (allows allowed m) (OutsideField (at + 1)) (Ok (m, q)))) read

  module _ {R : Type 0} (fill : R → ℕ → ℤ → R) (allowed : Allowed) where
    numbers_there : (ns : List ℤ) (rest : List ℕ) (index : ℕ) (r : R) (at : ℕ) → AllByRecursion InRange ns → drop at text ≡ J ns ++ (41 ∷ rest) → numbers_in fill allowed text (length ns) index r at ≡ judge_numbers fill allowed ns index r at
    unfolding numbers_in judge_numbers
    numbers_there [] rest index r at a e = refl
    numbers_there (n ∷ ns) rest index r at a e =
        let f = e ∙ append_assoc (32 ∷ signed_decimal n) (J ns) (41 ∷ rest) in
        let next = behind_all text (at + 1) (signed_decimal n) (J ns ++ (41 ∷ rest)) (behind_one text at 32 _ f) in
        ap (λ t. then t (λ m p. numbers_in fill allowed text (length ns) (index + 1) (fill r index m) p)) (spaced_there at allowed n (J ns ++ (41 ∷ rest)) a.0 (no_digit ns rest) f)
        ∙ given_then (allows allowed n) (OutsideField (at + 1)) n (at + 1 + length (signed_decimal n)) (λ m p. numbers_in fill allowed text (length ns) (index + 1) (fill r index m) p)
        ∙ ap (given (allows allowed n) (OutsideField (at + 1))) (numbers_there ns rest (index + 1) (fill r index n) (at + 1 + length (signed_decimal n)) a.1 next)

    numbers_end : (ns : List ℤ) (index : ℕ) (r s : R) (at u : ℕ) → judge_numbers fill allowed ns index r at ≡ Ok (s, u) → u ≡ at + length (J ns)
    unfolding judge_numbers
    numbers_end [] index r s at u e = let p = ok_parts _ _ _ _ e in omega (arith, p.1)
    numbers_end (n ∷ ns) index r s at u e =
        let p = given_ok (allows allowed n) (OutsideField (at + 1)) _ s u e in
        omega (arith, numbers_end ns (index + 1) (fill r index n) s (at + 1 + length (signed_decimal n)) u p.1, length-append (signed_decimal n) (J ns))

pub same_heads : (h g : List ℕ) → same h g ≡ true → h ≡ g
same_heads [] [] e = refl
same_heads [] (b ∷ g) e = absurd (true≢false (sym e))
same_heads (a ∷ h) [] e = absurd (true≢false (sym e))
same_heads (a ∷ h) (b ∷ g) e =
    let p = and_parts (eqb a b) (same h g) e in
    let first = eqb-true a b p.0 in
    let more = same_heads h g p.1 in
    λ i. first i ∷ more i

module _ (text : List ℕ) where
  open_there : (at : ℕ) (rest : List ℕ) → drop at text ≡ 32 ∷ 40 ∷ rest → open_in text at ≡ Ok (at + 1, at + 1 + 1)
  unfolding open_in
  open_there at rest e =
      let second = byte_is text (at + 1) 40 rest (behind_one text at 32 (40 ∷ rest) e) in
      rw (stands_is text at 32 (40 ∷ rest) e 41, byte_is text at 32 (40 ∷ rest) e, second)

  head_there : (a : Asked) (h : List ℕ) (ns : List ℤ) (rest : List ℕ) (bracket at : ℕ) → letters a.head ≡ true → letters h ≡ true → AllByRecursion InRange ns → drop at text ≡ h ++ (J ns ++ (41 ∷ rest)) → head_in a bracket text at ≡ given (same a.head h && eqb (length ns) a.count) (WrongForm bracket) (Ok (tt, at + length a.head))
  unfolding head_in
  head_there a h ns rest bracket at l m p e =
      let bs = h ++ (J ns ++ (41 ∷ rest)) in
      let fits : fits_head a (drop at text) ≡ (same a.head h && eqb (length ns) a.count) = ap (fits_head a) e ∙ ap (λ t. t && eqb (spaces 0 bs) a.count) (head_same a.head h (J ns ++ (41 ∷ rest)) l m (no_letter ns rest)) ∙ ap (λ k. same a.head h && eqb k a.count) (spaces_form h ns rest m p) in
      ap (λ t. given t (WrongForm bracket) (Ok (tt, at + length a.head))) fits

  module _ {R : Type 0} (fill : R → ℕ → ℤ → R) (a : Asked) (i : Inner) (r : R) (at : ℕ) (rest : List ℕ) (l : letters a.head ≡ true) (p : ProperInner i) (e : drop at text ≡ 32 ∷ (inner_text i ++ rest)) where
    body : List ℕ
    body = i.head ++ (J i.numbers ++ (41 ∷ rest))

    opened : drop at text ≡ 32 ∷ 40 ∷ body
    unfolding body
    opened = e ∙ ap (λ x. 32 ∷ 40 ∷ x) (sym (together i.head (J i.numbers) (41 ∷ []) rest))

    inside : drop (at + 1 + 1) text ≡ body
    inside = behind_one text (at + 1) 40 body (behind_one text at 32 (40 ∷ body) opened)

    -- the numbers and the closing bracket, where head and count are those asked for
    matched : (same a.head i.head && eqb (length i.numbers) a.count) ≡ true → then (numbers_in fill a.allowed text a.count 0 r (at + 1 + 1 + length a.head)) (λ s u. then (byte_in 41 text u) (λ _ v. Ok (s, v))) ≡ then (judge_numbers fill a.allowed i.numbers 0 r (at + 2 + length i.head)) (λ s u. Ok (s, u + 1))
    unfolding body
    matched t =
        let q = and_parts (same a.head i.head) (eqb (length i.numbers) a.count) t in
        let head = same_heads a.head i.head q.0 in
        let count = eqb-true (length i.numbers) a.count q.1 in
        let place : at + 1 + 1 + length a.head ≡ at + 2 + length i.head = omega (arith, ap length head) in
        let here : drop (at + 2 + length i.head) text ≡ J i.numbers ++ (41 ∷ rest) = ap (λ n. drop n text) (sym place ∙ ap (λ h. at + 1 + 1 + length h) head) ∙ behind_all text (at + 1 + 1) i.head (J i.numbers ++ (41 ∷ rest)) inside in
        let read = ap (λ k. numbers_in fill a.allowed text k 0 r (at + 1 + 1 + length a.head)) (sym count) ∙ ap (numbers_in fill a.allowed text (length i.numbers) 0 r) place ∙ numbers_there text fill a.allowed i.numbers rest 0 r (at + 2 + length i.head) p.1 here in
        then_same _ _ _ _ read (λ s u done.
        let end = numbers_end text fill a.allowed i.numbers 0 r s (at + 2 + length i.head) u done in
        let close : drop u text ≡ 41 ∷ rest = ap (λ n. drop n text) end ∙ behind_all text (at + 2 + length i.head) (J i.numbers) (41 ∷ rest) here in
        ap (λ t. then t (λ _ v. Ok (s, v))) (byte_is text u 41 rest close))

    pub inner_there : inner_in fill a text r at ≡ judge_inner fill a i r at
    unfolding inner_in judge_inner body
    inner_there =
        let more = λ (_ : Unit {0}) (q : ℕ). then (numbers_in fill a.allowed text a.count 0 r q) (λ s u. then (byte_in 41 text u) (λ _ v. Ok (s, v))) in
        ap (λ t. then t (λ bracket p. then (head_in a bracket text p) more)) (open_there at body opened)
        ∙ ap (λ t. then t more) (head_there a i.head i.numbers rest (at + 1) (at + 1 + 1) l p.0.1 p.1 inside)
        ∙ given_then _ (WrongForm (at + 1)) tt (at + 1 + 1 + length a.head) more
        ∙ given_same _ (WrongForm (at + 1)) _ _ matched

pub then_ok_parts : {X Y : Type 0} (t : Told X) (f : X → ℕ → Told Y) (y : Y) (q : ℕ) → then t f ≡ Ok (y, q) → (x : X) × (p : ℕ) × (t ≡ Ok (x, p)) × (f x p ≡ Ok (y, q))
then_ok_parts (Ok r) f y q e = (r.0, r.1, refl, e)
then_ok_parts (Err r) f y q e = absurd (err_ok (y, q) r e)

pub then_assoc : {X Y Z : Type 0} (t : Told X) (f : X → ℕ → Told Y) (g : Y → ℕ → Told Z) → then (then t f) g ≡ then t (λ x q. then (f x q) g)
then_assoc (Ok r) f g = refl
then_assoc (Err r) f g = refl

pub inner_end : {R : Type 0} (text : List ℕ) (fill : R → ℕ → ℤ → R) (a : Asked) (i : Inner) (r s : R) (at u : ℕ) → judge_inner fill a i r at ≡ Ok (s, u) → u ≡ at + length (32 ∷ inner_text i)
unfolding judge_inner
inner_end text fill a i r s at u e =
    let read = judge_numbers fill a.allowed i.numbers 0 r (at + 2 + length i.head) in
    let p = given_ok (same a.head i.head && eqb (length i.numbers) a.count) (WrongForm (at + 1)) (then read (λ s u. Ok (s, u + 1))) s u e in
    let q = then_ok_parts read (λ s u. Ok (s, u + 1)) s u p.1 in
    let end = numbers_end text fill a.allowed i.numbers 0 r q.0 (at + 2 + length i.head) q.1 q.2 in
    let last = (ok_parts _ _ _ _ q.3).1 in
    let long = length-append i.head (J i.numbers ++ (41 ∷ [])) in
    omega (arith, end, last, long, length-append (J i.numbers) (41 ∷ []))

pub inner_missing : {R : Type 0} (text : List ℕ) (fill : R → ℕ → ℤ → R) (a : Asked) (r : R) (at : ℕ) (rest : List ℕ) → drop at text ≡ 41 ∷ rest → inner_in fill a text r at ≡ Err (WrongForm at)
unfolding inner_in open_in
inner_missing text fill a r at rest e = rw (stands_is text at 41 rest e 41)

abbrev pub K : List Inner → List ℕ
K is = flat_map (λ i. 32 ∷ inner_text i) is

module _ {R : Type 0} (text : List ℕ) (fill : ℕ → R → ℕ → ℤ → R) where
  -- the inner forms and the end of the line
  abbrev pub to_the_end : List Asked → ℕ → R → ℕ → Told R
  to_the_end fields inner r at = then (inners_in fill text fields inner r at) (λ s u. then (close_in text u) (λ _ v. Ok (s, v)))

  pub inners_there : (fields : List Asked) (is : List Inner) (rest : List ℕ) (inner : ℕ) (r : R) (at : ℕ) → AllByRecursion (λ a. letters a.head ≡ true) fields → AllByRecursion ProperInner is → drop at text ≡ K is ++ (41 ∷ 10 ∷ rest) → to_the_end fields inner r at ≡ judge_inners fill fields is inner r at
  unfolding inners_in judge_inners close_in
  inners_there [] [] rest inner r at l p e =
      let second = byte_is text (at + 1) 10 rest (behind_one text at 41 (10 ∷ rest) e) in
      let place : at + 1 + 1 ≡ at + 2 = omega arith in
      rw (stands_is text at 41 (10 ∷ rest) e 32, byte_is text at 41 (10 ∷ rest) e, second, place)
  inners_there [] (i ∷ is) rest inner r at l p e = rw (stands_is text at 32 _ (e ∙ append_assoc (32 ∷ inner_text i) (K is) (41 ∷ 10 ∷ rest)) 32)
  inners_there (a ∷ more) [] rest inner r at l p e =
      ap (λ t. then (then t (λ s q. inners_in fill text more (inner + 1) s q)) (λ s u. then (close_in text u) (λ _ v. Ok (s, v)))) (inner_missing text (fill inner) a r at (10 ∷ rest) e)
  inners_there (a ∷ more) (i ∷ is) rest inner r at l p e =
      let f = e ∙ append_assoc (32 ∷ inner_text i) (K is) (41 ∷ 10 ∷ rest) in
      then_assoc (inner_in (fill inner) a text r at) (λ s q. inners_in fill text more (inner + 1) s q) (λ s u. then (close_in text u) (λ _ v. Ok (s, v)))
      ∙ then_same _ _ _ _ (inner_there text (fill inner) a i r at (K is ++ (41 ∷ 10 ∷ rest)) l.0 p.0 f) (λ s q done.
      let place = inner_end text (fill inner) a i r s at q done in
      let here : drop q text ≡ K is ++ (41 ∷ 10 ∷ rest) = ap (λ n. drop n text) place ∙ behind_all text at (32 ∷ inner_text i) (K is ++ (41 ∷ 10 ∷ rest)) f in
      inners_there more is rest (inner + 1) s q l.1 p.1 here)

pub no_letter_forms : (is : List Inner) (rest : List ℕ) → NoLetter (K is ++ (41 ∷ rest))
no_letter_forms [] rest = refl
no_letter_forms (i ∷ is) rest = refl

pub begins_there : (text head g rest : List ℕ) (at : ℕ) → letters head ≡ true → letters g ≡ true → NoLetter rest → drop at text ≡ 40 ∷ (g ++ rest) → begins head text at ≡ same head g
begins_there text head g rest at l m n e =
    let inside = behind_one text at 40 (g ++ rest) e in
    ap (λ t. t && is_head head (drop (at + 1) text)) (stands_is text at 40 (g ++ rest) e 40) ∙ ap (is_head head) inside ∙ head_same head g rest l m n

form_there : {R : Type 0} (head : List ℕ) (fields : List Asked) (empty : R) (fill : ℕ → R → ℕ → ℤ → R) (f : Outer) (text rest : List ℕ) (at : ℕ) → Lettered head fields → Proper f → drop at text ≡ outer_text f ++ rest → form_in head fields empty fill text at ≡ judge_form head fields empty fill f at
unfolding form_in judge_form outer_in
form_there head fields empty fill f text rest at l p e =
    let body = K f.inners ++ (41 ∷ 10 ∷ rest) in
    let opened : drop at text ≡ 40 ∷ (f.head ++ body) = e ∙ ap (λ x. 40 ∷ x) (sym (together f.head (K f.inners) (41 ∷ 10 ∷ []) rest)) in
    let inside = behind_one text at 40 (f.head ++ body) opened in
    let more = λ (_ : Unit {0}) (q : ℕ). to_the_end text fill fields 0 empty q in
    ap (λ t. then (given t (WrongForm at) (Ok (tt, at + 1 + length head))) more) (begins_there text head f.head body at l.0 p.0.1 (no_letter_forms f.inners (10 ∷ rest)) opened)
    ∙ given_then (same head f.head) (WrongForm at) tt (at + 1 + length head) more
    ∙ given_same (same head f.head) (WrongForm at) _ _ (λ t.
    let alike = same_heads head f.head t in
    let here = behind_all text (at + 1) f.head body inside in
    ap (λ h. to_the_end text fill fields 0 empty (at + 1 + length h)) alike ∙ inners_there text fill fields f.inners rest 0 empty (at + 1 + length f.head) l.1 p.1 here)

-- no byte stands behind the end
pub nothing_there : (text : List ℕ) (at c : ℕ) → drop at text ≡ [] → stands c text at ≡ false
nothing_there text at c e = let none = sym (length-drop at text) ∙ ap length e in and_left (ltb at (length text)) (eqb (get_or text at 0) c) (le-ltb at (length text) (omega arith))

pub reads_forms : {R : Type 0} (head : List ℕ) (fields : List Asked) (empty : R) (fill : ℕ → R → ℕ → ℤ → R) → Lettered head fields → ReadsForms head fields empty fill
unfolding form_in judge_next outer_in
reads_forms head fields empty fill l [] text at p e = rw (nothing_there text at 40 e)
reads_forms head fields empty fill l (f ∷ fs) text at p e = form_there head fields empty fill f text (text_of fs) at l p.0 e

-- a form that is read takes all of its line
pub inners_end : {R : Type 0} (text : List ℕ) (fill : ℕ → R → ℕ → ℤ → R) (fields : List Asked) (is : List Inner) (inner : ℕ) (r s : R) (at u : ℕ) → judge_inners fill fields is inner r at ≡ Ok (s, u) → u ≡ at + length (K is) + 2
unfolding judge_inners
inners_end text fill [] [] inner r s at u e = omega (arith, (ok_parts _ _ _ _ e).1)
inners_end text fill [] (i ∷ is) inner r s at u e = absurd (err_ok (s, u) (WrongForm (at + 1)) e)
inners_end text fill (a ∷ more) [] inner r s at u e = absurd (err_ok (s, u) (WrongForm at) e)
inners_end text fill (a ∷ more) (i ∷ is) inner r s at u e =
    let q = then_ok_parts (judge_inner (fill inner) a i r at) (λ s p. judge_inners fill more is (inner + 1) s p) s u e in
    let first = inner_end text (fill inner) a i r q.0 at q.1 q.2 in
    let rest = inners_end text fill more is (inner + 1) q.0 s q.1 u q.3 in
    omega (arith, first, rest, length-append (32 ∷ inner_text i) (K is))

pub form_end : {R : Type 0} (text : List ℕ) (head : List ℕ) (fields : List Asked) (empty : R) (fill : ℕ → R → ℕ → ℤ → R) (f : Outer) (r : R) (at u : ℕ) → judge_form head fields empty fill f at ≡ Ok (r, u) → u ≡ at + length (outer_text f)
unfolding judge_form
form_end text head fields empty fill f r at u e =
    let p = given_ok (same head f.head) (WrongForm at) (judge_inners fill fields f.inners 0 empty (at + 1 + length f.head)) r u e in
    let end = inners_end text fill fields f.inners 0 empty r (at + 1 + length f.head) u p.1 in
    omega (arith, end, length-append f.head (K f.inners ++ (41 ∷ 10 ∷ [])), length-append (K f.inners) (41 ∷ 10 ∷ []))

module _ {R : Type 0} (head : List ℕ) (fields : List Asked) (empty : R) (fill : ℕ → R → ℕ → ℤ → R) (l : Lettered head fields) (text : List ℕ) where
  begins_line : (f : Outer) (rest : List ℕ) (at : ℕ) → Proper f → drop at text ≡ outer_text f ++ rest → begins head text at ≡ same head f.head
  begins_line f rest at p e =
      let body = K f.inners ++ (41 ∷ 10 ∷ rest) in
      begins_there text head f.head body at l.0 p.0.1 (no_letter_forms f.inners (10 ∷ rest)) (e ∙ ap (λ x. 40 ∷ x) (sym (together f.head (K f.inners) (41 ∷ 10 ∷ []) rest)))

  none_begins : (at : ℕ) → drop at text ≡ [] → begins head text at ≡ false
  none_begins at e = and_left (stands 40 text at) (is_head head (drop (at + 1) text)) (nothing_there text at 40 e)

  list_there : (fs : List Outer) (room at : ℕ) (rs : List R) → AllByRecursion Proper fs → drop at text ≡ text_of fs → list_on head fields empty fill text room rs at ≡ judge_list head fields empty fill room rs fs at
  unfolding list_on judge_list
  list_there [] zero at rs p e = rw (none_begins at e)
  list_there [] (suc room) at rs p e = rw (none_begins at e, list_on)
  list_there (f ∷ fs) zero at rs p e = rw (begins_line f (text_of fs) at p.0 e)
  list_there (f ∷ fs) (suc room) at rs p e =
      ap (λ t. elim t [ false ↦ Ok (rs, at) | true ↦ then (form_in head fields empty fill text at) (λ r q. list_on head fields empty fill text room (rs ++ (r ∷ [])) q) ]) (begins_line f (text_of fs) at p.0 e)
      ∙ ap (λ (u : Told (List R)). elim (same head f.head) [ false ↦ Ok (rs, at) | true ↦ u ])
      (then_same _ _ _ _ (form_there head fields empty fill f text (text_of fs) at l p.0 e) (λ r q done.
      let place = form_end text head fields empty fill f r at q done in
      list_there fs room q (rs ++ (r ∷ [])) p.1 (ap (λ n. drop n text) place ∙ behind_all text at (outer_text f) (text_of fs) e)))

pub reads_lists : {R : Type 0} (head : List ℕ) (fields : List Asked) (empty : R) (fill : ℕ → R → ℕ → ℤ → R) → Lettered head fields → ReadsLists head fields empty fill
reads_lists head fields empty fill l fs text room at rs p e = list_there head fields empty fill l text fs room at rs p e
