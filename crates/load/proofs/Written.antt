-- A kind accepts exactly the forms of its head and inner heads with so many numbers that it takes, and makes of them the record that they fill.
use Rattle.std.proofs.Common.{◌≡◌, ℕ, zero, suc, ◌+◌, true, ◌&&◌, eqb, List, [], ◌∷◌, length, ℤ, Ok, sym, refl, ap, ◌∙◌, arith}
use Rattle.std.specs.Fmt.{signed_decimal}
use Rattle.std.proofs.lemmas.Bool.{and_parts, eqb-true, eq-eqb}
use Rattle.terms.specs.declared.refusal.Refusal.TheVariants.{OutsideField, WrongForm}
use Rattle.text.specs.Grammar.{Inner, Outer}
use Rattle.text.proofs.Readback.{ok_parts, err_ok}
use Rattle.forms.specs.declared.field.Allowed.{Allowed}
use Rattle.forms.specs.Fields.{allows, Asked}
use Rattle.forms.specs.Reads.{Told, then, given}
use Rattle.forms.specs.Judged.{same, judge_numbers, judge_inner, judge_inners, judge_form}
use Rattle.forms.proofs.Written.{given_ok, same_heads, then_ok_parts}
use Rattle.kinds.specs.Formats.{Format}

-- so many numbers
abbrev pub Vec : ℕ → Type 0
Vec zero = Unit {0}
Vec (suc k) = ℤ × Vec k

abbrev pub listed : (k : ℕ) → Vec k → List ℤ
listed zero v = []
listed (suc k) v = v.0 ∷ listed k v.1

abbrev pub Each : Allowed → (k : ℕ) → Vec k → Type 0
Each allowed zero v = Unit {0}
Each allowed (suc k) v = (allows allowed v.0 ≡ true) × Each allowed k v.1

abbrev pub fill_vec : {R : Type 0} → (R → ℕ → ℤ → R) → (k : ℕ) → Vec k → ℕ → R → R
fill_vec fill zero v index r = r
fill_vec fill (suc k) v index r = fill_vec fill k v.1 (index + 1) (fill r index v.0)

-- as many numbers as each inner form asks for
abbrev pub Numbers : List Asked → Type 0
Numbers [] = Unit {0}
Numbers (a ∷ more) = Vec a.count × Numbers more

abbrev pub inners_of : (fields : List Asked) → Numbers fields → List Inner
inners_of [] v = []
inners_of (a ∷ more) v = record { head = a.head; numbers = listed a.count v.0 } ∷ inners_of more v.1

abbrev pub AllFit : (fields : List Asked) → Numbers fields → Type 0
AllFit [] v = Unit {0}
AllFit (a ∷ more) v = Each a.allowed a.count v.0 × AllFit more v.1

abbrev pub fill_all : {R : Type 0} → (ℕ → R → ℕ → ℤ → R) → (fields : List Asked) → Numbers fields → ℕ → R → R
fill_all fill [] v inner r = r
fill_all fill (a ∷ more) v inner r = fill_all fill more v.1 (inner + 1) (fill_vec (fill inner) a.count v.0 0 r)

pub same_refl : (h : List ℕ) → same h h ≡ true
same_refl [] = refl
same_refl (b ∷ h) = ap (λ t. t && same h h) (eq-eqb b b refl) ∙ same_refl h

pub listed_long : (k : ℕ) (v : Vec k) → length (listed k v) ≡ k
listed_long zero v = refl
listed_long (suc k) v = let more = listed_long k v.1 in omega arith

module _ {R : Type 0} where
  numbers_back : (fill : R → ℕ → ℤ → R) (allowed : Allowed) (count : ℕ) (ns : List ℤ) (index : ℕ) (r s : R) (at u : ℕ) → length ns ≡ count → judge_numbers fill allowed ns index r at ≡ Ok (s, u) → (v : Vec count) × (ns ≡ listed count v) × (s ≡ fill_vec fill count v index r) × Each allowed count v
  unfolding judge_numbers
  numbers_back fill allowed zero [] index r s at u e h = (tt, refl, sym (ok_parts r s at u h).0, tt)
  numbers_back fill allowed zero (n ∷ ns) index r s at u e h = absurd (omega arith)
  numbers_back fill allowed (suc count) [] index r s at u e h = absurd (omega arith)
  numbers_back fill allowed (suc count) (n ∷ ns) index r s at u e h =
      let p = given_ok (allows allowed n) (OutsideField (at + 1)) (judge_numbers fill allowed ns (index + 1) (fill r index n) (at + 1 + length (signed_decimal n))) s u h in
      let q = numbers_back fill allowed count ns (index + 1) (fill r index n) s (at + 1 + length (signed_decimal n)) u (omega arith) p.1 in
      ((n, q.0), ap (λ l. n ∷ l) q.1, q.2, (p.0, q.3))

  numbers_ahead : (fill : R → ℕ → ℤ → R) (allowed : Allowed) (count : ℕ) (v : Vec count) (index : ℕ) (r : R) (at : ℕ) → Each allowed count v → (u : ℕ) × (judge_numbers fill allowed (listed count v) index r at ≡ Ok (fill_vec fill count v index r, u))
  unfolding judge_numbers
  numbers_ahead fill allowed zero v index r at f = (at, refl)
  numbers_ahead fill allowed (suc count) v index r at f =
      let q = numbers_ahead fill allowed count v.1 (index + 1) (fill r index v.0) (at + 1 + length (signed_decimal v.0)) f.1 in
      (q.0, ap (λ t. given t (OutsideField (at + 1)) (judge_numbers fill allowed (listed count v.1) (index + 1) (fill r index v.0) (at + 1 + length (signed_decimal v.0)))) f.0 ∙ q.1)

  pub inner_back : (fill : R → ℕ → ℤ → R) (a : Asked) (i : Inner) (r s : R) (at u : ℕ) → judge_inner fill a i r at ≡ Ok (s, u) → (v : Vec a.count) × (i ≡ record { head = a.head; numbers = listed a.count v }) × (s ≡ fill_vec fill a.count v 0 r) × Each a.allowed a.count v
  unfolding judge_inner
  inner_back fill a i r s at u h =
      let read = judge_numbers fill a.allowed i.numbers 0 r (at + 2 + length i.head) in
      let p = given_ok (same a.head i.head && eqb (length i.numbers) a.count) (WrongForm (at + 1)) (then read (λ s u. Ok (s, u + 1))) s u h in
      let q = and_parts (same a.head i.head) (eqb (length i.numbers) a.count) p.0 in
      let head = same_heads a.head i.head q.0 in
      let w = then_ok_parts read (λ s u. Ok (s, u + 1)) s u p.1 in
      let n = numbers_back fill a.allowed a.count i.numbers 0 r w.0 (at + 2 + length i.head) w.1 (eqb-true (length i.numbers) a.count q.1) w.2 in
      (n.0, (λ j. record { head = sym head j; numbers = n.1 j }), sym (ok_parts w.0 s (w.1 + 1) u w.3).0 ∙ n.2, n.3)

  pub inner_ahead : (fill : R → ℕ → ℤ → R) (a : Asked) (v : Vec a.count) (r : R) (at : ℕ) → Each a.allowed a.count v → (u : ℕ) × (judge_inner fill a (record { head = a.head; numbers = listed a.count v }) r at ≡ Ok (fill_vec fill a.count v 0 r, u))
  unfolding judge_inner
  inner_ahead fill a v r at f =
      let q = numbers_ahead fill a.allowed a.count v 0 r (at + 2 + length a.head) f in
      let more = then (judge_numbers fill a.allowed (listed a.count v) 0 r (at + 2 + length a.head)) (λ s u. Ok (s, u + 1)) in (
        q.0 + 1,
        ap (λ t. given (t && eqb (length (listed a.count v)) a.count) (WrongForm (at + 1)) more) (same_refl a.head)
            ∙ ap (λ t. given t (WrongForm (at + 1)) more) (eq-eqb (length (listed a.count v)) a.count (listed_long a.count v))
            ∙ ap (λ t. then t (λ s u. Ok (s, u + 1))) q.1,
      )

  module _ (fill : ℕ → R → ℕ → ℤ → R) where
    pub inners_back : (fields : List Asked) (is : List Inner) (inner : ℕ) (r s : R) (at u : ℕ) → judge_inners fill fields is inner r at ≡ Ok (s, u) → (v : Numbers fields) × (is ≡ inners_of fields v) × (s ≡ fill_all fill fields v inner r) × AllFit fields v
    unfolding judge_inners
    inners_back [] [] inner r s at u h = (tt, refl, sym (ok_parts r s (at + 2) u h).0, tt)
    inners_back [] (i ∷ is) inner r s at u h = absurd (err_ok (s, u) (WrongForm (at + 1)) h)
    inners_back (a ∷ more) [] inner r s at u h = absurd (err_ok (s, u) (WrongForm at) h)
    inners_back (a ∷ more) (i ∷ is) inner r s at u h =
        let w = then_ok_parts (judge_inner (fill inner) a i r at) (λ s p. judge_inners fill more is (inner + 1) s p) s u h in
        let first = inner_back (fill inner) a i r w.0 at w.1 w.2 in
        let rest = inners_back more is (inner + 1) w.0 s w.1 u w.3 in
        ((first.0, rest.0), (λ j. first.1 j ∷ rest.1 j), rest.2 ∙ ap (fill_all fill more rest.0 (inner + 1)) first.2, (first.3, rest.3))

    pub inners_ahead : (fields : List Asked) (v : Numbers fields) (inner : ℕ) (r : R) (at : ℕ) → AllFit fields v → (u : ℕ) × (judge_inners fill fields (inners_of fields v) inner r at ≡ Ok (fill_all fill fields v inner r, u))
    unfolding judge_inners
    inners_ahead [] v inner r at f = (at + 2, refl)
    inners_ahead (a ∷ more) v inner r at f =
        let first = inner_ahead (fill inner) a v.0 r at f.0 in
        let rest = inners_ahead more v.1 (inner + 1) (fill_vec (fill inner) a.count v.0 0 r) first.0 f.1 in
        (rest.0, ap (λ t. then t (λ s p. judge_inners fill more (inners_of more v.1) (inner + 1) s p)) first.1 ∙ rest.1)

  module _ (format : Format R) where
    -- the form with those numbers, and the record that they fill
    abbrev pub form_with : Numbers format.fields → Outer
    form_with v = record { head = format.head; inners = inners_of format.fields v }

    abbrev pub filled_by : Numbers format.fields → R
    filled_by v = fill_all format.fill format.fields v 0 format.empty

    abbrev judge : Outer → ℕ → Told R
    judge f at = judge_form format.head format.fields format.empty format.fill f at

    pub form_back : (f : Outer) (r : R) (at u : ℕ) → judge f at ≡ Ok (r, u) → (v : Numbers format.fields) × (f ≡ form_with v) × (r ≡ filled_by v) × AllFit format.fields v
    unfolding judge_form
    form_back f r at u h =
        let p = given_ok (same format.head f.head) (WrongForm at) (judge_inners format.fill format.fields f.inners 0 format.empty (at + 1 + length f.head)) r u h in
        let head = same_heads format.head f.head p.0 in
        let w = inners_back format.fill format.fields f.inners 0 format.empty r (at + 1 + length f.head) u p.1 in
        (w.0, (λ j. record { head = sym head j; inners = w.1 j }), w.2, w.3)

    pub form_ahead : (v : Numbers format.fields) (at : ℕ) → AllFit format.fields v → (u : ℕ) × (judge (form_with v) at ≡ Ok (filled_by v, u))
    unfolding judge_form
    form_ahead v at f =
        let w = inners_ahead format.fill format.fields v 0 format.empty (at + 1 + length format.head) f in
        (w.0, ap (λ t. given t (WrongForm at) (judge_inners format.fill format.fields (inners_of format.fields v) 0 format.empty (at + 1 + length format.head))) (same_refl format.head) ∙ w.1)
