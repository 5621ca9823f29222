-- A text whose walk comes to the end of a line is the writing of forms: what may still come, for each state of the walk.
use Rattle.std.proofs.Common.{◌≡◌, ℕ, suc, ◌+◌, ◌-◌, ◌^◌, ◌<◌, ◌≤◌, Bool, true, false, ◌&&◌, eqb, ltb, List, [], ◌∷◌, ◌++◌, length, ℤ, pos, negsuc, Some, None, decimal, Option, sym, refl, ap, ◌∙◌, subst, append_assoc, arith}
use Rattle.std.specs.List.{flat_map, AllByRecursion}
use Rattle.std.specs.Char.{is_ascii_digit, is_ascii_lowercase}
use Rattle.std.specs.Int.{is_in_range}
use Rattle.std.specs.Str.{all_ascii_digits}
use Rattle.std.specs.Fmt.{signed_decimal}
use Rattle.std.proofs.lemmas.Bool.{and_parts, and_from, ltb-true, eqb-true}
use Rattle.text.specs.declared.shape.State.{State}
use Rattle.text.specs.declared.shape.State.TheVariants.{Line, OuterOpen, OuterHead, OuterSpace, InnerOpen, InnerHead, InnerSpace, Minus, Zero, Digits, InnerClosed, OuterClosed}
use Rattle.text.specs.Shape.{when, more_forms, more_numbers, step}
use Rattle.text.specs.Writing.{value_after, Numeral, InRange}
use Rattle.text.specs.Grammar.{Inner, letters, Head, ProperInner, inner_text, text_of, WellFormed}
use Rattle.std.proofs.lemmas.Fmt.{decimal_digit}
use Rattle.text.proofs.After.{after, after_first}
use Rattle.text.proofs.Decimal.{numeral_small, numeral_printed, in_range, in_range_below}
use Rattle.text.proofs.Readback.{digit_from, not_zero, not_none}

-- bs is the writing of something proper, and then a rest
record Then (X : Type 0) (P : X → Type 0) (text : X → List ℕ) (Q : List ℕ → Type 0) (bs : List ℕ) : Type 0 where
  what : X
  rest : List ℕ
  proper : P what
  goes : Q rest
  whole : bs ≡ text what ++ rest

abbrev Letters : List ℕ → Type 0
Letters h = letters h ≡ true

-- at most 15 digits with those before
abbrev Room : ℕ → List ℕ → Type 0
Room k ds = (all_ascii_digits ds ≡ true) × (length ds ≤ 15 - k)

abbrev plain : List ℕ → List ℕ
plain bs = bs

-- the text behind an outer form's closing bracket
abbrev Closed : List ℕ → Type 0
Closed bs = (rest : List ℕ) × WellFormed rest × (bs ≡ 10 ∷ rest)

-- the text behind a head or an inner form: more inner forms, and the end of the line
abbrev Forms : List ℕ → Type 0
Forms bs = Then (List Inner) (AllByRecursion ProperInner) (flat_map (λ i. 32 ∷ inner_text i)) (λ r. (rest : List ℕ) × Closed rest × (r ≡ 41 ∷ rest)) bs

-- the text behind a head or a number: more numbers, and the inner form's closing bracket
abbrev Numbers : List ℕ → Type 0
Numbers bs = Then (List ℤ) (AllByRecursion InRange) (flat_map (λ n. 32 ∷ signed_decimal n)) (λ r. (rest : List ℕ) × Forms rest × (r ≡ 41 ∷ rest)) bs

abbrev Rest : State → List ℕ → Type 0
Rest Line bs = WellFormed bs
Rest OuterOpen bs = Then (List ℕ) Head plain Forms bs
Rest OuterHead bs = Then (List ℕ) Letters plain Forms bs
Rest OuterSpace bs = Then Inner ProperInner inner_text Forms bs
Rest InnerOpen bs = Then (List ℕ) Head plain Numbers bs
Rest InnerHead bs = Then (List ℕ) Letters plain Numbers bs
Rest InnerSpace bs = Then ℤ InRange signed_decimal Numbers bs
Rest Minus bs = Then ℕ (λ n. suc n < 10 ^ 15) (λ n. decimal (suc n)) Numbers bs
Rest Zero bs = Numbers bs
Rest (Digits k) bs = Then (List ℕ) (Room k) plain Numbers bs
Rest InnerClosed bs = Forms bs
Rest OuterClosed bs = Closed bs

-- what a step from P, at a byte before bs, carries back: the rest behind it becomes P's
abbrev Carries : (List ℕ → Type 0) → ℕ → List ℕ → Option State → Type 0
Carries P b bs None = Unit {0}
Carries P b bs (Some t) = Rest t bs → P (b ∷ bs)

by_when : (P : List ℕ → Type 0) (b : ℕ) (bs : List ℕ) (t : Bool) (s : State) (other : Option State) → (t ≡ true → Rest s bs → P (b ∷ bs)) → Carries P b bs other → Carries P b bs (when t s other)
by_when P b bs true s other yes' more = yes' refl
by_when P b bs false s other yes' more = more

-- the same at one byte
by_byte : (P : List ℕ → Type 0) (b c : ℕ) (bs : List ℕ) (s : State) (other : Option State) → (Rest s bs → P (c ∷ bs)) → Carries P b bs other → Carries P b bs (when (eqb b c) s other)
by_byte P b c bs s other f more = by_when P b bs (eqb b c) s other (λ e r. rw (eqb-true b c e) (f r)) more

-- one more letter in front
module _ (Q : List ℕ → Type 0) (b : ℕ) (bs : List ℕ) (e : is_ascii_lowercase b ≡ true) (r : Then (List ℕ) Letters plain Q bs) where
  longer : Then (List ℕ) Letters plain Q (b ∷ bs)
  longer = record { what = b ∷ r.what; rest = r.rest; proper = and_from _ _ e r.proper; goes = r.goes; whole = ap (λ l. b ∷ l) r.whole }

  headed : Then (List ℕ) Head plain Q (b ∷ bs)
  headed = record { what = b ∷ r.what; rest = r.rest; proper = (omega arith, and_from _ _ e r.proper); goes = r.goes; whole = ap (λ l. b ∷ l) r.whole }

-- no letter
no_letters : (Q : List ℕ → Type 0) (bs : List ℕ) → Q bs → Then (List ℕ) Letters plain Q bs
no_letters Q bs q = record { what = []; rest = bs; proper = refl; goes = q; whole = refl }

-- one more item behind a space, or none before the closing bracket
module _ (X : Type 0) (P : X → Type 0) (text : X → List ℕ) (Q : List ℕ → Type 0) (bs : List ℕ) where
  spaced : Then X P text (Then (List X) (AllByRecursion P) (flat_map (λ x. 32 ∷ text x)) Q) bs → Then (List X) (AllByRecursion P) (flat_map (λ x. 32 ∷ text x)) Q (32 ∷ bs)
  spaced r =
      let f = r.goes in
      record {
        what = r.what ∷ f.what;
        rest = f.rest;
        proper = (r.proper, f.proper);
        goes = f.goes;
        whole = ap (λ l. 32 ∷ l) (r.whole ∙ ap (λ l. text r.what ++ l) f.whole) ∙ sym (append_assoc (32 ∷ text r.what) (flat_map (λ x. 32 ∷ text x) f.what) f.rest);
      }

  no_more : Q bs → Then (List X) (AllByRecursion P) (flat_map (λ x. 32 ∷ text x)) Q bs
  no_more q = record { what = []; rest = bs; proper = tt; goes = q; whole = refl }

more_forms_lem : (b : ℕ) (bs : List ℕ) → Carries Forms b bs (more_forms b)
more_forms_lem b bs = by_byte Forms b 32 bs OuterSpace _ (spaced Inner ProperInner inner_text _ bs) (by_byte Forms b 41 bs OuterClosed None (λ r. no_more Inner ProperInner inner_text _ (41 ∷ bs) (bs, r, refl)) tt)

more_numbers_lem : (b : ℕ) (bs : List ℕ) → Carries Numbers b bs (more_numbers b)
more_numbers_lem b bs = by_byte Numbers b 32 bs InnerSpace _ (spaced ℤ InRange signed_decimal _ bs) (by_byte Numbers b 41 bs InnerClosed None (λ r. no_more ℤ InRange signed_decimal _ (41 ∷ bs) (bs, r, refl)) tt)

-- Carries goes along with a weaker P
weaker : (P P' : List ℕ → Type 0) (b : ℕ) (bs : List ℕ) (o : Option State) → ((xs : List ℕ) → P xs → P' xs) → Carries P b bs o → Carries P' b bs o
weaker P P' b bs None f c = tt
weaker P P' b bs (Some t) f c = λ r. f (b ∷ bs) (c r)

-- a head, items and a bracket, put together
pub together : (h items close rest : List ℕ) → h ++ (items ++ (close ++ rest)) ≡ (h ++ (items ++ close)) ++ rest
together h items close rest = simp append_assoc

outer_opens : (bs : List ℕ) → Rest OuterOpen bs → WellFormed (40 ∷ bs)
outer_opens bs r =
    let f = r.goes in
    let c = f.goes in
    let l = c.1 in
    let t = l.1 in
    let items = flat_map (λ i. 32 ∷ inner_text i) f.what in (
      record { head = r.what; inners = f.what } ∷ t.0,
      ((r.proper, f.proper), t.1),
      ap (λ l. 40 ∷ l) (r.whole ∙ ap (λ x. r.what ++ x) (f.whole ∙ ap (λ x. items ++ x) (c.2 ∙ ap (λ x. 41 ∷ x) (l.2 ∙ ap (λ x. 10 ∷ x) t.2))) ∙ together r.what items (41 ∷ 10 ∷ []) (text_of t.0)),
    )

inner_opens : (bs : List ℕ) → Rest InnerOpen bs → Rest OuterSpace (40 ∷ bs)
inner_opens bs r =
    let f = r.goes in
    let c = f.goes in
    let items = flat_map (λ n. 32 ∷ signed_decimal n) f.what in
    record {
      what = record { head = r.what; numbers = f.what };
      rest = c.0;
      proper = (r.proper, f.proper);
      goes = c.1;
      whole = ap (λ l. 40 ∷ l) (r.whole ∙ ap (λ x. r.what ++ x) (f.whole ∙ ap (λ x. items ++ x) c.2) ∙ together r.what items (41 ∷ []) c.0);
    }

-- digits behind a first one that is no 0
module _ (b : ℕ) (bs : List ℕ) (first : is_in_range 49 57 b ≡ true) (r : Rest (Digits 1) bs) where
  numeral : Numeral (b ∷ r.what)
  numeral =
      record {
        some = omega arith;
        most = omega (arith, r.proper.1);
        digits = and_from _ _ (digit_from b first) r.proper.0;
        leading = λ e. absurd (not_zero b first e);
      }

  size : ℕ
  size = value_after 0 (b ∷ r.what)

  printed : b ∷ bs ≡ decimal size ++ r.rest
  unfolding size
  printed = ap (λ l. b ∷ l) r.whole ∙ ap (λ l. l ++ r.rest) (sym (numeral_printed (b ∷ r.what) numeral))

  digits_number : Rest InnerSpace (b ∷ bs)
  digits_number = record { what = pos size; rest = r.rest; proper = in_range size (unfold size in numeral_small (b ∷ r.what) numeral); goes = r.goes; whole = printed }

  digits_negative : Rest Minus (b ∷ bs)
  digits_negative =
      let some : 0 < size = unfold size in not_none b first r.what in
      let small : size < 10 ^ 15 = unfold size in numeral_small (b ∷ r.what) numeral in
      let one : size ≡ suc (size - 1) = omega arith in
      record { what = size - 1; rest = r.rest; proper = omega arith; goes = r.goes; whole = printed ∙ ap (λ n. decimal n ++ r.rest) one }

minus_number : (bs : List ℕ) → Rest Minus bs → Rest InnerSpace (45 ∷ bs)
minus_number bs r = record { what = negsuc r.what; rest = r.rest; proper = in_range_below r.what r.proper; goes = r.goes; whole = ap (λ l. 45 ∷ l) r.whole }

zero_number : (bs : List ℕ) → Rest Zero bs → Rest InnerSpace (48 ∷ bs)
zero_number bs r = record { what = pos 0; rest = bs; proper = in_range 0 (omega arith); goes = r; whole = ap (λ l. l ++ bs) (sym (decimal_digit 0 (omega arith))) }

next_digit : (k b : ℕ) (bs : List ℕ) → (is_ascii_digit b && ltb k 15) ≡ true → Rest (Digits (k + 1)) bs → Rest (Digits k) (b ∷ bs)
next_digit k b bs e r =
    let p = and_parts (is_ascii_digit b) (ltb k 15) e in
    let room = ltb-true k 15 p.1 in
    record { what = b ∷ r.what; rest = r.rest; proper = (and_from _ _ p.0 r.proper.0, omega (arith, r.proper.1)); goes = r.goes; whole = ap (λ l. b ∷ l) r.whole }

no_digits : (k : ℕ) (xs : List ℕ) → Numbers xs → Rest (Digits k) xs
no_digits k xs r = record { what = []; rest = xs; proper = (refl, omega arith); goes = r; whole = refl }

carried : (s : State) (b : ℕ) (bs : List ℕ) → Carries (Rest s) b bs (step s b)
carried Line b bs = by_byte (Rest Line) b 40 bs OuterOpen None (outer_opens bs) tt
carried OuterOpen b bs = by_when (Rest OuterOpen) b bs (is_ascii_lowercase b) OuterHead None (headed Forms b bs) tt
carried OuterHead b bs = by_when (Rest OuterHead) b bs (is_ascii_lowercase b) OuterHead (more_forms b) (longer Forms b bs) (weaker Forms (Rest OuterHead) b bs (more_forms b) (no_letters Forms) (more_forms_lem b bs))
carried OuterSpace b bs = by_byte (Rest OuterSpace) b 40 bs InnerOpen None (inner_opens bs) tt
carried InnerOpen b bs = by_when (Rest InnerOpen) b bs (is_ascii_lowercase b) InnerHead None (headed Numbers b bs) tt
carried InnerHead b bs = by_when (Rest InnerHead) b bs (is_ascii_lowercase b) InnerHead (more_numbers b) (longer Numbers b bs) (weaker Numbers (Rest InnerHead) b bs (more_numbers b) (no_letters Numbers) (more_numbers_lem b bs))
carried InnerSpace b bs =
    by_byte (Rest InnerSpace) b 45 bs Minus _ (minus_number bs)
    (by_byte (Rest InnerSpace) b 48 bs Zero _ (zero_number bs) (by_when (Rest InnerSpace) b bs (is_in_range 49 57 b) (Digits 1) None (digits_number b bs) tt))
carried Minus b bs = by_when (Rest Minus) b bs (is_in_range 49 57 b) (Digits 1) None (digits_negative b bs) tt
carried Zero b bs = more_numbers_lem b bs
carried (Digits k) b bs = by_when (Rest (Digits k)) b bs (is_ascii_digit b && ltb k 15) (Digits (k + 1)) (more_numbers b) (next_digit k b bs) (weaker Numbers (Rest (Digits k)) b bs (more_numbers b) (no_digits k) (more_numbers_lem b bs))
carried InnerClosed b bs = more_forms_lem b bs
carried OuterClosed b bs = by_byte (Rest OuterClosed) b 10 bs Line None (λ r. (bs, r, refl)) tt

-- the walk that comes to the end of a line
after_rest : (s : State) (bs : List ℕ) → after s bs ≡ Some Line → Rest s bs
after_rest s [] e = let same : s ≡ Line = cc in subst (λ u. Rest u []) (sym same) ([], tt, refl)
after_rest s (b ∷ bs) e =
    let f = after_first s Line b bs e in
    let back = subst (Carries (Rest s) b bs) f.1 (carried s b bs) in
    back (after_rest f.0 bs f.2)

pub after_well_formed : (bs : List ℕ) → after Line bs ≡ Some Line → WellFormed bs
after_well_formed bs e = after_rest Line bs e
