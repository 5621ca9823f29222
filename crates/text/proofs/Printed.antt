-- The walk over the writing of forms comes to the end of a line.
use Rattle.std.proofs.Common.{◌≡◌, ℕ, suc, ◌+◌, ◌≤◌, true, ltb, leb, List, [], ◌∷◌, ◌++◌, length, ℤ, pos, negsuc, Some, refl, ap, ◌∙◌, ⊎_elim, append_assoc, add-zero, arith}
use Rattle.std.specs.List.{flat_map, AllByRecursion}
use Rattle.std.specs.Char.{is_ascii_digit, is_ascii_lowercase}
use Rattle.std.specs.Int.{is_in_range}
use Rattle.std.specs.Str.{all_ascii_digits}
use Rattle.std.specs.Fmt.{signed_decimal}
use Rattle.std.proofs.lemmas.Bool.{and_parts, and_from, lt-ltb, cases_eq, leb-true, ne_eqb}
use Rattle.text.specs.declared.shape.State.{State}
use Rattle.text.specs.declared.shape.State.TheVariants.{Line, OuterOpen, OuterHead, OuterSpace, InnerOpen, InnerHead, InnerSpace, Minus, Zero, Digits, InnerClosed, OuterClosed}
use Rattle.text.specs.Shape.{step}
use Rattle.text.specs.Writing.{value_after, Numeral, Writes, InRange}
use Rattle.text.specs.Grammar.{Inner, Outer, letters, Head, ProperInner, Proper, inner_text, outer_text, text_of}
use Rattle.text.proofs.After.{after, after_step, after_more}
use Rattle.text.proofs.Reading.{first_digit, some_first}
use Rattle.text.proofs.Decimal.{one_writing}

-- a head: the state in which one begins, and the state within it
record Letters (start in_head : State) : Type 0 where
  first : (b : ℕ) → is_ascii_lowercase b ≡ true → step start b ≡ Some in_head
  more : (b : ℕ) → is_ascii_lowercase b ≡ true → step in_head b ≡ Some in_head

outer_letters : Letters OuterOpen OuterHead
outer_letters = record { first = λ b e. rw e; more = λ b e. rw e }

inner_letters : Letters InnerOpen InnerHead
inner_letters = record { first = λ b e. rw e; more = λ b e. rw e }

module _ (start in_head : State) (l : Letters start in_head) where
  after_letters : (h : List ℕ) → letters h ≡ true → after in_head h ≡ Some in_head
  after_letters [] e = refl
  after_letters (b ∷ h) e = let p = and_parts (is_ascii_lowercase b) (letters h) e in after_step in_head in_head b h (l.more b p.0) ∙ after_letters h p.1

  after_head : (h ys : List ℕ) → Head h → after start (h ++ ys) ≡ after in_head ys
  after_head [] ys h = absurd (omega arith)
  after_head (b ∷ bs) ys h =
      let p = and_parts (is_ascii_lowercase b) (letters bs) h.1 in
      after_step start in_head b (bs ++ ys) (l.first b p.0) ∙ after_more in_head in_head bs ys (after_letters bs p.1)

-- a state behind a head or a number
abbrev MoreNumbers : State → Type 0
MoreNumbers s = (step s 32 ≡ Some InnerSpace) × (step s 41 ≡ Some InnerClosed)

-- a state behind a head or an inner form
abbrev MoreForms : State → Type 0
MoreForms s = (step s 32 ≡ Some OuterSpace) × (step s 41 ≡ Some OuterClosed)

after_digits : (k : ℕ) (ds : List ℕ) → all_ascii_digits ds ≡ true → k + length ds ≤ 15 → after (Digits k) ds ≡ Some (Digits (k + length ds))
after_digits k [] d m = rw add-zero
after_digits k (b ∷ ds) d m =
    let p = and_parts (is_ascii_digit b) (all_ascii_digits ds) d in
    let test = and_from (is_ascii_digit b) (ltb k 15) p.0 (lt-ltb k 15 (omega arith)) in
    let goes : step (Digits k) b ≡ Some (Digits (k + 1)) = rw test in
    let same : k + 1 + length ds ≡ k + length (b ∷ ds) = omega arith in
    after_step (Digits k) (Digits (k + 1)) b ds goes ∙ after_digits (k + 1) ds p.1 (omega arith) ∙ ap (λ n. Some (Digits n)) same

-- the walk over a number comes to a state from which more numbers may follow
pub record Number (s : State) (xs : List ℕ) : Type 0 where
  pub state : State
  pub comes : after s xs ≡ Some state
  pub more : MoreNumbers state

from_digits : (s : State) (d : ℕ) (ds : List ℕ) → Numeral (d ∷ ds) → step s d ≡ Some (Digits 1) → Number s (d ∷ ds)
from_digits s d ds h e =
    let p = and_parts (is_ascii_digit d) (all_ascii_digits ds) h.digits in
    record {
      state = Digits (1 + length ds);
      comes = after_step s (Digits 1) d ds e ∙ after_digits 1 ds p.1 (omega (arith, h.most));
      more = (refl, refl);
    }

behind_minus : (d : ℕ) → is_in_range 49 57 d ≡ true → step Minus d ≡ Some (Digits 1)
behind_minus d e = rw e

behind_space : (d : ℕ) → is_in_range 49 57 d ≡ true → step InnerSpace d ≡ Some (Digits 1)
behind_space d e =
    let p = and_parts (leb 49 d) (leb d 57) e in
    let low = leb-true 49 d p.0 in
    rw (ne_eqb d 45 (omega arith), ne_eqb d 48 (omega arith), e)

first_of : (d : ℕ) (ds : List ℕ) → Numeral (d ∷ ds) → (d ≡ 48 → ⊥) → is_in_range 49 57 d ≡ true
first_of d ds h ne = first_digit d (and_parts (is_ascii_digit d) (all_ascii_digits ds) h.digits).0 ne

zero_number : (d : ℕ) (ds : List ℕ) → Numeral (d ∷ ds) → d ≡ 48 → Number InnerSpace (d ∷ ds)
zero_number d [] h e = rw e (record { state = Zero; comes = refl; more = (refl, refl) })
zero_number d (c ∷ cs) h e = absurd (omega (arith, h.leading e))

natural_number : (ds : List ℕ) → Numeral ds → Number InnerSpace ds
natural_number [] h = absurd (omega (arith, h.some))
natural_number (d ∷ ds) h = ⊎_elim (λ (e : d ≡ 48). zero_number d ds h e) (λ (ne : d ≡ 48 → ⊥). from_digits InnerSpace d ds h (behind_space d (first_of d ds h ne))) (cases_eq d 48)

negative_number : (ds : List ℕ) (n : ℕ) → Numeral ds → value_after 0 ds ≡ suc n → Number Minus ds
negative_number [] n h v = absurd (omega (arith, h.some))
negative_number (d ∷ ds) n h v = from_digits Minus d ds h (behind_minus d (first_of d ds h (some_first d ds n h v)))

written_number : (n : ℤ) (bs : List ℕ) → Writes n bs → Number InnerSpace bs
written_number (pos n) bs w = natural_number bs w.0
written_number (negsuc n) bs w =
    let r = negative_number w.0 n w.2 w.3 in
    let front = w.1 in
    rw front (record { state = r.state; comes = r.comes; more = r.more })

-- numbers, each behind a space, and the bracket of an inner form
after_numbers : (s : State) (ns : List ℤ) → MoreNumbers s → AllByRecursion InRange ns → after s (flat_map (λ n. 32 ∷ signed_decimal n) ns ++ (41 ∷ [])) ≡ Some InnerClosed
after_numbers s [] m a = after_step s InnerClosed 41 [] m.1
after_numbers s (n ∷ ns) m a =
    let r = written_number n (signed_decimal n) ((one_writing n).0 a.0) in
    let rest = flat_map (λ n. 32 ∷ signed_decimal n) ns in
    ap (after s) (append_assoc (32 ∷ signed_decimal n) rest (41 ∷ [])) ∙ after_step s InnerSpace 32 (signed_decimal n ++ (rest ++ (41 ∷ []))) m.0 ∙ after_more InnerSpace r.state (signed_decimal n) (rest ++ (41 ∷ [])) r.comes ∙ after_numbers r.state ns r.more a.1

after_inner : (f : Inner) → ProperInner f → after OuterSpace (inner_text f) ≡ Some InnerClosed
after_inner f p = after_head InnerOpen InnerHead inner_letters f.head _ p.0 ∙ after_numbers InnerHead f.numbers (refl, refl) p.1

-- inner forms, each behind a space, and the end of the line
after_forms : (s : State) (is : List Inner) → MoreForms s → AllByRecursion ProperInner is → after s (flat_map (λ i. 32 ∷ inner_text i) is ++ (41 ∷ 10 ∷ [])) ≡ Some Line
after_forms s [] m a = after_step s OuterClosed 41 (10 ∷ []) m.1
after_forms s (i ∷ is) m a =
    let rest = flat_map (λ i. 32 ∷ inner_text i) is in
    ap (after s) (append_assoc (32 ∷ inner_text i) rest (41 ∷ 10 ∷ [])) ∙ after_step s OuterSpace 32 (inner_text i ++ (rest ++ (41 ∷ 10 ∷ []))) m.0 ∙ after_more OuterSpace InnerClosed (inner_text i) (rest ++ (41 ∷ 10 ∷ [])) (after_inner i a.0) ∙ after_forms InnerClosed is (refl, refl) a.1

after_outer : (f : Outer) → Proper f → after Line (outer_text f) ≡ Some Line
after_outer f p = after_head OuterOpen OuterHead outer_letters f.head _ p.0 ∙ after_forms OuterHead f.inners (refl, refl) p.1

pub after_text : (fs : List Outer) → AllByRecursion Proper fs → after Line (text_of fs) ≡ Some Line
after_text [] a = refl
after_text (f ∷ fs) a = after_more Line Line (outer_text f) (text_of fs) (after_outer f a.0) ∙ after_text fs a.1
