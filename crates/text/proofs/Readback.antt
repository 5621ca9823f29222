-- What the number reader accepts is a writing.
use Rattle.std.proofs.Common.{◌≡◌, ℕ, suc, ◌+◌, ◌-◌, ◌*◌, ◌<◌, ◌≤◌, true, false, leb, List, [], ◌∷◌, ◌++◌, length, ℤ, pos, negsuc, neg_ℤ, IfOk, Ok, Err, Result, sym, refl, ap, ◌∙◌, subst, ⊎_elim, append-nil, arith}
use Rattle.std.specs.Char.{is_ascii_digit}
use Rattle.std.specs.Int.{is_in_range}
use Rattle.std.specs.Str.{all_ascii_digits}
use Rattle.std.proofs.lemmas.Bool.{lt-ltb, le-ltb, ne_eqb, cases_eq, cases_lt, cases_Bool, and_parts, and_from, leb-true, le-leb}
use Rattle.std.proofs.lemmas.List.{length-append, nil_from_length}
use Rattle.terms.specs.declared.refusal.Refusal.TheVariants.{Malformed}
use Rattle.text.specs.Numbers.{Answer, digits_on, zero_at, natural_at, negative_at, number_at}
use Rattle.text.specs.Writing.{value_after, Numeral, Writes, NoDigit, Begins, ReadsFronts, ReadsWritings}
use Rattle.text.proofs.Fronts.{number_plain}
use Rattle.text.proofs.Reading.{reads_natural, reads_negative}

pub ok_parts : {X Y E : Type 0} (x x' : X) (y y' : Y) → ◌≡◌ {A = Result (X × Y) E} (Ok (x, y)) (Ok (x', y')) → (x ≡ x') × (y ≡ y')
ok_parts {X} {Y} x x' y y' h = let p : ◌≡◌ {A = X × Y} (x, y) (x', y') = cc in (ap (λ r. r.0) p, ap (λ r. r.1) p)

pub err_ok : {X E : Type 0} (x : X) (e : E) → ◌≡◌ {A = Result X E} (Err e) (Ok x) → ⊥
err_ok x e h = let z : ◌≡◌ {A = ℕ} 0 1 = cc in omega arith

-- the digits that a run over a text takes
record Run (count value : ℕ) (bs : List ℕ) (v k : ℕ) : Type 0 where
  ds : List ℕ
  rest : List ℕ
  whole : bs ≡ ds ++ rest
  digits : all_ascii_digits ds ≡ true
  ends : NoDigit rest
  is : v ≡ value_after value ds
  long : k ≡ count + length ds
  most : k ≤ 15

digits_run : (count value : ℕ) (bs : List ℕ) (v k : ℕ) → count ≤ 15 → digits_on count value bs ≡ Ok (v, k) → Run count value bs v k
digits_run count value [] v k m h =
    let p = ok_parts _ _ _ _ h in
    record { ds = []; rest = []; whole = refl; digits = refl; ends = tt; is = sym p.0; long = omega arith; most = omega arith }
digits_run count value (b ∷ bs) v k m h =
    ⊎_elim
    (λ (yes' : is_ascii_digit b ≡ true).
    ⊎_elim
    (λ (room : count < 15).
    let next : digits_on (count + 1) (10 * value + (b - 48)) bs ≡ Ok (v, k) = rw (lt-ltb count 15 room) at (rw (yes', digits_on) at h) in
    let r = digits_run (count + 1) (10 * value + (b - 48)) bs v k (omega arith) next in
    record { ds = b ∷ r.ds; rest = r.rest; whole = ap (λ l. b ∷ l) r.whole; digits = and_from _ _ yes' r.digits; ends = r.ends; is = r.is; long = omega (arith, r.long); most = r.most })
    (λ (full : 15 ≤ count). absurd (err_ok (v, k) count (rw (le-ltb count 15 full) at (rw (yes', digits_on) at h))))
    (cases_lt count 15))
    (λ (none : is_ascii_digit b ≡ false).
    let p = ok_parts _ _ _ _ (rw (none, digits_on) at h) in
    record { ds = []; rest = b ∷ bs; whole = refl; digits = refl; ends = none; is = sym p.0; long = omega (arith, p.1); most = omega (arith, p.1) })
    (cases_Bool (is_ascii_digit b))

pub digit_from : (d : ℕ) → is_in_range 49 57 d ≡ true → is_ascii_digit d ≡ true
digit_from d h = let p = and_parts (leb 49 d) (leb d 57) h in let low = leb-true 49 d p.0 in and_from _ _ (le-leb 48 d (omega arith)) p.1

pub not_zero : (d : ℕ) → is_in_range 49 57 d ≡ true → d ≡ 48 → ⊥
not_zero d h e = let p = and_parts (leb 49 d) (leb d 57) h in omega (arith, leb-true 49 d p.0)

-- the numeral that such a run ends, behind its first digit
module _ (d : ℕ) (bs : List ℕ) (v k : ℕ) (first : is_in_range 49 57 d ≡ true) (r : Run 1 (d - 48) bs v k) where
  numeral : Numeral (d ∷ r.ds)
  numeral =
      record {
        some = omega arith;
        most = omega (arith, r.long, r.most);
        digits = and_from _ _ (digit_from d first) r.digits;
        leading = λ e. absurd (not_zero d first e);
      }

  writes : value_after 0 (d ∷ r.ds) ≡ v
  writes = let same : 0 + (d - 48) ≡ d - 48 = omega arith in ap (λ n. value_after n r.ds) same ∙ sym r.is

  natural_begins : Begins (pos v) k (d ∷ bs)
  natural_begins =
      record {
        front = d ∷ r.ds;
        rest = r.rest;
        whole = ap (λ l. d ∷ l) r.whole;
        writes = (numeral, writes);
        ends = r.ends;
        long = omega (arith, r.long);
      }

  negative_begins : (n : ℕ) → v ≡ suc n → Begins (negsuc n) (k + 1) (45 ∷ d ∷ bs)
  negative_begins n e =
      record {
        front = 45 ∷ d ∷ r.ds;
        rest = r.rest;
        whole = ap (λ l. 45 ∷ d ∷ l) r.whole;
        writes = (d ∷ r.ds, refl, numeral, writes ∙ e);
        ends = r.ends;
        long = omega (arith, r.long);
      }

pub zero_writes : Writes (pos 0) (48 ∷ [])
zero_writes = (record { some = omega arith; most = omega arith; digits = refl; leading = λ _. refl }, refl)

zero_front : (rest : List ℕ) → NoDigit rest → Begins (pos 0) 1 (48 ∷ rest)
zero_front rest e = record { front = 48 ∷ []; rest = rest; whole = refl; writes = zero_writes; ends = e; long = refl }

zero_begins : (bs : List ℕ) (n : ℤ) (k : ℕ) → zero_at bs ≡ Ok (n, k) → Begins n k (48 ∷ bs)
zero_begins [] n k h = let p = ok_parts _ _ _ _ h in rw (← p.0, ← p.1) (zero_front [] tt)
zero_begins (b ∷ bs) n k h =
    ⊎_elim
    (λ (some : is_ascii_digit b ≡ true). absurd (err_ok (n, k) (Malformed 1) (rw (some, zero_at) at h)))
    (λ (none : is_ascii_digit b ≡ false). let p = ok_parts _ _ _ _ (rw (none, zero_at) at h) in rw (← p.0, ← p.1) (zero_front (b ∷ bs) none))
    (cases_Bool (is_ascii_digit b))

natural_told : (b : ℕ) (bs : List ℕ) (n : ℤ) (k : ℕ) → is_in_range 49 57 b ≡ true → (r : Result (ℕ × ℕ) ℕ) → digits_on 1 (b - 48) bs ≡ r → natural_at b bs ≡ Ok (n, k) → Begins n k (b ∷ bs)
natural_told b bs n k first (Ok (v, m)) e h =
    let told : ◌≡◌ {A = Answer} (Ok (pos v, m)) (Ok (n, k)) = rw e at (rw (first, natural_at) at h) in
    let p = ok_parts _ _ _ _ told in
    rw (← p.0, ← p.1) (natural_begins b bs v m first (digits_run 1 (b - 48) bs v m (omega arith) e))
natural_told b bs n k first (Err past) e h = absurd (err_ok (n, k) (Malformed past) (rw e at (rw (first, natural_at) at h)))

natural_reads : (b : ℕ) (bs : List ℕ) (n : ℤ) (k : ℕ) → natural_at b bs ≡ Ok (n, k) → Begins n k (b ∷ bs)
natural_reads b bs n k h =
    ⊎_elim
    (λ (first : is_in_range 49 57 b ≡ true). natural_told b bs n k first (digits_on 1 (b - 48) bs) refl h)
    (λ (other : is_in_range 49 57 b ≡ false).
    ⊎_elim
    (λ (is : b ≡ 48). rw is (zero_begins bs n k (rw is at h)))
    (λ (ne : b ≡ 48 → ⊥). absurd (err_ok (n, k) (Malformed 0) (rw (ne_eqb b 48 ne) at (rw (other, natural_at) at h))))
    (cases_eq b 48))
    (cases_Bool (is_in_range 49 57 b))

value_ge : (n : ℕ) (ds : List ℕ) → n ≤ value_after n ds
value_ge n [] = omega arith
value_ge n (d ∷ ds) = omega (arith, value_ge (10 * n + (d - 48)) ds)

-- digits behind a first one that is no 0 do not write 0
pub not_none : (d : ℕ) → is_in_range 49 57 d ≡ true → (ds : List ℕ) → 0 < value_after 0 (d ∷ ds)
not_none d first ds =
    let q = and_parts (leb 49 d) (leb d 57) first in
    omega (arith, value_ge (0 + (d - 48)) ds, leb-true 49 d q.0)

negative_told : (b : ℕ) (bs : List ℕ) (n : ℤ) (k : ℕ) → is_in_range 49 57 b ≡ true → (r : Result (ℕ × ℕ) ℕ) → digits_on 1 (b - 48) bs ≡ r → negative_at b bs ≡ Ok (n, k) → Begins n k (45 ∷ b ∷ bs)
negative_told b bs n k first (Ok (v, m)) e h =
    let told : ◌≡◌ {A = Answer} (Ok (neg_ℤ (pos v), m + 1)) (Ok (n, k)) = rw e at (rw (first, negative_at) at h) in
    let p = ok_parts _ _ _ _ told in
    let r = digits_run 1 (b - 48) bs v m (omega arith) e in
    let q = and_parts (leb 49 b) (leb b 57) first in
    let some : 0 < v = omega (arith, value_ge (b - 48) r.ds, r.is, leb-true 49 b q.0) in
    let one : v ≡ suc (v - 1) = omega arith in
    let sign : negsuc (v - 1) ≡ n = ap (λ u. neg_ℤ (pos u)) (sym one) ∙ p.0 in
    rw (← sign, ← p.1) (negative_begins b bs v m first r (v - 1) one)
negative_told b bs n k first (Err past) e h = absurd (err_ok (n, k) (Malformed (past + 1)) (rw e at (rw (first, negative_at) at h)))

negative_reads : (b : ℕ) (bs : List ℕ) (n : ℤ) (k : ℕ) → negative_at b bs ≡ Ok (n, k) → Begins n k (45 ∷ b ∷ bs)
negative_reads b bs n k h =
    ⊎_elim
    (λ (first : is_in_range 49 57 b ≡ true). negative_told b bs n k first (digits_on 1 (b - 48) bs) refl h)
    (λ (other : is_in_range 49 57 b ≡ false). absurd (err_ok (n, k) (Malformed 1) (rw (other, negative_at) at h)))
    (cases_Bool (is_in_range 49 57 b))

minus_reads : (bs : List ℕ) (n : ℤ) (k : ℕ) → number_at (45 ∷ bs) ≡ Ok (n, k) → Begins n k (45 ∷ bs)
unfolding number_at
minus_reads [] n k h = absurd (err_ok (n, k) (Malformed 1) h)
minus_reads (c ∷ cs) n k h = negative_reads c cs n k h

number_begins : (bs : List ℕ) (n : ℤ) (k : ℕ) → number_at bs ≡ Ok (n, k) → Begins n k bs
unfolding number_at
number_begins [] n k h = absurd (err_ok (n, k) (Malformed 0) h)
number_begins (b ∷ bs) n k h =
    ⊎_elim (λ (is : b ≡ 45). rw is (minus_reads bs n k (subst (λ x. number_at (x ∷ bs) ≡ Ok (n, k)) is h))) (λ (ne : b ≡ 45 → ⊥). natural_reads b bs n k (sym (number_plain b bs ne) ∙ h)) (cases_eq b 45)

begins_number : (n : ℤ) (k : ℕ) (text : List ℕ) → Begins n k text → number_at text ≡ Ok (n, k)
begins_number (pos n) k text b = rw (b.whole, b.long) (reads_natural b.front b.rest b.writes.0 b.ends ∙ ap (λ m. Ok (pos m, length b.front)) b.writes.1)
begins_number (negsuc n) k text b =
    let w = b.writes in
    let long : length w.0 + 1 ≡ k = omega (arith, ap length w.1, b.long) in
    rw (b.whole, w.1) (reads_negative w.0 b.rest n w.2 w.3 b.ends ∙ ap (λ m. Ok (negsuc n, m)) long)

pub reads_fronts : ReadsFronts
reads_fronts n k text = (begins_number n k text, number_begins text n k)

whole_writes : (n : ℤ) (bs : List ℕ) → Begins n (length bs) bs → Writes n bs
whole_writes n bs b =
    let none : length b.rest ≡ 0 = omega (arith, simp length-append at (ap length b.whole), b.long) in
    let all : bs ≡ b.front = b.whole ∙ ap (λ l. b.front ++ l) (nil_from_length b.rest none) ∙ append-nil b.front in
    subst (Writes n) (sym all) b.writes

pub reads_writings : ReadsWritings
reads_writings n bs = (
  λ w. begins_number n (length bs) bs (record { front = bs; rest = []; whole = sym (append-nil bs); writes = w; ends = tt; long = refl }),
  λ h. whole_writes n bs (number_begins bs n (length bs) h),
)

-- a number takes no more bytes than there are
pub taken_within : (text : List ℕ) (r : Answer) → r ≡ number_at text → IfOk r (λ v. v.1 ≤ length text)
taken_within text (Ok (n, k)) h = let b = number_begins text n k (sym h) in omega (arith, simp length-append at (ap length b.whole), b.long)
taken_within text (Err e) h = tt
