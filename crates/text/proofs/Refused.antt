-- Where the number reader refuses, no writing goes on.
use Rattle.std.proofs.Common.{◌≡◌, ℕ, suc, ◌+◌, ◌-◌, ◌*◌, ◌<◌, ◌≤◌, true, false, leb, List, [], ◌∷◌, ◌++◌, length, take, ℤ, pos, negsuc, Ok, Err, Result, sym, refl, ap, ◌∙◌, subst, ⊎_elim, append-nil, arith}
use Rattle.std.specs.Char.{is_ascii_digit}
use Rattle.std.specs.Int.{is_in_range}
use Rattle.std.specs.Str.{all_ascii_digits}
use Rattle.std.proofs.lemmas.List.{length-append, length-take, take_at}
use Rattle.std.proofs.lemmas.Bool.{lt-ltb, le-ltb, ne_eqb, cases_eq, cases_lt, cases_Bool, and_parts, and_from, leb-true, true≢false}
use Rattle.terms.specs.declared.refusal.Refusal.{Refusal}
use Rattle.terms.specs.declared.refusal.Refusal.TheVariants.{Malformed}
use Rattle.text.specs.Numbers.{Answer, digits_on, zero_at, natural_at, negative_at, number_at}
use Rattle.text.specs.Writing.{value_after, Numeral, Writes, NoNumber, RefusesWhere}
use Rattle.text.proofs.Fronts.{number_plain}
use Rattle.text.proofs.Reading.{first_digit, some_first, no_minus}
use Rattle.text.proofs.Readback.{digit_from, not_zero, not_none, err_ok, zero_writes}

-- which bytes begin a writing
w_digit : (n : ℤ) (b : ℕ) (bs : List ℕ) → Writes n (b ∷ bs) → (b ≡ 45 → ⊥) → Numeral (b ∷ bs)
w_digit (pos n) b bs w ne = w.0
w_digit (negsuc n) b bs w ne = absurd (ne (let e = w.1 in cc))

w_minus : (n : ℤ) (bs : List ℕ) → Writes n (45 ∷ bs) → (m : ℕ) × Numeral bs × (value_after 0 bs ≡ suc m)
w_minus (pos n) bs w = absurd (no_minus 45 bs w.0 refl)
w_minus (negsuc n) bs w = let e : w.0 ≡ bs = let f = w.1 in cc in (n, subst Numeral e w.2, ap (value_after 0) (sym e) ∙ w.3)

w_minus_first : (n : ℤ) (c : ℕ) (bs : List ℕ) → Writes n (45 ∷ c ∷ bs) → is_in_range 49 57 c ≡ true
w_minus_first n c bs w =
    let m = w_minus n (c ∷ bs) w in
    first_digit c (and_parts (is_ascii_digit c) (all_ascii_digits bs) m.1.digits).0 (some_first c bs m.0 m.1 m.2)

w_none : (n : ℤ) → Writes n [] → ⊥
w_none (pos n) w = omega (arith, w.0.some)
w_none (negsuc n) w = omega (arith, ap length w.1)

not_minus : (d : ℕ) → is_in_range 49 57 d ≡ true → d ≡ 45 → ⊥
not_minus d h e = let p = and_parts (leb 49 d) (leb d 57) h in omega (arith, leb-true 49 d p.0)

-- a run that meets a digit too many: 15 digits, and one more
record Full (count : ℕ) (bs : List ℕ) : Type 0 where
  ds : List ℕ
  rest : List ℕ
  whole : bs ≡ ds ++ rest
  digits : all_ascii_digits ds ≡ true
  long : count + length ds ≡ 15
  more : 0 < length rest

ok_err : {X E : Type 0} (x : X) (e : E) → ◌≡◌ {A = Result X E} (Ok x) (Err e) → ⊥
ok_err x e h = err_ok x e (sym h)

err_same : {X E : Type 0} (e f : E) → ◌≡◌ {A = Result X E} (Err e) (Err f) → e ≡ f
err_same e f h = cc

digits_full : (count value : ℕ) (bs : List ℕ) (past : ℕ) → count ≤ 15 → digits_on count value bs ≡ Err past → (past ≡ 15) × Full count bs
digits_full count value [] past m h = absurd (ok_err _ _ h)
digits_full count value (b ∷ bs) past m h =
    ⊎_elim
    (λ (yes' : is_ascii_digit b ≡ true).
    ⊎_elim
    (λ (room : count < 15).
    let r = digits_full (count + 1) (10 * value + (b - 48)) bs past (omega arith) (rw (lt-ltb count 15 room) at (rw (yes', digits_on) at h)) in
    let f = r.1 in
    (r.0, record { ds = b ∷ f.ds; rest = f.rest; whole = ap (λ l. b ∷ l) f.whole; digits = and_from _ _ yes' f.digits; long = omega (arith, f.long); more = f.more }))
    (λ (full : 15 ≤ count).
    let e : ◌≡◌ {A = Result (ℕ × ℕ) ℕ} (Err count) (Err past) = rw (le-ltb count 15 full) at (rw (yes', digits_on) at h) in
    let same : count ≡ past = err_same {X = ℕ × ℕ} count past e in
    (omega arith, record { ds = []; rest = b ∷ bs; whole = refl; digits = refl; long = omega arith; more = omega arith }))
    (cases_lt count 15))
    (λ (none : is_ascii_digit b ≡ false). absurd (ok_err _ _ (rw (none, digits_on) at h)))
    (cases_Bool (is_ascii_digit b))

full_numeral : (b : ℕ) (bs : List ℕ) (first : is_in_range 49 57 b ≡ true) (f : Full 1 bs) → Numeral (b ∷ f.ds)
full_numeral b bs first f =
    record {
      some = omega arith;
      most = omega (arith, f.long);
      digits = and_from _ _ (digit_from b first) f.digits;
      leading = λ e. absurd (not_zero b first e);
    }

-- the bytes before the digit too many
full_front : (b : ℕ) (bs : List ℕ) (f : Full 1 bs) → take 15 (b ∷ bs) ≡ b ∷ f.ds
full_front b bs f = ap (λ l. take 15 (b ∷ l)) f.whole ∙ take_at (b ∷ f.ds) f.rest 15 (omega (arith, f.long))

full_length : (bs : List ℕ) (f : Full 1 bs) → 15 ≤ length bs
full_length bs f = omega (arith, simp length-append at (ap length f.whole), f.long, f.more)

-- with it there are 16
too_long : (xs rest : List ℕ) → 16 ≤ length xs → Numeral (take 16 xs ++ rest) → ⊥
too_long xs rest h w = omega (arith, simp (length-append, length-take) at w.most)

natural_full : (b : ℕ) (bs : List ℕ) → is_in_range 49 57 b ≡ true → Full 1 bs → NoNumber (b ∷ bs) 15
natural_full b bs first f =
    let long = full_length bs f in
    let w : Writes (pos (value_after 0 (b ∷ f.ds))) (b ∷ f.ds) = (full_numeral b bs first f, refl) in
    record {
      within = omega arith;
      before = (pos (value_after 0 (b ∷ f.ds)), [], subst (Writes (pos (value_after 0 (b ∷ f.ds)))) (sym (append-nil _ ∙ full_front b bs f)) w);
      byte = λ _ n rest v. too_long (b ∷ bs) rest (omega arith) (w_digit n b (take 15 bs ++ rest) v (not_minus b first));
      end = λ h. absurd (omega arith);
    }

negative_full : (b : ℕ) (bs : List ℕ) → is_in_range 49 57 b ≡ true → Full 1 bs → NoNumber (45 ∷ b ∷ bs) 16
negative_full b bs first f =
    let long = full_length bs f in
    let some = not_none b first f.ds in
    let size = value_after 0 (b ∷ f.ds) in
    let one : size ≡ suc (size - 1) = omega arith in
    let w : Writes (negsuc (size - 1)) (45 ∷ b ∷ f.ds) = (b ∷ f.ds, refl, full_numeral b bs first f, one) in
    record {
      within = omega arith;
      before = (negsuc (size - 1), [], subst (Writes (negsuc (size - 1))) (sym (append-nil _ ∙ ap (λ l. 45 ∷ l) (full_front b bs f))) w);
      byte = λ _ n rest v. too_long (b ∷ bs) rest (omega arith) (w_minus n (take 16 (b ∷ bs) ++ rest) v).1;
      end = λ h. absurd (omega arith);
    }

one_writes : Writes (negsuc 0) (45 ∷ 49 ∷ [])
one_writes = (49 ∷ [], refl, record { some = omega arith; most = omega arith; digits = refl; leading = λ e. absurd (omega arith) }, refl)

empty_stops : NoNumber [] 0
empty_stops = record { within = omega arith; before = (pos 0, 48 ∷ [], zero_writes); byte = λ h. absurd (omega arith); end = λ _. w_none }

minus_stops : NoNumber (45 ∷ []) 1
minus_stops =
    record {
      within = omega arith;
      before = (negsuc 0, 49 ∷ [], one_writes);
      byte = λ h. absurd (omega arith);
      end = λ _ n w. let m = w_minus n [] w in omega (arith, m.1.some);
    }

negative_stops : (b : ℕ) (bs : List ℕ) → is_in_range 49 57 b ≡ false → NoNumber (45 ∷ b ∷ bs) 1
negative_stops b bs other =
    record {
      within = omega arith;
      before = (negsuc 0, 49 ∷ [], one_writes);
      byte = λ _ n rest w. true≢false (sym (w_minus_first n b rest w) ∙ other);
      end = λ h. absurd (omega arith);
    }

zero_stops : (b : ℕ) (bs : List ℕ) → NoNumber (48 ∷ b ∷ bs) 1
zero_stops b bs =
    record {
      within = omega arith;
      before = (pos 0, [], zero_writes);
      byte = λ _ n rest w. omega (arith, (w_digit n 48 (b ∷ rest) w (λ e. omega arith)).leading refl);
      end = λ h. absurd (omega arith);
    }

other_stops : (b : ℕ) (bs : List ℕ) → (b ≡ 45 → ⊥) → (b ≡ 48 → ⊥) → is_in_range 49 57 b ≡ false → NoNumber (b ∷ bs) 0
other_stops b bs nm nz other =
    record {
      within = omega arith;
      before = (pos 0, 48 ∷ [], zero_writes);
      byte = λ _ n rest w. let d = (and_parts (is_ascii_digit b) (all_ascii_digits rest) (w_digit n b rest w nm).digits).0 in true≢false (sym (first_digit b d nz) ∙ other);
      end = λ h. absurd (omega arith);
    }

-- the place that an answer names
abbrev At : List ℕ → Refusal → Type 0
At text e = (place : ℕ) × (e ≡ Malformed place) × NoNumber text place

at : (text : List ℕ) (p q : ℕ) (e : Refusal) → ◌≡◌ {A = Answer} (Err (Malformed p)) (Err e) → p ≡ q → NoNumber text q → At text e
at text p q e h s f = (q, sym (err_same {X = ℤ × ℕ} (Malformed p) e h) ∙ ap Malformed s, f)

natural_told : (b : ℕ) (bs : List ℕ) (e : Refusal) → is_in_range 49 57 b ≡ true → (r : Result (ℕ × ℕ) ℕ) → digits_on 1 (b - 48) bs ≡ r → natural_at b bs ≡ Err e → At (b ∷ bs) e
natural_told b bs e first (Ok r) d h = absurd (ok_err _ _ (rw d at (rw (first, natural_at) at h)))
natural_told b bs e first (Err past) d h =
    let f = digits_full 1 (b - 48) bs past (omega arith) d in
    at (b ∷ bs) past 15 e (rw d at (rw (first, natural_at) at h)) f.0 (natural_full b bs first f.1)

negative_told : (b : ℕ) (bs : List ℕ) (e : Refusal) → is_in_range 49 57 b ≡ true → (r : Result (ℕ × ℕ) ℕ) → digits_on 1 (b - 48) bs ≡ r → negative_at b bs ≡ Err e → At (45 ∷ b ∷ bs) e
negative_told b bs e first (Ok r) d h = absurd (ok_err _ _ (rw d at (rw (first, negative_at) at h)))
negative_told b bs e first (Err past) d h =
    let f = digits_full 1 (b - 48) bs past (omega arith) d in
    let same = f.0 in
    at (45 ∷ b ∷ bs) (past + 1) 16 e (rw d at (rw (first, negative_at) at h)) (omega arith) (negative_full b bs first f.1)

zero_told : (bs : List ℕ) (e : Refusal) → zero_at bs ≡ Err e → At (48 ∷ bs) e
zero_told [] e h = absurd (ok_err _ _ h)
zero_told (b ∷ bs) e h =
    ⊎_elim
    (λ (some : is_ascii_digit b ≡ true). at (48 ∷ b ∷ bs) 1 1 e (rw (some, zero_at) at h) refl (zero_stops b bs))
    (λ (none : is_ascii_digit b ≡ false). absurd (ok_err _ _ (rw (none, zero_at) at h)))
    (cases_Bool (is_ascii_digit b))

natural_refused : (b : ℕ) (bs : List ℕ) (e : Refusal) → (b ≡ 45 → ⊥) → natural_at b bs ≡ Err e → At (b ∷ bs) e
natural_refused b bs e nm h =
    ⊎_elim
    (λ (first : is_in_range 49 57 b ≡ true). natural_told b bs e first (digits_on 1 (b - 48) bs) refl h)
    (λ (other : is_in_range 49 57 b ≡ false).
    ⊎_elim
    (λ (is : b ≡ 48). rw is (zero_told bs e (rw is at h)))
    (λ (nz : b ≡ 48 → ⊥). at (b ∷ bs) 0 0 e (rw (ne_eqb b 48 nz) at (rw (other, natural_at) at h)) refl (other_stops b bs nm nz other))
    (cases_eq b 48))
    (cases_Bool (is_in_range 49 57 b))

minus_refused : (bs : List ℕ) (e : Refusal) → number_at (45 ∷ bs) ≡ Err e → At (45 ∷ bs) e
unfolding number_at
minus_refused [] e h = at (45 ∷ []) 1 1 e h refl minus_stops
minus_refused (b ∷ bs) e h =
    ⊎_elim
    (λ (first : is_in_range 49 57 b ≡ true). negative_told b bs e first (digits_on 1 (b - 48) bs) refl h)
    (λ (other : is_in_range 49 57 b ≡ false). at (45 ∷ b ∷ bs) 1 1 e (rw (other, negative_at) at h) refl (negative_stops b bs other))
    (cases_Bool (is_in_range 49 57 b))

pub refuses_where : RefusesWhere
unfolding number_at
refuses_where [] e h = at [] 0 0 e h refl empty_stops
refuses_where (b ∷ bs) e h =
    ⊎_elim
    (λ (is : b ≡ 45). rw is (minus_refused bs e (subst (λ x. number_at (x ∷ bs) ≡ Err e) is h)))
    (λ (nm : b ≡ 45 → ⊥). natural_refused b bs e nm (sym (number_plain b bs nm) ∙ h))
    (cases_eq b 45)
