-- Forms are read from their writing in one way only.
use Rattle.std.proofs.Common.{◌≡◌, ℕ, true, false, List, [], ◌∷◌, ◌++◌, length, ℤ, Ok, sym, refl, ap, ◌∙◌, append_assoc, arith}
use Rattle.std.specs.List.{flat_map, AllByRecursion}
use Rattle.std.specs.Char.{is_ascii_digit, is_ascii_lowercase}
use Rattle.std.specs.Fmt.{signed_decimal}
use Rattle.std.proofs.lemmas.List.{append_cancel_left}
use Rattle.std.proofs.lemmas.Bool.{and_parts, true≢false}
use Rattle.text.specs.Numbers.{number_at}
use Rattle.text.specs.Writing.{NoDigit, InRange}
use Rattle.text.specs.Grammar.{Inner, Outer, letters, ProperInner, Proper, inner_text, outer_text, text_of, OneReading}
use Rattle.text.proofs.Decimal.{one_writing}
use Rattle.text.proofs.Readback.{ok_parts, reads_fronts}
use Rattle.text.proofs.Parsed.{together}

-- the text goes on with a space or a closing bracket
abbrev Ends : List ℕ → Type 0
Ends [] = ⊥
Ends (b ∷ bs) = (is_ascii_digit b ≡ false) × (is_ascii_lowercase b ≡ false)

-- two writings with what follows them are equal only part by part
abbrev Apart : (X : Type 0) → (X → Type 0) → (X → List ℕ) → Type 0
Apart X P text = (x y : X) (r s : List ℕ) → P x → P y → Ends r → Ends s → text x ++ r ≡ text y ++ s → (x ≡ y) × (r ≡ s)

first_same : (b c : ℕ) (bs cs : List ℕ) → b ∷ bs ≡ c ∷ cs → (b ≡ c) × (bs ≡ cs)
first_same b c bs cs e = (cc, cc)

no_nil : (b : ℕ) (bs : List ℕ) → [] ≡ b ∷ bs → ⊥
no_nil b bs e = omega (arith, ap length e)

never : (b c : ℕ) → is_ascii_lowercase b ≡ true → is_ascii_lowercase c ≡ false → b ≡ c → ⊥
never b c l n e = true≢false (sym l ∙ ap is_ascii_lowercase e ∙ n)

heads_apart : (g h r s : List ℕ) → letters g ≡ true → letters h ≡ true → Ends r → Ends s → g ++ r ≡ h ++ s → (g ≡ h) × (r ≡ s)
heads_apart [] [] r s p q x y e = (refl, e)
heads_apart [] (c ∷ h) [] s p q x y e = absurd x
heads_apart [] (c ∷ h) (b ∷ r) s p q x y e = absurd (never c b (and_parts (is_ascii_lowercase c) (letters h) q).0 x.1 (sym (first_same b c r (h ++ s) e).0))
heads_apart (b ∷ g) [] r [] p q x y e = absurd y
heads_apart (b ∷ g) [] r (c ∷ s) p q x y e = absurd (never b c (and_parts (is_ascii_lowercase b) (letters g) p).0 y.1 (first_same b c (g ++ r) s e).0)
heads_apart (b ∷ g) (c ∷ h) r s p q x y e =
    let f = first_same b c (g ++ r) (h ++ s) e in
    let m = heads_apart g h r s (and_parts (is_ascii_lowercase b) (letters g) p).1 (and_parts (is_ascii_lowercase c) (letters h) q).1 x y f.1 in
    ((λ i. f.0 i ∷ m.0 i), m.1)

no_digit : (r : List ℕ) → Ends r → NoDigit r
no_digit [] e = tt
no_digit (b ∷ r) e = e.0

reads : (n : ℤ) (r : List ℕ) → InRange n → Ends r → number_at (signed_decimal n ++ r) ≡ Ok (n, length (signed_decimal n))
reads n r p e = (reads_fronts n (length (signed_decimal n)) (signed_decimal n ++ r)).0 (record { front = signed_decimal n; rest = r; whole = refl; writes = (one_writing n).0 p; ends = no_digit r e; long = refl })

numbers_apart : Apart ℤ InRange signed_decimal
numbers_apart n m r s p q x y e =
    let told = ok_parts _ _ _ _ (sym (reads n r p x) ∙ ap number_at e ∙ reads m s q y) in
    (told.0, append_cancel_left (signed_decimal m) r s (ap (λ k. signed_decimal k ++ r) (sym told.0) ∙ e))

-- items, each behind a space, before a closing bracket
module _ (X : Type 0) (P : X → Type 0) (text : X → List ℕ) (apart : Apart X P text) where
  ends_items : (xs : List X) (r : List ℕ) → Ends (flat_map (λ x. 32 ∷ text x) xs ++ (41 ∷ r))
  ends_items [] r = (refl, refl)
  ends_items (x ∷ xs) r = (refl, refl)

  items_apart : (xs ys : List X) (r s : List ℕ) → AllByRecursion P xs → AllByRecursion P ys → flat_map (λ x. 32 ∷ text x) xs ++ (41 ∷ r) ≡ flat_map (λ x. 32 ∷ text x) ys ++ (41 ∷ s) → (xs ≡ ys) × (r ≡ s)
  items_apart [] [] r s p q e = (refl, (first_same 41 41 r s e).1)
  items_apart [] (y ∷ ys) r s p q e = absurd (let z : ◌≡◌ {A = ℕ} 41 32 = cc in omega arith)
  items_apart (x ∷ xs) [] r s p q e = absurd (let z : ◌≡◌ {A = ℕ} 32 41 = cc in omega arith)
  items_apart (x ∷ xs) (y ∷ ys) r s p q e =
      let J = flat_map (λ x. 32 ∷ text x) in
      let f = first_same 32 32 _ _ (sym (append_assoc (32 ∷ text x) (J xs) (41 ∷ r)) ∙ e ∙ append_assoc (32 ∷ text y) (J ys) (41 ∷ s)) in
      let a = apart x y _ _ p.0 q.0 (ends_items xs r) (ends_items ys s) f.1 in
      let m = items_apart xs ys r s p.1 q.1 a.1 in
      ((λ i. a.0 i ∷ m.0 i), m.1)

  -- a head and items, before a closing bracket
  form_apart : (g h : List ℕ) (xs ys : List X) (r s : List ℕ) → letters g ≡ true → letters h ≡ true → AllByRecursion P xs → AllByRecursion P ys → g ++ (flat_map (λ x. 32 ∷ text x) xs ++ (41 ∷ r)) ≡ h ++ (flat_map (λ x. 32 ∷ text x) ys ++ (41 ∷ s)) → (g ≡ h) × (xs ≡ ys) × (r ≡ s)
  form_apart g h xs ys r s p q a b e =
      let m = heads_apart g h _ _ p q (ends_items xs r) (ends_items ys s) e in
      let n = items_apart xs ys r s a b m.1 in
      (m.0, n.0, n.1)

inners_apart : Apart Inner ProperInner inner_text
inners_apart i j r s p q x y e =
    let J = flat_map (λ n. 32 ∷ signed_decimal n) in
    let same = together i.head (J i.numbers) (41 ∷ []) r ∙ (first_same 40 40 _ _ e).1 ∙ sym (together j.head (J j.numbers) (41 ∷ []) s) in
    let m = form_apart ℤ InRange signed_decimal numbers_apart i.head j.head i.numbers j.numbers r s p.0.1 q.0.1 p.1 q.1 same in
    ((λ d. record { head = m.0 d; numbers = m.1 d }), m.2)

lines_apart : (f g : Outer) (r s : List ℕ) → Proper f → Proper g → outer_text f ++ r ≡ outer_text g ++ s → (f ≡ g) × (r ≡ s)
lines_apart f g r s p q e =
    let J = flat_map (λ i. 32 ∷ inner_text i) in
    let same = together f.head (J f.inners) (41 ∷ 10 ∷ []) r ∙ (first_same 40 40 _ _ e).1 ∙ sym (together g.head (J g.inners) (41 ∷ 10 ∷ []) s) in
    let m = form_apart Inner ProperInner inner_text inners_apart f.head g.head f.inners g.inners (10 ∷ r) (10 ∷ s) p.0.1 q.0.1 p.1 q.1 same in
    ((λ d. record { head = m.0 d; inners = m.1 d }), (first_same 10 10 r s m.2).1)

pub one_reading : OneReading
one_reading [] [] p q e = refl
one_reading [] (g ∷ gs) p q e = absurd (no_nil 40 _ e)
one_reading (f ∷ fs) [] p q e = absurd (no_nil 40 _ (sym e))
one_reading (f ∷ fs) (g ∷ gs) p q e =
    let m = lines_apart f g (text_of fs) (text_of gs) p.0 q.0 e in
    let rest = one_reading fs gs p.1 q.1 m.1 in
    λ d. m.0 d ∷ rest d
