-- Heads and counts of numbers, read from the writing of a form.
use Rattle.std.proofs.Common.{◌≡◌, ℕ, ◌+◌, true, false, ◌&&◌, eqb, leb, List, [], ◌∷◌, ◌++◌, length, ℤ, pos, negsuc, sym, refl, ap, ◌∙◌, subst, append_assoc, arith}
use Rattle.std.specs.List.{flat_map, AllByRecursion}
use Rattle.std.specs.Char.{is_ascii_lowercase, is_ascii_digit}
use Rattle.std.specs.Fmt.{signed_decimal}
use Rattle.std.specs.Str.{all_ascii_digits}
use Rattle.std.proofs.lemmas.Bool.{and_parts, leb-true, ne_eqb, true≢false}
use Rattle.text.specs.Grammar.{letters}
use Rattle.text.specs.Writing.{InRange, Writes}
use Rattle.text.proofs.Decimal.{one_writing}
use Rattle.forms.specs.Reads.{is_head, spaces}
use Rattle.forms.specs.Judged.{same}

-- a text goes on with a byte that is no letter
abbrev pub NoLetter : List ℕ → Type 0
NoLetter [] = Unit {0}
NoLetter (b ∷ bs) = is_ascii_lowercase b ≡ false

apart : (b c : ℕ) → is_ascii_lowercase b ≡ true → is_ascii_lowercase c ≡ false → b ≡ c → ⊥
apart b c l n e = true≢false (sym l ∙ ap is_ascii_lowercase e ∙ n)

pub head_same : (h g rest : List ℕ) → letters h ≡ true → letters g ≡ true → NoLetter rest → is_head h (g ++ rest) ≡ same h g
head_same [] [] [] l m e = refl
head_same [] [] (b ∷ rest) l m e = rw e
head_same [] (c ∷ g) rest l m e = rw (and_parts (is_ascii_lowercase c) (letters g) m).0
head_same (a ∷ h) [] [] l m e = refl
head_same (a ∷ h) [] (b ∷ rest) l m e = rw (ne_eqb a b (apart a b (and_parts (is_ascii_lowercase a) (letters h) l).0 e))
head_same (a ∷ h) (c ∷ g) rest l m e = ap (λ t. eqb a c && t) (head_same h g rest (and_parts (is_ascii_lowercase a) (letters h) l).1 (and_parts (is_ascii_lowercase c) (letters g) m).1 e)

-- neither a space nor a closing bracket
abbrev Plain : ℕ → Type 0
Plain b = (b ≡ 41 → ⊥) × (b ≡ 32 → ⊥)

spaces_plain : (n : ℕ) (xs ys : List ℕ) → AllByRecursion Plain xs → spaces n (xs ++ ys) ≡ spaces n ys
spaces_plain n [] ys a = refl
spaces_plain n (b ∷ xs) ys a = rw (ne_eqb b 41 a.0.0, spaces) (rw (ne_eqb b 32 a.0.1, spaces) (spaces_plain n xs ys a.1))

letters_plain : (h : List ℕ) → letters h ≡ true → AllByRecursion Plain h
letters_plain [] e = tt
letters_plain (b ∷ h) e =
    let p = and_parts (is_ascii_lowercase b) (letters h) e in
    let low = leb-true 97 b (and_parts (leb 97 b) (leb b 122) p.0).0 in
    ((omega arith, omega arith), letters_plain h p.1)

digits_plain : (ds : List ℕ) → all_ascii_digits ds ≡ true → AllByRecursion Plain ds
digits_plain [] e = tt
digits_plain (b ∷ ds) e =
    let p = and_parts (is_ascii_digit b) (all_ascii_digits ds) e in
    let low = leb-true 48 b (and_parts (leb 48 b) (leb b 57) p.0).0 in
    ((omega arith, omega arith), digits_plain ds p.1)

number_plain : (n : ℤ) (bs : List ℕ) → Writes n bs → AllByRecursion Plain bs
number_plain (pos n) bs w = digits_plain bs w.0.digits
number_plain (negsuc n) bs w = subst (AllByRecursion Plain) (sym w.1) ((omega arith, omega arith), digits_plain w.0 w.2.digits)

spaces_numbers : (k : ℕ) (ns : List ℤ) (rest : List ℕ) → AllByRecursion InRange ns → spaces k (flat_map (λ n. 32 ∷ signed_decimal n) ns ++ (41 ∷ rest)) ≡ k + length ns
spaces_numbers k [] rest a = omega arith
spaces_numbers k (n ∷ ns) rest a =
    let J = flat_map (λ n. 32 ∷ signed_decimal n) ns in
    let more : k + 1 + length ns ≡ k + length (n ∷ ns) = omega arith in
    ap (spaces k) (append_assoc (32 ∷ signed_decimal n) J (41 ∷ rest)) ∙ spaces_plain (k + 1) (signed_decimal n) (J ++ (41 ∷ rest)) (number_plain n (signed_decimal n) ((one_writing n).0 a.0)) ∙ spaces_numbers (k + 1) ns rest a.1 ∙ more

pub spaces_form : (h : List ℕ) (ns : List ℤ) (rest : List ℕ) → letters h ≡ true → AllByRecursion InRange ns → spaces 0 (h ++ (flat_map (λ n. 32 ∷ signed_decimal n) ns ++ (41 ∷ rest))) ≡ length ns
spaces_form h ns rest l a = spaces_plain 0 h _ (letters_plain h l) ∙ spaces_numbers 0 ns rest a ∙ zero_plus (length ns)
  where
    zero_plus : (k : ℕ) → 0 + k ≡ k
    zero_plus k = omega arith
