-- A writing is read back.
use Rattle.std.proofs.Common.{◌≡◌, ℕ, suc, ◌+◌, ◌-◌, ◌*◌, ◌≤◌, true, leb, List, [], ◌∷◌, ◌++◌, length, pos, negsuc, neg_ℤ, Ok, refl, ap, ◌∙◌, ⊎_elim, add-zero, arith}
use Rattle.std.specs.Char.{is_ascii_digit}
use Rattle.std.specs.Int.{is_in_range}
use Rattle.std.specs.Str.{all_ascii_digits}
use Rattle.std.proofs.lemmas.Bool.{lt-ltb, cases_eq, and_parts, and_from, leb-true, le-leb}
use Rattle.text.specs.Numbers.{digits_on, zero_at, natural_at, negative_at, number_at}
use Rattle.text.specs.Writing.{value_after, Numeral, NoDigit}
use Rattle.text.proofs.Fronts.{number_plain}

run_digits : (count value : ℕ) (ds rest : List ℕ) → all_ascii_digits ds ≡ true → NoDigit rest → count + length ds ≤ 15 → digits_on count value (ds ++ rest) ≡ Ok (value_after value ds, count + length ds)
run_digits count value [] [] d e m = rw add-zero
run_digits count value [] (b ∷ bs) d e m = rw (e, digits_on) (rw add-zero)
run_digits count value (b ∷ ds) rest d e m =
    let p = and_parts (is_ascii_digit b) (all_ascii_digits ds) d in
    let more = run_digits (count + 1) (10 * value + (b - 48)) ds rest p.1 e (omega arith) in
    let same : count + 1 + length ds ≡ count + length (b ∷ ds) = omega arith in
    rw (p.0, digits_on) (rw (lt-ltb count 15 (omega arith), digits_on) (rw same at more))

pub first_digit : (d : ℕ) → is_ascii_digit d ≡ true → (d ≡ 48 → ⊥) → is_in_range 49 57 d ≡ true
first_digit d h ne =
    let p = and_parts _ _ h in
    let low = leb-true 48 d p.0 in
    and_from _ _ (le-leb 49 d (omega arith)) p.1

module _ (d : ℕ) (ds rest : List ℕ) (h : Numeral (d ∷ ds)) (e : NoDigit rest) where
  behind : digits_on 1 (d - 48) (ds ++ rest) ≡ Ok (value_after 0 (d ∷ ds), length (d ∷ ds))
  behind =
      let p = and_parts (is_ascii_digit d) (all_ascii_digits ds) h.digits in
      let long : 1 + length ds ≡ length (d ∷ ds) = omega arith in
      let first : d - 48 ≡ 0 + (d - 48) = omega arith in
      let all = run_digits 1 (d - 48) ds rest p.1 e (omega (arith, h.most)) in
      rw long at (all ∙ ap (λ v. Ok (value_after v ds, 1 + length ds)) first)

  is_first_lem : (d ≡ 48 → ⊥) → is_in_range 49 57 d ≡ true
  is_first_lem = first_digit d (and_parts (is_ascii_digit d) (all_ascii_digits ds) h.digits).0

  natural_some : (d ≡ 48 → ⊥) → natural_at d (ds ++ rest) ≡ Ok (pos (value_after 0 (d ∷ ds)), length (d ∷ ds))
  natural_some ne = rw (is_first_lem ne, natural_at) (rw behind)

  negative_some : (d ≡ 48 → ⊥) → negative_at d (ds ++ rest) ≡ Ok (neg_ℤ (pos (value_after 0 (d ∷ ds))), length (d ∷ ds) + 1)
  negative_some ne = rw (is_first_lem ne, negative_at) (rw behind)

zero_is : (rest : List ℕ) → NoDigit rest → zero_at rest ≡ Ok (pos 0, 1)
zero_is [] e = refl
zero_is (b ∷ bs) e = rw (e, zero_at)

zero_alone : (d : ℕ) (ds rest : List ℕ) → Numeral (d ∷ ds) → NoDigit rest → d ≡ 48 → natural_at d (ds ++ rest) ≡ Ok (pos (value_after 0 (d ∷ ds)), length (d ∷ ds))
zero_alone d [] rest h e is = rw is (zero_is rest e)
zero_alone d (c ∷ cs) rest h e is = absurd (omega (arith, h.leading is))

pub no_minus : (d : ℕ) (ds : List ℕ) → Numeral (d ∷ ds) → d ≡ 45 → ⊥
no_minus d ds h e = let p = and_parts (is_ascii_digit d) (all_ascii_digits ds) h.digits in let q = and_parts (leb 48 d) (leb d 57) p.0 in omega (arith, leb-true 48 d q.0)

pub reads_natural : (ds rest : List ℕ) → Numeral ds → NoDigit rest → number_at (ds ++ rest) ≡ Ok (pos (value_after 0 ds), length ds)
reads_natural [] rest h e = absurd (omega (arith, h.some))
reads_natural (d ∷ ds) rest h e = number_plain d (ds ++ rest) (no_minus d ds h) ∙ ⊎_elim (λ is. zero_alone d ds rest h e is) (λ ne. natural_some d ds rest h e ne) (cases_eq d 48)

-- a numeral that begins with 0 writes 0
pub some_first : (d : ℕ) (ds : List ℕ) (n : ℕ) → Numeral (d ∷ ds) → value_after 0 (d ∷ ds) ≡ suc n → d ≡ 48 → ⊥
some_first d [] n h v e = omega arith
some_first d (c ∷ cs) n h v e = omega (arith, h.leading e)

pub reads_negative : (ds rest : List ℕ) (n : ℕ) → Numeral ds → value_after 0 ds ≡ suc n → NoDigit rest → number_at (45 ∷ (ds ++ rest)) ≡ Ok (negsuc n, length ds + 1)
unfolding number_at
reads_negative [] rest n h v e = absurd (omega (arith, h.some))
reads_negative (d ∷ ds) rest n h v e = negative_some d ds rest h e (some_first d ds n h v) ∙ ap (λ m. Ok (neg_ℤ (pos m), length (d ∷ ds) + 1)) v
