-- What the number reader answers: the number at the front of a text and how many bytes it takes, or the first byte that cannot continue.
use Rattle.std.specs.Prelude.{ℕ, ◌+◌, ◌-◌, ◌*◌, true, false, List, [], ◌∷◌, ℤ, pos, neg_ℤ, Ok, Err, Result, ◌==◌, nat_lt}
use Rattle.std.specs.Char.{is_ascii_digit}
use Rattle.std.specs.Int.{is_in_range}
use Rattle.terms.specs.declared.refusal.Refusal.{Refusal}
use Rattle.terms.specs.declared.refusal.Refusal.TheVariants.{Malformed}

-- the digits at the front of a text, behind count digits that write value: the number that they all write, and how many they are;
-- or the place of the 16th digit
abbrev pub digits_on : ℕ → ℕ → List ℕ → Result (ℕ × ℕ) ℕ
digits_on count value [] = Ok (value, count)
digits_on count value (b ∷ bs) =
    elim (is_ascii_digit b) [
      | false ↦ Ok (value, count)
      | true ↦ elim (nat_lt count 15) [ true ↦ digits_on (count + 1) (10 * value + (b - 48)) bs | false ↦ Err count ]
    ]

abbrev pub Answer : Type 0
Answer = Result (ℤ × ℕ) Refusal

-- a 0 stands alone
abbrev pub zero_at : List ℕ → Answer
zero_at [] = Ok (pos 0, 1)
zero_at (b ∷ bs) = elim (is_ascii_digit b) [ true ↦ Err (Malformed 1) | false ↦ Ok (pos 0, 1) ]

-- a number without a minus, taken apart as its first byte and the rest
abbrev pub natural_at : ℕ → List ℕ → Answer
natural_at b bs =
    elim (is_in_range 49 57 b) [
      | true ↦ elim (digits_on 1 (b - 48) bs) [ Ok r ↦ Ok (pos r.0, r.1) | Err past ↦ Err (Malformed past) ]
      | false ↦ elim (b == 48) [ true ↦ zero_at bs | false ↦ Err (Malformed 0) ]
    ]

-- what stands behind a minus, taken apart likewise
abbrev pub negative_at : ℕ → List ℕ → Answer
negative_at b bs =
    elim (is_in_range 49 57 b) [
      | true ↦ elim (digits_on 1 (b - 48) bs) [ Ok r ↦ Ok (neg_ℤ (pos r.0), r.1 + 1) | Err past ↦ Err (Malformed (past + 1)) ]
      | false ↦ Err (Malformed 1)
    ]

unfoldable pub number_at : List ℕ → Answer
number_at [] = Err (Malformed 0)
number_at (b ∷ []) = elim (b == 45) [ true ↦ Err (Malformed 1) | false ↦ natural_at b [] ]
number_at (b ∷ c ∷ cs) = elim (b == 45) [ true ↦ negative_at c cs | false ↦ natural_at b (c ∷ cs) ]
