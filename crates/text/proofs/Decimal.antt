-- Digits and the number that they write.
use Rattle.std.proofs.Common.{◌≡◌, ℕ, suc, ◌^◌, ◌<◌, true, List, ◌∷◌, length, get_or, pos, negsuc, decimal, sym, refl, ap, ◌∙◌, ⊎_elim, arith, rules}
use Rattle.std.specs.Str.{all_ascii_digits}
use Rattle.std.proofs.lemmas.Str.Parse.{IsNumeralModel, numerals_by_fold, tells_all_ascii_digits, digits_value_short}
use Rattle.std.proofs.lemmas.Int.{ints}
use Rattle.std.proofs.lemmas.Bool.{cases_lt}
use Rattle.std.proofs.lemmas.Fmt.{decimal-digits_value, digits_decimal, digits_value-decimal, decimal_nonempty, decimal_digit, length-decimal-le, first_decimal}
use Rattle.text.specs.Writing.{value_after, Numeral, InRange, OneWriting}

pub own : IsNumeralModel (λ ds. all_ascii_digits ds ≡ true) (value_after 0)
own = numerals_by_fold _ tells_all_ascii_digits value_after (search rules)

-- what a numeral writes is small, and it is what is printed of that
pub numeral_small : (ds : List ℕ) → Numeral ds → value_after 0 ds < 10 ^ 15
numeral_small ds h = digits_value_short own ds 15 h.digits h.most

pub numeral_printed : (ds : List ℕ) → Numeral ds → decimal (value_after 0 ds) ≡ ds
numeral_printed ds h = decimal-digits_value own ds h.digits h.some h.leading (omega (arith, numeral_small ds h))

-- a 0 is printed alone, and no other number begins with one
lead : (n : ℕ) → n < 10 ^ 15 → get_or (decimal n) 0 0 ≡ 48 → length (decimal n) ≡ 1
lead n h e = ⊎_elim (λ some. absurd (omega (arith, first_decimal n some (omega arith)))) (λ none. ap length (decimal_digit n (omega arith))) (cases_lt 0 n)

-- what is printed of a small number is a numeral that writes it
pub printed_numeral : (n : ℕ) → n < 10 ^ 15 → Numeral (decimal n) × (value_after 0 (decimal n) ≡ n)
printed_numeral n h = (
  record {
    some = decimal_nonempty n (omega arith);
    most = length-decimal-le 15 n (omega arith) h (omega arith);
    digits = digits_decimal own n (omega arith);
    leading = lead n h;
  },
  digits_value-decimal own n (omega arith),
)

pub in_range : (n : ℕ) → n < 10 ^ 15 → InRange (pos n)
in_range n h = omega (arith, ints)

pub in_range_below : (n : ℕ) → suc n < 10 ^ 15 → InRange (negsuc n)
in_range_below n h = omega (arith, ints)

within_range : (n : ℕ) → InRange (pos n) → n < 10 ^ 15
within_range n h = omega (arith, ints)

within_range_below : (n : ℕ) → InRange (negsuc n) → suc n < 10 ^ 15
within_range_below n h = omega (arith, ints)

pub one_writing : OneWriting
one_writing (pos n) = (
  λ h. printed_numeral n (within_range n h),
  λ bs w. (in_range n (rw w.1 at (numeral_small bs w.0)), sym (numeral_printed bs w.0) ∙ ap decimal w.1),
)
one_writing (negsuc n) = (
  λ h. let p = printed_numeral (suc n) (within_range_below n h) in (decimal (suc n), refl, p.0, p.1),
  λ bs w. (in_range_below n (rw w.3 at (numeral_small w.0 w.2)), w.1 ∙ ap (λ ds. 45 ∷ ds) (sym (numeral_printed w.0 w.2) ∙ ap decimal w.3)),
)
