-- How a number is written, and what is known of reading a writing.
use Rattle.std.specs.Prelude.{◌≡◌, ℕ, suc, ◌+◌, ◌-◌, ◌*◌, ◌<◌, ◌≤◌, true, false, List, [], ◌∷◌, ◌++◌, length, take, ℤ, pos, negsuc, ◌≤ℤ◌, Ok, Err, slice_index_or}
use Rattle.std.specs.Char.{is_ascii_digit}
use Rattle.std.specs.Str.{all_ascii_digits}
use Rattle.std.specs.Fmt.{signed_decimal}
use Rattle.terms.specs.declared.refusal.Refusal.{Refusal}
use Rattle.terms.specs.declared.refusal.Refusal.TheVariants.{Malformed}
use Rattle.text.specs.Numbers.{number_at}

-- the number that digits write, behind those of n
abbrev pub value_after : ℕ → List ℕ → ℕ
value_after n [] = n
value_after n (d ∷ ds) = value_after (10 * n + (d - 48)) ds

-- 1 to 15 digits, of which the first is no 0 unless it stands alone
pub record Numeral (ds : List ℕ) : Type 0 where
  pub some : 0 < length ds
  pub most : length ds ≤ 15
  pub digits : all_ascii_digits ds ≡ true
  pub leading : slice_index_or ds 0 0 ≡ 48 → length ds ≡ 1

-- bs is a writing of n: digits, behind a minus (byte 45) where n is below 0
abbrev pub Writes : ℤ → List ℕ → Type 0
Writes (pos n) bs = Numeral bs × (value_after 0 bs ≡ n)
Writes (negsuc n) bs = (ds : List ℕ) × (bs ≡ 45 ∷ ds) × Numeral ds × (value_after 0 ds ≡ suc n)

-- −999,999,999,999,999 to 999,999,999,999,999
abbrev pub InRange : ℤ → Type 0
InRange n = (negsuc 999999999999998 ≤ℤ n) × (n ≤ℤ pos 999999999999999)

-- the reader takes a whole text for a number exactly where the text is a writing of it
abbrev pub ReadsWritings : Type 0
ReadsWritings = (n : ℤ) (bs : List ℕ) → (Writes n bs → number_at bs ≡ Ok (n, length bs)) × (number_at bs ≡ Ok (n, length bs) → Writes n bs)

-- the numbers in range, and no others, have a writing, and just one: the one that the program prints
abbrev pub OneWriting : Type 0
OneWriting = (n : ℤ) → (InRange n → Writes n (signed_decimal n)) × ((bs : List ℕ) → Writes n bs → InRange n × (bs ≡ signed_decimal n))

-- the text does not begin with a digit
abbrev pub NoDigit : List ℕ → Type 0
NoDigit [] = Unit {0}
NoDigit (b ∷ bs) = is_ascii_digit b ≡ false

-- text is a writing of n, of k bytes, and then something that is no digit
pub record Begins (n : ℤ) (k : ℕ) (text : List ℕ) : Type 0 where
  pub front : List ℕ
  pub rest : List ℕ
  pub whole : text ≡ front ++ rest
  pub writes : Writes n front
  pub ends : NoDigit rest
  pub long : k ≡ length front

-- the reader finds a number at the front of a text exactly where the text begins with it
abbrev pub ReadsFronts : Type 0
ReadsFronts = (n : ℤ) (k : ℕ) (text : List ℕ) → (Begins n k text → number_at text ≡ Ok (n, k)) × (number_at text ≡ Ok (n, k) → Begins n k text)

-- what stands before the place begins the writing of some number, and with the byte there, or the end, of none
pub record NoNumber (text : List ℕ) (place : ℕ) : Type 0 where
  pub within : place ≤ length text
  pub before : (n : ℤ) × (rest : List ℕ) × Writes n (take place text ++ rest)
  pub byte : place < length text → (n : ℤ) (rest : List ℕ) → Writes n (take (place + 1) text ++ rest) → ⊥
  pub end : place ≡ length text → (n : ℤ) → Writes n text → ⊥

-- where the reader refuses, it names the first byte, or the end, that cannot continue
abbrev pub RefusesWhere : Type 0
RefusesWhere = (text : List ℕ) (e : Refusal) → number_at text ≡ Err e → (place : ℕ) × (e ≡ Malformed place) × NoNumber text place
