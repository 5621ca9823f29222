-- What a reader finds at a place of a text, and the place behind it.
use Rattle.std.specs.Prelude.{◌≡◌, ℕ, zero, suc, ◌+◌, Bool, true, false, not, ◌&&◌, List, [], ◌∷◌, ◌++◌, length, drop, ℤ, Ok, Err, Result, ◌==◌, nat_lt, slice_index}
use Rattle.std.specs.Char.{is_ascii_lowercase}
use Rattle.terms.specs.declared.refusal.Refusal.{Refusal}
use Rattle.terms.specs.declared.refusal.Refusal.TheVariants.{Malformed, OutsideField, WrongForm}
use Rattle.text.specs.Numbers.{number_at}
use Rattle.forms.specs.declared.field.Allowed.{Allowed}
use Rattle.forms.specs.Fields.{allows, Asked}

-- what was read and the place behind it, or a refusal
abbrev pub Told : Type 0 → Type 0
Told X = Result (X × ℕ) Refusal

-- an answer, with the place where the reader then stands
abbrev pub told : {X : Type 0} → Result X Refusal → ℕ → Told X
told (Ok x) at = Ok (x, at)
told (Err e) at = Err e

-- what comes after something read, which goes on at the place behind it
abbrev pub then : {X Y : Type 0} → Told X → (X → ℕ → Told Y) → Told Y
then (Ok r) more = more r.0 r.1
then (Err e) more = Err e

-- an answer where the test holds, and a refusal elsewhere
abbrev pub given : {X : Type 0} → Bool → Refusal → Told X → Told X
given true e t = t
given false e t = Err e

-- the byte c stands there
abbrev pub stands : ℕ → List ℕ → ℕ → Bool
stands c text at = nat_lt at (length text) && slice_index text at == c

unfoldable pub byte_in : ℕ → List ℕ → ℕ → Told (Unit {0})
byte_in c text at = given (stands c text at) (Malformed at) (Ok (tt, at + 1))

-- the letters at the front of a text are the whole head
abbrev pub is_head : List ℕ → List ℕ → Bool
is_head [] [] = true
is_head [] (b ∷ bs) = not (is_ascii_lowercase b)
is_head (h ∷ hs) [] = false
is_head (h ∷ hs) (b ∷ bs) = h == b && is_head hs bs

-- how many spaces stand before the closing bracket, and n more
abbrev pub spaces : ℕ → List ℕ → ℕ
spaces n [] = n
spaces n (b ∷ bs) = elim (b == 41) [ true ↦ n | false ↦ elim (b == 32) [ true ↦ spaces (n + 1) bs | false ↦ spaces n bs ] ]

-- a number
abbrev pub behind : ℕ → Result (ℤ × ℕ) Refusal → Told ℤ
behind at (Ok r) = Ok (r.0, at + r.1)
behind at (Err e) = Err (Malformed at)

unfoldable pub number_in : List ℕ → ℕ → Told ℤ
number_in text at = behind at (number_at (drop at text))

-- a number from low to high
unfoldable pub field_in : Allowed → List ℕ → ℕ → Told ℤ
field_in allowed text at = then (number_in text at) (λ n q. given (allows allowed n) (OutsideField at) (Ok (n, q)))

-- a number behind a space
unfoldable pub spaced_in : Allowed → List ℕ → ℕ → Told ℤ
spaced_in allowed text at = then (byte_in 32 text at) (λ _ p. field_in allowed text p)

-- the space and the bracket before an inner form, which may not be missing: the bracket's place
unfoldable pub open_in : List ℕ → ℕ → Told ℕ
open_in text at = given (not (stands 41 text at)) (WrongForm at) (then (byte_in 32 text at) (λ _ p. then (byte_in 40 text p) (λ _ q. Ok (p, q))))

-- the head that is asked for, with as many numbers
abbrev pub fits_head : Asked → List ℕ → Bool
fits_head a bs = is_head a.head bs && spaces 0 bs == a.count

unfoldable pub head_in : Asked → ℕ → List ℕ → ℕ → Told (Unit {0})
head_in a bracket text at = given (fits_head a (drop at text)) (WrongForm bracket) (Ok (tt, at + length a.head))

-- so many numbers in a row, from an index on; each is filled into the record
unfoldable pub numbers_in : {R : Type 0} → (R → ℕ → ℤ → R) → Allowed → List ℕ → ℕ → ℕ → R → ℕ → Told R
numbers_in fill allowed text zero index r at = Ok (r, at)
numbers_in fill allowed text (suc left) index r at = then (spaced_in allowed text at) (λ n p. numbers_in fill allowed text left (index + 1) (fill r index n) p)

-- an inner form of the kind that is asked for
unfoldable pub inner_in : {R : Type 0} → (R → ℕ → ℤ → R) → Asked → List ℕ → R → ℕ → Told R
inner_in fill a text r at =
    then (open_in text at) (λ bracket p.
    then (head_in a bracket text p) (λ _ q.
    then (numbers_in fill a.allowed text a.count 0 r q) (λ s u.
    then (byte_in 41 text u) (λ _ v. Ok (s, v)))))

-- the inner forms that are asked for, one after the other, from an index on
unfoldable pub inners_in : {R : Type 0} → (ℕ → R → ℕ → ℤ → R) → List ℕ → List Asked → ℕ → R → ℕ → Told R
inners_in fill text [] inner r at = Ok (r, at)
inners_in fill text (a ∷ more) inner r at = then (inner_in (fill inner) a text r at) (λ s p. inners_in fill text more (inner + 1) s p)

-- a line begins there, with that head
abbrev pub begins : List ℕ → List ℕ → ℕ → Bool
begins head text at = stands 40 text at && is_head head (drop (at + 1) text)

-- the bracket and the head of an outer form
unfoldable pub outer_in : List ℕ → List ℕ → ℕ → Told (Unit {0})
outer_in head text at = given (begins head text at) (WrongForm at) (Ok (tt, at + 1 + length head))

-- the end of an outer form and of its line; one inner form too many is refused at its bracket
unfoldable pub close_in : List ℕ → ℕ → Told (Unit {0})
close_in text at = given (not (stands 32 text at)) (WrongForm (at + 1)) (then (byte_in 41 text at) (λ _ p. byte_in 10 text p))

-- a form of a kind, given by its head, its inner forms, the record before any number, and the record with a number filled in
unfoldable pub form_in : {R : Type 0} → List ℕ → List Asked → R → (ℕ → R → ℕ → ℤ → R) → List ℕ → ℕ → Told R
form_in head fields empty fill text at =
    then (outer_in head text at) (λ _ q.
    then (inners_in fill text fields 0 empty q) (λ r u.
    then (close_in text u) (λ _ v. Ok (r, v))))

-- the forms of a kind that follow one another, behind those read so far, with room for so many more; one too many is refused at its bracket
unfoldable pub list_on : {R : Type 0} → List ℕ → List Asked → R → (ℕ → R → ℕ → ℤ → R) → List ℕ → ℕ → List R → ℕ → Told (List R)
list_on head fields empty fill text zero rs at = given (not (begins head text at)) (WrongForm at) (Ok (rs, at))
list_on head fields empty fill text (suc room) rs at =
    elim (begins head text at) [
      | false ↦ Ok (rs, at)
      | true ↦ then (form_in head fields empty fill text at) (λ r p. list_on head fields empty fill text room (rs ++ (r ∷ [])) p)
    ]

-- a list that was filled from its start with what was read, and how many that was
abbrev pub Listed : {R : Type 0} → Told (List R) → Result ℕ Refusal → ℕ → List R → List R → Type 0
Listed (Ok x) r at before after = (r ≡ Ok (length x.0)) × (at ≡ x.1) × (after ≡ x.0 ++ drop (length x.0) before)
Listed (Err e) r at before after = r ≡ Err e
