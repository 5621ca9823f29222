-- How forms are written as text, and what is known of a text's first malformed byte.
use Rattle.std.specs.Prelude.{◌≡◌, ℕ, ◌+◌, ◌<◌, ◌≤◌, Bool, true, ◌&&◌, List, [], ◌∷◌, ◌++◌, length, take, ℤ, Some, None}
use Rattle.std.specs.List.{flat_map, AllByRecursion}
use Rattle.std.specs.Char.{is_ascii_lowercase}
use Rattle.std.specs.Fmt.{signed_decimal}
use Rattle.text.specs.Writing.{InRange}
use Rattle.text.specs.Shape.{malformed_at}

-- an inner form: a head and numbers
pub record Inner : Type 0 where
  pub head : List ℕ
  pub numbers : List ℤ

-- an outer form: a head and inner forms
pub record Outer : Type 0 where
  pub head : List ℕ
  pub inners : List Inner

-- the letters a to z, and nothing else
abbrev pub letters : List ℕ → Bool
letters [] = true
letters (b ∷ bs) = is_ascii_lowercase b && letters bs

-- one letter or more
abbrev pub Head : List ℕ → Type 0
Head h = (0 < length h) × (letters h ≡ true)

abbrev pub ProperInner : Inner → Type 0
ProperInner f = Head f.head × AllByRecursion InRange f.numbers

abbrev pub Proper : Outer → Type 0
Proper f = Head f.head × AllByRecursion ProperInner f.inners

-- a bracket (40), the head, the numbers with a space (32) before each, a bracket (41)
abbrev pub inner_text : Inner → List ℕ
inner_text f = 40 ∷ (f.head ++ (flat_map (λ n. 32 ∷ signed_decimal n) f.numbers ++ (41 ∷ [])))

-- likewise with inner forms, and the byte 10 that ends the line
abbrev pub outer_text : Outer → List ℕ
outer_text f = 40 ∷ (f.head ++ (flat_map (λ i. 32 ∷ inner_text i) f.inners ++ (41 ∷ 10 ∷ [])))

-- one line after another
abbrev pub text_of : List Outer → List ℕ
text_of fs = flat_map outer_text fs

-- bs is the writing of a list of outer forms
abbrev pub WellFormed : List ℕ → Type 0
WellFormed bs = (fs : List Outer) × AllByRecursion Proper fs × (bs ≡ text_of fs)

-- a text is accepted exactly where it is the writing of a list of outer forms
abbrev pub AcceptsWritings : Type 0
AcceptsWritings = (bs : List ℕ) → (WellFormed bs → malformed_at bs ≡ None) × (malformed_at bs ≡ None → WellFormed bs)

-- no text is the writing of two lists of forms
abbrev pub OneReading : Type 0
OneReading = (fs gs : List Outer) → AllByRecursion Proper fs → AllByRecursion Proper gs → text_of fs ≡ text_of gs → fs ≡ gs

-- what stands before the place can be continued to a well-formed text, and with the byte there, or the end, no more
pub record FirstFault (bs : List ℕ) (place : ℕ) : Type 0 where
  pub within : place ≤ length bs
  pub before : (rest : List ℕ) × WellFormed (take place bs ++ rest)
  pub byte : place < length bs → (rest : List ℕ) → WellFormed (take (place + 1) bs ++ rest) → ⊥
  pub end : place ≡ length bs → WellFormed bs → ⊥

-- the place answered is the first byte, or the end, that cannot continue
abbrev pub RefusesFirst : Type 0
RefusesFirst = (bs : List ℕ) (place : ℕ) → malformed_at bs ≡ Some place → FirstFault bs place
