-- What a kind of form makes of an outer form that stands at a byte of the text: its record and the place behind its line, or a refusal.
use Rattle.std.specs.Prelude.{◌≡◌, ℕ, zero, suc, ◌+◌, Bool, true, false, not, ◌&&◌, List, [], ◌∷◌, ◌++◌, length, drop, ℤ, Ok, Err, ◌==◌}
use Rattle.std.specs.Fmt.{signed_decimal}
use Rattle.std.specs.List.{AllByRecursion}
use Rattle.terms.specs.declared.refusal.Refusal.TheVariants.{OutsideField, WrongForm}
use Rattle.text.specs.Grammar.{Inner, Outer, letters, Proper, text_of}
use Rattle.forms.specs.declared.field.Allowed.{Allowed}
use Rattle.forms.specs.Fields.{allows, Asked}
use Rattle.forms.specs.Reads.{Told, then, given, form_in, list_on}

-- the same bytes
abbrev pub same : List ℕ → List ℕ → Bool
same [] [] = true
same [] (b ∷ bs) = false
same (a ∷ as') [] = false
same (a ∷ as') (b ∷ bs) = a == b && same as' bs

module _ {R : Type 0} where
  -- numbers, the first behind the space at that byte: the first one outside its field is refused at its start
  unfoldable pub judge_numbers : (R → ℕ → ℤ → R) → Allowed → List ℤ → ℕ → R → ℕ → Told R
  judge_numbers fill allowed [] index r at = Ok (r, at)
  judge_numbers fill allowed (n ∷ ns) index r at =
      given (allows allowed n) (OutsideField (at + 1)) (judge_numbers fill allowed ns (index + 1) (fill r index n) (at + 1 + length (signed_decimal n)))

  -- an inner form, behind the space at that byte: another head or count of numbers is refused at its bracket
  unfoldable pub judge_inner : (R → ℕ → ℤ → R) → Asked → Inner → R → ℕ → Told R
  judge_inner fill a i r at =
      given (same a.head i.head && length i.numbers == a.count) (WrongForm (at + 1))
      (then (judge_numbers fill a.allowed i.numbers 0 r (at + 2 + length i.head)) (λ s u. Ok (s, u + 1)))

  -- inner forms, the first behind the space at that byte: one too many is refused at its bracket, a missing one at the closing bracket
  unfoldable pub judge_inners : (ℕ → R → ℕ → ℤ → R) → List Asked → List Inner → ℕ → R → ℕ → Told R
  judge_inners fill [] [] inner r at = Ok (r, at + 2)
  judge_inners fill [] (i ∷ is) inner r at = Err (WrongForm (at + 1))
  judge_inners fill (a ∷ more) [] inner r at = Err (WrongForm at)
  judge_inners fill (a ∷ more) (i ∷ is) inner r at = then (judge_inner (fill inner) a i r at) (λ s p. judge_inners fill more is (inner + 1) s p)

  -- an outer form, with its bracket at that byte
  unfoldable pub judge_form : List ℕ → List Asked → R → (ℕ → R → ℕ → ℤ → R) → Outer → ℕ → Told R
  judge_form head fields empty fill f at =
      given (same head f.head) (WrongForm at) (judge_inners fill fields f.inners 0 empty (at + 1 + length f.head))

  -- the next line, of those that are left: a missing one is refused at the end of the text
  unfoldable pub judge_next : List ℕ → List Asked → R → (ℕ → R → ℕ → ℤ → R) → List Outer → ℕ → Told R
  judge_next head fields empty fill [] at = Err (WrongForm at)
  judge_next head fields empty fill (f ∷ fs) at = judge_form head fields empty fill f at

  -- the lines of a kind that come first of those that are left, behind those judged so far, with room for so many more
  unfoldable pub judge_list : List ℕ → List Asked → R → (ℕ → R → ℕ → ℤ → R) → ℕ → List R → List Outer → ℕ → Told (List R)
  judge_list head fields empty fill room rs [] at = Ok (rs, at)
  judge_list head fields empty fill zero rs (f ∷ fs) at = given (not (same head f.head)) (WrongForm at) (Ok (rs, at))
  judge_list head fields empty fill (suc room) rs (f ∷ fs) at =
      elim (same head f.head) [
        | false ↦ Ok (rs, at)
        | true ↦ then (judge_form head fields empty fill f at) (λ r p. judge_list head fields empty fill room (rs ++ (r ∷ [])) fs p)
      ]

-- the head and the heads of the inner forms are letters
abbrev pub Lettered : List ℕ → List Asked → Type 0
Lettered head fields = (letters head ≡ true) × AllByRecursion (λ a. letters a.head ≡ true) fields

-- where the lines of outer forms are left of the text, the reader makes of the bytes what the kind makes of the first form
abbrev pub ReadsForms : {R : Type 0} → List ℕ → List Asked → R → (ℕ → R → ℕ → ℤ → R) → Type 0
ReadsForms head fields empty fill =
    (fs : List Outer) (text : List ℕ) (at : ℕ) → AllByRecursion Proper fs → drop at text ≡ text_of fs → form_in head fields empty fill text at ≡ judge_next head fields empty fill fs at

-- likewise for the lines of a kind that follow one another
abbrev pub ReadsLists : {R : Type 0} → List ℕ → List Asked → R → (ℕ → R → ℕ → ℤ → R) → Type 0
ReadsLists {R} head fields empty fill =
    (fs : List Outer) (text : List ℕ) (room at : ℕ) (rs : List R) → AllByRecursion Proper fs → drop at text ≡ text_of fs → list_on head fields empty fill text room rs at ≡ judge_list head fields empty fill room rs fs at
