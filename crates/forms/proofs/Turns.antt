-- One turn of the loops over numbers and over inner forms.
use Rattle.std.proofs.Common.{◌≡◌, ℕ, zero, suc, ◌+◌, ◌-◌, ◌<◌, ◌≤◌, true, false, List, [], ◌∷◌, ◌++◌, length, get_or, drop, ℤ, Ok, Err, sym, refl, ap, ◌∙◌, subst, arith}
use Rattle.forms.specs.declared.field.Allowed.TheVariants.{Any}
use Rattle.terms.specs.declared.refusal.Refusal.{Refusal}
use Rattle.terms.specs.declared.refusal.Refusal.TheVariants.{WrongForm}
use Rattle.forms.specs.Reads.{Told, then, spaced_in, numbers_in, inner_in, inners_in, begins, form_in, list_on, Listed}
use Rattle.forms.specs.declared.field.Allowed.{Allowed}
use Rattle.forms.specs.Fields.{Asked, asked, all_asked}
use Rattle.forms.specs.declared.field.Field.{Field}
use Rattle.std.proofs.lemmas.List.{drop_more, drop_all}

module _ {R : Type 0} (fill : R → ℕ → ℤ → R) (allowed : Allowed) (text : List ℕ) (count index : ℕ) (r : R) (at : ℕ) where
  turn : index < count → numbers_in fill allowed text (count - index) index r at ≡ then (spaced_in allowed text at) (λ n p. numbers_in fill allowed text (count - (index + 1)) (index + 1) (fill r index n) p)
  unfolding numbers_in
  turn h = let one : count - index ≡ suc (count - (index + 1)) = omega arith in ap (λ left. numbers_in fill allowed text left index r at) one

  pub numbers_more : (n : ℤ) (p : ℕ) → index < count → Ok (n, p) ≡ spaced_in allowed text at → numbers_in fill allowed text (count - (index + 1)) (index + 1) (fill r index n) p ≡ numbers_in fill allowed text (count - index) index r at
  numbers_more n p h e = sym (turn h ∙ ap (λ t. then t (λ n p. numbers_in fill allowed text (count - (index + 1)) (index + 1) (fill r index n) p)) (sym e))

  pub numbers_break : (e : Refusal) → index < count → Err e ≡ spaced_in allowed text at → Err e ≡ numbers_in fill allowed text (count - index) index r at
  numbers_break e h f = sym (turn h ∙ ap (λ t. then t (λ n p. numbers_in fill allowed text (count - (index + 1)) (index + 1) (fill r index n) p)) (sym f))

  pub numbers_end : count ≤ index → Ok (r, at) ≡ numbers_in fill allowed text (count - index) index r at
  unfolding numbers_in
  numbers_end h = let none : count - index ≡ 0 = omega arith in ap (λ left. numbers_in fill allowed text left index r at) (sym none)

module _ {R : Type 0} (fill : ℕ → R → ℕ → ℤ → R) (text : List ℕ) (fields : List Field) (i : ℕ) (r : R) (at : ℕ) where
  turn_inner : (d : Field) → i < length fields → inners_in fill text (all_asked (drop i fields)) i r at ≡ then (inner_in (fill i) (asked (get_or fields i d)) text r at) (λ s p. inners_in fill text (all_asked (drop (i + 1) fields)) (i + 1) s p)
  unfolding inners_in
  turn_inner d h = ap (λ l. inners_in fill text (all_asked l) i r at) (drop_more fields i d h)

  pub inners_more : (d : Field) (s : R) (p : ℕ) → i < length fields → Ok (s, p) ≡ inner_in (fill i) (asked (get_or fields i d)) text r at → inners_in fill text (all_asked (drop (i + 1) fields)) (i + 1) s p ≡ inners_in fill text (all_asked (drop i fields)) i r at
  inners_more d s p h f = sym (turn_inner d h ∙ ap (λ t. then t (λ s p. inners_in fill text (all_asked (drop (i + 1) fields)) (i + 1) s p)) (sym f))

  pub inners_break : (d : Field) (e : Refusal) → i < length fields → Err e ≡ inner_in (fill i) (asked (get_or fields i d)) text r at → Err e ≡ inners_in fill text (all_asked (drop i fields)) i r at
  inners_break d e h f = sym (turn_inner d h ∙ ap (λ t. then t (λ s p. inners_in fill text (all_asked (drop (i + 1) fields)) (i + 1) s p)) (sym f))

  pub inners_end : length fields ≤ i → Ok (r, at) ≡ inners_in fill text (all_asked (drop i fields)) i r at
  unfolding inners_in
  inners_end h = sym (ap (λ l. inners_in fill text (all_asked l) i r at) (drop_all i fields h))

-- a field that no kind has, where a list of fields is read past its end
abbrev pub no_field : Field
no_field = record { head = record { ref_ptr = (0, 0); now = [] }; count = 0; allowed = Any }

module _ {R : Type 0} (head : List ℕ) (fields : List Asked) (empty : R) (fill : ℕ → R → ℕ → ℤ → R) (text : List ℕ) (rs : List R) (at : ℕ) where
  pub list_end : (room : ℕ) → false ≡ begins head text at → Ok (rs, at) ≡ list_on head fields empty fill text room rs at
  unfolding list_on
  list_end zero e = rw (sym e)
  list_end (suc room) e = sym (rw (sym e, list_on))

  pub list_full : (len count : ℕ) → len ≤ count → true ≡ begins head text at → Err (WrongForm at) ≡ list_on head fields empty fill text (len - count) rs at
  unfolding list_on
  list_full len count h e =
      let none : len - count ≡ 0 = omega arith in
      sym (ap (λ room. list_on head fields empty fill text room rs at) none ∙ rw (sym e))

  turn_list : (len count : ℕ) → count < len → true ≡ begins head text at → list_on head fields empty fill text (len - count) rs at ≡ then (form_in head fields empty fill text at) (λ r p. list_on head fields empty fill text (len - (count + 1)) (rs ++ (r ∷ [])) p)
  unfolding list_on
  turn_list len count h e =
      let one : len - count ≡ suc (len - (count + 1)) = omega arith in
      ap (λ room. list_on head fields empty fill text room rs at) one ∙ rw (sym e, list_on)

  pub list_break : (len count : ℕ) (f : Refusal) → count < len → true ≡ begins head text at → Err f ≡ form_in head fields empty fill text at → Err f ≡ list_on head fields empty fill text (len - count) rs at
  list_break len count f h e g = sym (turn_list len count h e ∙ ap (λ t. then t (λ r p. list_on head fields empty fill text (len - (count + 1)) (rs ++ (r ∷ [])) p)) (sym g))

  pub list_more : (len count : ℕ) (r : R) (p : ℕ) → count < len → true ≡ begins head text at → Ok (r, p) ≡ form_in head fields empty fill text at → list_on head fields empty fill text (len - (count + 1)) (rs ++ (r ∷ [])) p ≡ list_on head fields empty fill text (len - count) rs at
  list_more len count r p h e g = sym (turn_list len count h e ∙ ap (λ t. then t (λ r p. list_on head fields empty fill text (len - (count + 1)) (rs ++ (r ∷ [])) p)) (sym g))

pub listed_err : {R : Type 0} (t : Told (List R)) (e : Refusal) (at : ℕ) (before after : List R) → Err e ≡ t → Listed t (Err e) at before after
listed_err t e at before after h = subst (λ u. Listed u (Err e) at before after) h refl

pub listed_ok : {R : Type 0} (t : Told (List R)) (rs : List R) (at count : ℕ) (before after : List R) → Ok (rs, at) ≡ t → count ≡ length rs → after ≡ rs ++ drop (length rs) before → Listed t (Ok count) at before after
listed_ok t rs at count before after h e f = subst (λ u. Listed u (Ok count) at before after) h (ap Ok e, refl, f)
