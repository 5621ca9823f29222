-- The reader's answers, by cases.
use Rattle.std.proofs.Common.{◌≡◌, ℕ, ◌+◌, ◌-◌, ◌<◌, ◌≤◌, Bool, true, false, eqb, List, [], ◌∷◌, length, take, drop, ℤ, Ok, Err, Result, sym, ap, ◌∙◌, arith}
use Rattle.std.proofs.lemmas.List.{take_rest, length-drop}
use Rattle.std.proofs.lemmas.Bool.{ltb-true, and_parts, true≢false}
use Rattle.terms.specs.declared.refusal.Refusal.{Refusal}
use Rattle.terms.specs.declared.refusal.Refusal.TheVariants.{Malformed, OutsideField, WrongForm}
use Rattle.text.specs.Numbers.{number_at}
use Rattle.std.specs.Result.{IsErrAnd, is_ok}
use Rattle.std.proofs.lemmas.Result.{err_from_is_err_and}
use Rattle.forms.specs.declared.reader.Reader.{Reader}
use Rattle.forms.specs.Moves.{Moves, holding}
use Rattle.forms.specs.Reads.{Told, told, then, given, is_head, spaces, stands, behind, byte_in, number_in, field_in, open_in, fits_head, head_in, begins, outer_in, close_in}
use Rattle.forms.specs.declared.field.Allowed.{Allowed}
use Rattle.forms.specs.Fields.{allows, Asked}

pub stands_inside : (c : ℕ) (text : List ℕ) (at : ℕ) → stands c text at ≡ true → at < length text
stands_inside c text at e = ltb-true at (length text) (and_parts _ _ e).0

pub byte_here : (c : ℕ) (text : List ℕ) (at : ℕ) → true ≡ stands c text at → Ok (tt, at + 1) ≡ byte_in c text at
unfolding byte_in
byte_here c text at e = rw (sym e)

pub byte_not : (c : ℕ) (text : List ℕ) (at : ℕ) → false ≡ stands c text at → Err (Malformed at) ≡ byte_in c text at
unfolding byte_in
byte_not c text at e = rw (sym e)

module _ (text : List ℕ) (at : ℕ) where
  pub number_is : (r : Result (ℤ × ℕ) Refusal) → r ≡ number_at (take (length text - at) (drop at text)) → behind at r ≡ number_in text at
  unfolding number_in
  number_is r e = ap (behind at) (e ∙ ap number_at (take_rest text at))

  pub number_fails : (r : Result (ℤ × ℕ) Refusal) → r ≡ number_at (take (length text - at) (drop at text)) → is_ok r ≡ false → Err (Malformed at) ≡ number_in text at
  number_fails (Ok x) e f = absurd (true≢false f)
  number_fails (Err g) e f = number_is (Err g) e

  pub field_ok : (allowed : Allowed) (n : ℤ) (q : ℕ) → Ok (n, q) ≡ number_in text at → allows allowed n ≡ true → Ok (n, q) ≡ field_in allowed text at
  unfolding field_in
  field_ok allowed n q e w = rw (sym e, w)

  pub field_out : (allowed : Allowed) (n : ℤ) (q : ℕ) → Ok (n, q) ≡ number_in text at → allows allowed n ≡ false → Err (OutsideField at) ≡ field_in allowed text at
  unfolding field_in
  field_out allowed n q e w = rw (sym e, w)

  pub field_err : (allowed : Allowed) (f : Refusal) → Err f ≡ number_in text at → Err f ≡ field_in allowed text at
  unfolding field_in
  field_err allowed f e = rw (sym e)

-- something read, and then more
pub then_ok : {X Y : Type 0} (t : Told X) (x : X) (q : ℕ) (more : X → ℕ → Told Y) (u : Told Y) → Ok (x, q) ≡ t → u ≡ more x q → u ≡ then t more
then_ok t x q more u e f = f ∙ ap (λ r. then r more) e

pub then_err : {X Y : Type 0} (t : Told X) (e : Refusal) (more : X → ℕ → Told Y) → Err e ≡ t → Err e ≡ then t more
then_err t e more f = ap (λ r. then r more) f

-- a last step that answers nothing of its own, behind something that was read into a list
pub then_last : {R : Type 0} (r : Result (Unit {0}) Refusal) (xs : List R) (at : ℕ) (t : Told (Unit {0})) → told r at ≡ t → told (holding r xs) at ≡ then t (λ _ q. Ok (xs, q))
then_last (Ok x) xs at t e = ap (λ u. then u (λ _ q. Ok (xs, q))) e
then_last (Err f) xs at t e = ap (λ u. then u (λ _ q. Ok (xs, q))) e

module _ (text : List ℕ) (at : ℕ) where
  pub open_missing : true ≡ stands 41 text at → Err (WrongForm at) ≡ open_in text at
  unfolding open_in
  open_missing e = rw (sym e)

  pub open_more : (t : Told ℕ) → false ≡ stands 41 text at → t ≡ then (byte_in 32 text at) (λ _ p. then (byte_in 40 text p) (λ _ q. Ok (p, q))) → t ≡ open_in text at
  unfolding open_in
  open_more t e f = f ∙ rw (sym e)

module _ (a : Asked) (bracket : ℕ) (text : List ℕ) (at : ℕ) where
  pub head_fits : true ≡ fits_head a (drop at text) → Ok (tt, at + length a.head) ≡ head_in a bracket text at
  unfolding head_in
  head_fits e = rw (sym e)

  pub head_wrong : false ≡ fits_head a (drop at text) → Err (WrongForm bracket) ≡ head_in a bracket text at
  unfolding head_in
  head_wrong e = rw (sym e)

head_short : (h bs : List ℕ) → is_head h bs ≡ true → length h ≤ length bs
head_short [] bs e = omega arith
head_short (c ∷ h) [] e = absurd (true≢false (sym e))
head_short (c ∷ h) (b ∷ bs) e = omega (arith, head_short h bs (and_parts (eqb c b) (is_head h bs) e).1)

pub head_within : (a : Asked) (text : List ℕ) (at : ℕ) → true ≡ fits_head a (drop at text) → at ≤ length text → at + length a.head ≤ length text
head_within a text at e inside =
    let p = and_parts (is_head a.head (drop at text)) (eqb (spaces 0 (drop at text)) a.count) (sym e) in
    omega (arith, simp length-drop at (head_short a.head (drop at text) p.0))

module _ (text : List ℕ) (at : ℕ) where
  pub close_too_many : true ≡ stands 32 text at → Err (WrongForm (at + 1)) ≡ close_in text at
  unfolding close_in
  close_too_many e = rw (sym e)

  pub close_more : (t : Told (Unit {0})) → false ≡ stands 32 text at → t ≡ then (byte_in 41 text at) (λ _ p. byte_in 10 text p) → t ≡ close_in text at
  unfolding close_in
  close_more t e f = f ∙ rw (sym e)

module _ (head text : List ℕ) (at : ℕ) where
  pub outer_fits : true ≡ begins head text at → (q : ℕ) → q ≡ at + 1 + length head → Ok (tt, q) ≡ outer_in head text at
  unfolding outer_in
  outer_fits e q f = ap (λ n. Ok (tt, n)) f ∙ rw (sym e)

  pub outer_wrong : false ≡ begins head text at → Err (WrongForm at) ≡ outer_in head text at
  unfolding outer_in
  outer_wrong e = rw (sym e)

  pub outer_within : true ≡ begins head text at → at + 1 + length head ≤ length text
  outer_within e =
      let p = and_parts (stands 40 text at) (is_head head (drop (at + 1) text)) (sym e) in
      let inside = stands_inside 40 text at p.0 in
      omega (arith, simp length-drop at (head_short head (drop (at + 1) text) p.1))

pub given_yes : {X : Type 0} (t : Bool) (e : Refusal) (u v : Told X) → true ≡ t → u ≡ v → u ≡ given t e v
given_yes t e u v h f = f ∙ ap (λ b. given b e v) h

pub given_no : {X : Type 0} (t : Bool) (e : Refusal) (v : Told X) → false ≡ t → Err e ≡ given t e v
given_no t e v h = ap (λ b. given b e v) h

-- a step that ends where one within it was refused
pub stopped : {X : Type 0} {reads : List ℕ → ℕ → Told X} {before after : Reader} (r : Result X Refusal) (e : Refusal) → IsErrAnd r (λ f. f ≡ e) → Moves reads before after (Err e) → Moves reads before after r
stopped r e h m = let p = err_from_is_err_and r h in rw (p.1, p.2) m

pub stopped_list : {X R : Type 0} {reads : List ℕ → ℕ → Told (List R)} {before after : Reader} (r : Result X Refusal) (xs : List R) (e : Refusal) → IsErrAnd r (λ f. f ≡ e) → Moves reads before after (Err e) → Moves reads before after (holding r xs)
stopped_list r xs e h m = let p = err_from_is_err_and r h in rw (p.1, p.2) m
