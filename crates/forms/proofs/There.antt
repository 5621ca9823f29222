-- What stands at a byte of a text whose rest is known.
use Rattle.std.proofs.Common.{◌≡◌, ℕ, ◌+◌, ◌<◌, eqb, List, [], ◌∷◌, ◌++◌, length, get_or, drop, Ok, Err, sym, refl, ap, ◌∙◌, add-zero, arith}
use Rattle.std.proofs.lemmas.List.{length-drop, get_or-drop, drop-drop, drop_at}
use Rattle.std.proofs.lemmas.Bool.{lt-ltb, eq-eqb}
use Rattle.forms.specs.Reads.{Told, then, stands, byte_in}

module _ (text : List ℕ) (at : ℕ) where
  pub behind_all : (xs ys : List ℕ) → drop at text ≡ xs ++ ys → drop (at + length xs) text ≡ ys
  behind_all xs ys e = sym (drop-drop (length xs) at text) ∙ ap (drop (length xs)) e ∙ drop_at xs ys (length xs) refl

  pub stands_is : (b : ℕ) (rest : List ℕ) → drop at text ≡ b ∷ rest → (c : ℕ) → stands c text at ≡ eqb b c
  stands_is b rest e c =
      let long = sym (length-drop at text) ∙ ap length e in
      let inside : at < length text = omega arith in
      let is : get_or text at 0 ≡ b = ap (λ i. get_or text i 0) (sym (add-zero at)) ∙ sym (get_or-drop at text 0 0) ∙ ap (λ l. get_or l 0 0) e in
      rw (lt-ltb at (length text) inside, is)

  pub byte_is : (c : ℕ) (rest : List ℕ) → drop at text ≡ c ∷ rest → byte_in c text at ≡ Ok (tt, at + 1)
  unfolding byte_in
  byte_is c rest e = rw (stands_is c rest e c ∙ eq-eqb c c refl)

  pub behind_one : (b : ℕ) (rest : List ℕ) → drop at text ≡ b ∷ rest → drop (at + 1) text ≡ rest
  behind_one b rest e = behind_all (b ∷ []) rest e

-- the same first part, and the same rest wherever the first part is read
pub then_same : {X Y : Type 0} (t u : Told X) (f g : X → ℕ → Told Y) → t ≡ u → ((x : X) (q : ℕ) → u ≡ Ok (x, q) → f x q ≡ g x q) → then t f ≡ then u g
then_same t (Ok r) f g e h = ap (λ v. then v f) e ∙ h r.0 r.1 refl
then_same t (Err r) f g e h = ap (λ v. then v f) e
