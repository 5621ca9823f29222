-- The number reader's two ways, by the first byte.
use Rattle.std.proofs.Common.{◌≡◌, ℕ, ◌-◌, ◌≤◌, List, [], ◌∷◌, length, get_or, take, drop, sym, ap, ◌∙◌, arith}
use Rattle.std.proofs.lemmas.List.{take_rest}
use Rattle.std.proofs.lemmas.Bool.{eq-eqb, ne_eqb}
use Rattle.text.specs.Numbers.{Answer, negative_at, natural_at, number_at}

pub number_plain : (b : ℕ) (bs : List ℕ) → (b ≡ 45 → ⊥) → number_at (b ∷ bs) ≡ natural_at b bs
unfolding number_at
number_plain b [] e = rw (ne_eqb b 45 e, number_at)
number_plain b (c ∷ cs) e = rw (ne_eqb b 45 e, number_at)

pub number_minus : (b c : ℕ) (cs : List ℕ) → b ≡ 45 → number_at (b ∷ c ∷ cs) ≡ negative_at c cs
unfolding number_at
number_minus b c cs e = rw (eq-eqb b 45 e, number_at)

-- the rest as the slice pattern has it
pub with_minus : (xs : List ℕ) (r : Answer) → 2 ≤ length xs → get_or xs 0 0 ≡ 45 → r ≡ negative_at (get_or xs 1 0) (take (length xs - 2) (drop 2 xs)) → r ≡ number_at xs
with_minus [] r h e p = absurd (omega arith)
with_minus (b ∷ []) r h e p = absurd (omega arith)
with_minus (b ∷ c ∷ cs) r h e p = p ∙ ap (negative_at c) (take_rest (b ∷ c ∷ cs) 2) ∙ sym (number_minus b c cs e)

pub with_none : (xs : List ℕ) (r : Answer) → 1 ≤ length xs → (get_or xs 0 0 ≡ 45 → ⊥) → r ≡ natural_at (get_or xs 0 0) (take (length xs - 1) (drop 1 xs)) → r ≡ number_at xs
with_none [] r h e p = absurd (omega arith)
with_none (b ∷ bs) r h e p = p ∙ ap (natural_at b) (take_rest (b ∷ bs) 1) ∙ sym (number_plain b bs e)
