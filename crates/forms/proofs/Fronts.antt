-- The head at the front of a text, and the spaces before its closing bracket, in the words of the library.
use Rattle.std.proofs.Common.{◌≡◌, ℕ, suc, ◌+◌, ◌<◌, ◌≤◌, Bool, true, false, not, ◌&&◌, cond, eqb, List, [], ◌∷◌, length, take, get_or, refl, ap, ◌∙◌, sym, arith, count_by}
use Rattle.std.specs.List.{starts_with, prefix_len, take_while, filter}
use Rattle.std.specs.Char.{is_ascii_lowercase}
use Rattle.std.proofs.lemmas.Bool.{true≢false}
use Rattle.std.proofs.lemmas.List.Sums.{sum_by-cons, length-filter}
use Rattle.forms.specs.Reads.{is_head, spaces}

-- another head stands there
pub head_other : (hs bs : List ℕ) → starts_with eqb bs hs ≡ false → is_head hs bs ≡ false
head_other [] bs e = absurd (true≢false e)
head_other (h ∷ hs) [] e = refl
head_other (h ∷ hs) (b ∷ bs) e = at_first (eqb h b) (head_other hs bs) e
  where
    at_first : (t : Bool) → (starts_with eqb bs hs ≡ false → is_head hs bs ≡ false) → (t && starts_with eqb bs hs) ≡ false → (t && is_head hs bs) ≡ false
    at_first true more e = more e
    at_first false more e = refl

-- the head stands there, and r says whether a letter goes on behind it
pub head_ends : (hs bs : List ℕ) (r : Bool) → starts_with eqb bs hs ≡ true → (length bs ≤ length hs → r ≡ false) → (length hs < length bs → r ≡ is_ascii_lowercase (get_or bs (length hs) 0)) → not r ≡ is_head hs bs
head_ends [] [] r e f g = ap not (f (omega arith))
head_ends [] (b ∷ bs) r e f g = ap not (g (omega arith))
head_ends (h ∷ hs) [] r e f g = absurd (true≢false (sym e))
head_ends (h ∷ hs) (b ∷ bs) r e f g = at_first (eqb h b) (λ t. head_ends hs bs r t (λ k. f (omega arith)) (λ k. g (omega arith))) e
  where
    at_first : (t : Bool) → (starts_with eqb bs hs ≡ true → not r ≡ is_head hs bs) → (t && starts_with eqb bs hs) ≡ true → not r ≡ (t && is_head hs bs)
    at_first true more e = more e
    at_first false more e = absurd (true≢false (sym e))

abbrev behind : List ℕ → ℕ
behind bs = count_by (λ b. eqb b 32) (take_while (λ b. not (eqb b 41)) bs)

-- so many spaces stand before the closing bracket
pub spaces_counted : (n : ℕ) (bs : List ℕ) → spaces n bs ≡ n + count_by (λ b. eqb b 32) (take_while (λ b. not (eqb b 41)) bs)
spaces_counted n [] = omega arith
spaces_counted n (b ∷ bs) =
    let end = prefix_len (λ b. not (eqb b 41)) bs in
    at_first (eqb b 41) (eqb b 32) (spaces_counted n bs) (spaces_counted (n + 1) bs) ∙ ap (λ m. n + m) (sym (front (eqb b 41)))
  where
    at_first : (t u : Bool) → spaces n bs ≡ n + behind bs → spaces (n + 1) bs ≡ n + 1 + behind bs → elim t [ true ↦ n | false ↦ elim u [ true ↦ spaces (n + 1) bs | false ↦ spaces n bs ] ] ≡ n + cond t 0 (cond u 1 0 + behind bs)
    at_first true u h k = omega arith
    at_first false true h k = omega (arith, k)
    at_first false false h k = omega (arith, h)

    front : (t : Bool) → count_by (λ b. eqb b 32) (take (cond (not t) (1 + prefix_len (λ b. not (eqb b 41)) bs) 0) (b ∷ bs)) ≡ cond t 0 (cond (eqb b 32) 1 0 + behind bs)
    front true = refl
    front false =
        let end = prefix_len (λ b. not (eqb b 41)) bs in
        let one : 1 + end ≡ suc end = omega arith in
        ap (λ k. count_by (λ b. eqb b 32) (take k (b ∷ bs))) one ∙ sum_by-cons (λ b. cond (eqb b 32) 1 0) b (take end bs)

-- likewise, as a chain over the bytes counts them
pub counts_spaces : (n : ℕ) (bs : List ℕ) → n ≡ length (filter (λ b. eqb b 32) (take_while (λ b. not (eqb b 41)) bs)) → n ≡ spaces 0 bs
counts_spaces n bs e = let counted = length-filter (λ b. eqb b 32) (take_while (λ b. not (eqb b 41)) bs) in omega (arith, e, counted, spaces_counted 0 bs)
