-- Copying a part of each item of a list into the front of another list, place by place.
use Rattle.std.proofs.Common.{◌≡◌, ℕ, zero, suc, ◌+◌, ◌<◌, ◌≤◌, List, [], ◌∷◌, ◌++◌, map, length, get_or, take, drop, set, sym, refl, ap, ◌∙◌, subst, arith}
use Rattle.std.proofs.lemmas.List.{append_assoc, length-append, length-take-le, set_split, take_at}

pub copied : {X Y : Type 0} (part : X → Y) (to : List Y) (from : List X) (d : X) (e : Y) → length from ≤ length to → ((i : ℕ) → i < length from → get_or to i e ≡ part (get_or from i d)) → take (length from) to ≡ map part from
copied part to [] d e long here = refl
copied part [] (f ∷ fs) d e long here = absurd (omega arith)
copied part (t ∷ ts) (f ∷ fs) d e long here =
    let head : t ≡ part f = here 0 (omega arith) in
    let later : take (length fs) ts ≡ map part fs = copied part ts fs d e (omega arith) (λ i less. here (suc i) (omega arith)) in
    cc

-- a front of as many places as a list that is lent
pub front_is : {X Y : Type 0} (part : X → Y) (from lent : List X) (to : List Y) (n : ℕ) → lent ≡ from → n ≡ length from → take (length lent) to ≡ map part lent → take n to ≡ map part from
front_is part from lent to n e f h = ap (λ i. take i to) f ∙ subst (λ (xs : List _). take (length xs) to ≡ map part xs) e h

-- one more behind a front
pub one_added : {X : Type 0} (to front : List X) (n : ℕ) (x : X) → n < length to → take n to ≡ front → take (n + 1) (set to n x) ≡ front ++ x ∷ []
one_added to front n x inside e =
    ap (λ xs. take (n + 1) xs) (set_split to n x inside ∙ ap (λ xs. xs ++ x ∷ drop (suc n) to) e ∙ sym (append_assoc front (x ∷ []) (drop (suc n) to)))
    ∙ take_at (front ++ x ∷ []) (drop (suc n) to) (n + 1) (length-append front (x ∷ []) ∙ ap (λ (k : ℕ). k + 1) (ap length (sym e) ∙ length-take-le n to (omega arith)))

-- what holds at every place of a list and of one more item
pub more_at : {X : Type 0} (P : X → Type 0) (d : X) (xs : List X) (x : X) → P d → ((i : ℕ) → P (get_or xs i d)) → P x → (i : ℕ) → P (get_or (xs ++ x ∷ []) i d)
more_at P d [] x none all this zero = this
more_at P d [] x none all this (suc i) = none
more_at P d (y ∷ ys) x none all this zero = all 0
more_at P d (y ∷ ys) x none all this (suc i) = more_at P d ys x none (λ k. all (suc k)) this i
