-- What fills a list with a row of results or of choices.
use Rattle.std.proofs.Common.{◌≡◌, ℕ, zero, suc, ◌+◌, ◌<◌, ◌≤◌, false, ltb, List, get_or, ℤ, pos, nat_abs, None, Option, sym, ◌∙◌, subst, zero-le, zero-add, add-zero, arith}
use denote.Param.Members.{Mut, Called}
use lib.ListN.{get_or-eq_default}
use native.Mathlib.Decide.{dec_lt}
use Rattle.std.proofs.lemmas.Bool.Decides.{nat_tests}
use Rattle.std.specs.Array.{IsFromFnResultFrom, IsFromFnResult}
use Rattle.margin.specs.HandedOut.{up_to}
use Rattle.margin.proofs.ByRule.{chosen}
use Rattle.layers.specs.Rows.{Holds, Lists}

pub nothing_beyond : {A : Type 0} (count : ℕ) (choice : ℕ → Option A) (k : ℕ) → count ≤ k → up_to count choice k ≡ None
unfolding up_to
nothing_beyond {A} count choice k h = chosen {A = Option A} (choice k) None (ltb k count) false (grind (arith, nat_tests))

-- what `array::from_fn` makes by a closure that changes nothing: each item has what a call's result has
module _ {F B : Type 0} (g : Mut F (ℕ × Unit {0}) B) (f : F) (P : ℕ → B → Type 0) (call : (i : ℕ) (y : B) (q : F) → Called g f (i, tt) y q → P i y × (q ≡ f)) where
  made_from : (ys : List B) (d : B) (i n k : ℕ) → IsFromFnResultFrom g f ys i n → k < n → P (i + k) (get_or ys (i + k) d)
  made_from ys d i zero k h less = absurd (omega arith)
  made_from ys d i (suc n) zero h less =
      let y = h.1 in
      subst (λ (j : ℕ). P j (get_or ys j d)) (sym (add-zero i)) (subst (P i) (sym (h.2.1 d)) (call i y h.0 h.3).0)
  made_from ys d i (suc n) (suc k) h less =
      let same : h.0 ≡ f = (call i h.1 h.0 h.3).1 in
      let rest : IsFromFnResultFrom g f ys (i + 1) n = subst (λ (q : F). IsFromFnResultFrom g q ys (i + 1) n) same h.4 in
      let next : i + 1 + k ≡ i + suc k = omega arith in
      subst (λ (j : ℕ). P j (get_or ys j d)) next (made_from ys d (i + 1) n k rest (omega arith))

  pub made : (ys : List B) (n : ℕ) (d : B) → IsFromFnResult g f ys n → (k : ℕ) → k < n → P k (get_or ys k d)
  made ys n d h k less = subst (λ (j : ℕ). P j (get_or ys j d)) (zero-add k) (made_from ys d 0 n k h.each less)

-- a row of results
pub row_made : {F : Type 0} (g : Mut F (ℕ × Unit {0}) ℤ) (f : F) (row : ℕ → ℤ) (size n m : ℕ) → ((i : ℕ) (y : ℤ) (q : F) → Called g f (i, tt) y q → ((i < m → y ≡ row i) × (nat_abs y ≤ size)) × (q ≡ f)) → m ≤ n → (ys : List ℤ) → IsFromFnResult g f ys n → Holds row size n m ys
row_made g f row size n m call few ys h = record {
  length_is = h.long;
  so_far = λ k less. (each k (omega arith)).0 less;
  sized = λ k. elim (dec_lt k n) [ yes less ↦ (each k less).1 | no more ↦ rw (beyond k (omega arith)) zero-le ];
}
  where
    beyond : (k : ℕ) → n ≤ k → get_or ys k (pos 0) ≡ pos 0
    beyond k more = get_or-eq_default ys (pos 0) (omega (arith, h.long))

    each : (k : ℕ) → k < n → (k < m → get_or ys k (pos 0) ≡ row k) × (nat_abs (get_or ys k (pos 0)) ≤ size)
    each = made g f (λ i y. (i < m → y ≡ row i) × (nat_abs y ≤ size)) call ys n (pos 0) h

-- a list of choices, where nothing is chosen beyond it
pub choices_made : {F A : Type 0} (g : Mut F (ℕ × Unit {0}) (Option A)) (f : F) (count n : ℕ) (choice : ℕ → Option A) → ((i : ℕ) (y : Option A) (q : F) → Called g f (i, tt) y q → (y ≡ up_to count choice i) × (q ≡ f)) → count ≤ n → (ys : List (Option A)) → IsFromFnResult g f ys n → Lists (up_to count choice) ys
choices_made g f count n choice call few ys h k = elim (dec_lt k n) [
  | yes less ↦ made g f (λ i y. y ≡ up_to count choice i) call ys n None h k less
  | no more ↦ get_or-eq_default ys None (omega (arith, h.long)) ∙ sym (nothing_beyond count choice k (omega arith))
]
