-- What the search finds in a row, as the layers speak of it.
use Rattle.std.proofs.Common.{◌≡◌, ℕ, zero, suc, ◌+◌, ◌-◌, ◌<◌, ◌≤◌, Bool, true, false, List, [], ◌∷◌, length, get_or, take, drop, ℤ, pos, nat_abs, Some, Option, unwrap_or, refl, ap, ◌∙◌, ap₂, arith, drop-cons}
use lib.Signed.{le_z}
use Rattle.order.specs.Orders.{lesser_of, least_from, first_least}
use Rattle.margin.specs.Sums.{least, of3, least3}
use Rattle.margin.proofs.SumLaws.{least3_is}

pub three : (a b c : ℤ) → first_least le_z (a ∷ b ∷ c ∷ []) ≡ Some (least3 a b c)
unfolding least_from least least3
three a b c = refl

-- a least item has any size that all the items have
pub least_size : (row : ℕ → ℤ) (size a n : ℕ) → ((i : ℕ) → nat_abs (row i) ≤ size) → nat_abs (least le_z row a n).0 ≤ size
unfolding least
least_size row size a zero h = h a
least_size row size a (suc n) h = by (least_size row size (suc a) n h) (le_z (row a) (least le_z row (suc a) n).0)
  where
    by : nat_abs (least le_z row (suc a) n).0 ≤ size → (b : Bool) → nat_abs (elim b as (λ c. ℤ × ℕ) [ true ↦ (row a, a) | false ↦ least le_z row (suc a) n ]).0 ≤ size
    by later true = h a
    by later false = later

pub three_size : (a b c : ℤ) (n : ℕ) → nat_abs a ≤ n → nat_abs b ≤ n → nat_abs c ≤ n → nat_abs (least3 a b c).0 ≤ n
unfolding least3
three_size a b c n ha hb hc = least_size (of3 a b c) n 0 2 each
  where
    each : (i : ℕ) → nat_abs (of3 a b c i) ≤ n
    each zero = ha
    each (suc zero) = hb
    each (suc (suc i)) = hc

pub three_place : (a b c : ℤ) → (least3 a b c).1 ≤ 2
three_place a b c = (least3_is a b c).to

-- ---- a part of a list, of any items
module _ {A : Type 0} (at_most : A → A → Bool) where
  -- a place is never before the start
  least_from_lem : (row : ℕ → A) (a n : ℕ) → a ≤ (least at_most row a n).1
  unfolding least
  least_from_lem row a zero = omega arith
  least_from_lem row a (suc n) = by (least_from_lem row (suc a) n) (at_most (row a) (least at_most row (suc a) n).0)
    where
      by : suc a ≤ (least at_most row (suc a) n).1 → (b : Bool) → a ≤ (elim b as (λ c. A × ℕ) [ true ↦ (row a, a) | false ↦ least at_most row (suc a) n ]).1
      by later true = omega arith
      by later false = omega arith

  at_place : A → ℕ → Option (A × ℕ)
  at_place x k = Some (x, k)

  -- a place that is counted from another start
  moved : (x : A) (a j : ℕ) (later : A × ℕ) → suc a ≤ later.1 → (b : Bool) → ◌≡◌ {A = Option (A × ℕ)} (Some (elim b [ true ↦ (x, j) | false ↦ (later.0, later.1 - suc a + suc j) ])) (Some ((elim b as (λ c. A × ℕ) [ true ↦ (x, a) | false ↦ later ]).0, (elim b as (λ c. A × ℕ) [ true ↦ (x, a) | false ↦ later ]).1 - a + j))
  unfolding at_place
  moved x a j later h true = ap (at_place x) (omega arith)
  moved x a j later h false = ap (at_place later.0) (omega arith)

  -- the least between two places of a list, as the search finds it in that part
  part_least : (d : A) (xs : List A) (base a n j : ℕ) → base + a + n < length xs → let r = least at_most (λ q. get_or xs (base + q) d) a n in least_from at_most j (take (suc n) (drop (base + a) xs)) ≡ Some (r.0, r.1 - a + j)
  unfolding least_from least at_place
  part_least d xs base a zero j h =
      ap (λ (ys : List A). least_from at_most j (take 1 ys)) (drop-cons xs (base + a) d (omega arith)) ∙ ap (λ (k : ℕ). at_place (get_or xs (base + a) d) k) (omega arith)
  part_least d xs base a (suc n) j h =
      ap (λ (ys : List A). least_from at_most j (take (suc (suc n)) ys)) (drop-cons xs (base + a) d (omega arith))
      ∙ ap (λ (k : ℕ). Some (lesser_of at_most (x, j) (least_from at_most (suc j) (take (suc n) (drop k xs))))) next
      ∙ ap (λ (later : Option (A × ℕ)). Some (lesser_of at_most (x, j) later)) (part_least d xs base (suc a) n (suc j) (omega arith))
      ∙ moved x a j (least at_most (λ q. get_or xs (base + q) d) (suc a) n) (least_from_lem (λ q. get_or xs (base + q) d) (suc a) n) (at_most x (least at_most (λ q. get_or xs (base + q) d) (suc a) n).0)
    where
      x : A
      x = get_or xs (base + a) d

      next : suc (base + a) ≡ base + suc a
      next = omega arith

  pub found_between : (d : A) (xs : List A) (base start end : ℕ) (o : Option (A × ℕ)) (other : A × ℕ) (x : A) (i : ℕ) → start ≤ end → base + end < length xs → o ≡ first_least at_most (take (base + end + 1 - (base + start)) (drop (base + start) xs)) → ◌≡◌ {A = A × ℕ} (x, i) (unwrap_or o other) → ◌≡◌ {A = A × ℕ} (x, start + i) (least at_most (λ q. get_or xs (base + q) d) start (end - start))
  found_between d xs base start end o other x i ordered within found is =
      let r = least at_most (λ q. get_or xs (base + q) d) start (end - start) in
      let from = least_from_lem (λ q. get_or xs (base + q) d) start (end - start) in
      let count : base + end + 1 - (base + start) ≡ suc (end - start) = omega arith in
      let there : first_least at_most (take (base + end + 1 - (base + start)) (drop (base + start) xs)) ≡ Some (r.0, r.1 - start + 0) = ap (λ (k : ℕ). first_least at_most (take k (drop (base + start) xs))) count ∙ part_least d xs base start (end - start) 0 (omega arith) in
      let same : ◌≡◌ {A = A × ℕ} (x, i) (r.0, r.1 - start + 0) = is ∙ ap (λ (p : Option (A × ℕ)). unwrap_or p other) (found ∙ there) in
      let place : i ≡ r.1 - start + 0 = ap (λ (t : A × ℕ). t.1) same in
      ap₂ pair (ap (λ (t : A × ℕ). t.0) same) (omega arith)
    where
      pair : A → ℕ → A × ℕ
      pair y k = (y, k)

pub size_between : (xs : List ℤ) (base start more : ℕ) (r : ℤ × ℕ) → r ≡ least le_z (λ q. get_or xs (base + q) (pos 0)) start more → (n : ℕ) → ((i : ℕ) → nat_abs (get_or xs i (pos 0)) ≤ n) → nat_abs r.0 ≤ n
size_between xs base start more r e n h = rw e (least_size (λ q. get_or xs (base + q) (pos 0)) n start more (λ i. h (base + i)))
