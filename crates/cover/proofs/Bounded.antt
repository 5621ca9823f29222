-- The sizes of small positions and orders, at every place.
use Rattle.std.proofs.Common.{◌≡◌, ℕ, suc, ◌<◌, ◌≤◌, Bool, true, false, not, ◌&&◌, leb, List, [], ◌∷◌, length, get_or, pos, negsuc, nat_abs, is_some, Some, None, Option, sym, refl, subst, ⊎_elim, zero-le}
use Rattle.std.proofs.lemmas.List.{get_or_past}
use Rattle.std.proofs.lemmas.Bool.{and_parts, leb-true, cases_lt, false≢true}
use Rattle.std.specs.List.{list_all}
use Rattle.terms.specs.Cards.{within}
use Rattle.terms.specs.Judging.{failing}
use Rattle.terms.proofs.Places.{none_fails}
use Rattle.terms.proofs.Sizes.{range_size, around_0_size}
use Rattle.margin.specs.declared.book.Open.{Open}
use Rattle.margin.specs.declared.book.Position.{Position}
use Rattle.cells.specs.Empty.{no_position, no_order}
use Rattle.cover.specs.Small.{small_position, small_order, small_book}

-- whether each item passes is whether none fails
pub none_failing : {X : Type 0} (test : X → Bool) (i : ℕ) (xs : List X) → list_all test xs ≡ not (is_some (failing (λ _. test) i xs))
unfolding failing
none_failing test i [] = refl
none_failing test i (x ∷ xs) = go (none_failing test (suc i) xs) (test x)
  where
    go : list_all test xs ≡ not (is_some (failing (λ _. test) (suc i) xs)) → (b : Bool) → (b && list_all test xs) ≡ not (is_some (elim b as (λ _. Option ℕ) [ true ↦ failing (λ _. test) (suc i) xs | false ↦ Some i ]))
    go later true = later
    go later false = refl

none_of : (o : Option ℕ) → not (is_some o) ≡ true → o ≡ None
none_of None e = refl
none_of (Some k) e = absurd (false≢true e)

position_sizes : (p : Position) → small_position p ≡ true → (nat_abs p.net ≤ 10000) × (nat_abs p.cost ≤ 72057594037927936)
position_sizes p h =
    let t = and_parts (within (negsuc 9999) (pos 10000) p.net) (within (negsuc 72057594037927935) (pos 72057594037927936) p.cost) h in
    (around_0_size 9999 p.net t.0, around_0_size 72057594037927935 p.cost t.1)

order_sizes : (o : Open) → small_order o ≡ true → (nat_abs o.left ≤ 10000) × (nat_abs o.limit ≤ 10000000)
order_sizes o h =
    let t = and_parts (within (negsuc 9999) (pos 10000) o.left) (within (pos 0) (pos 10000000) o.limit) h in
    (around_0_size 9999 o.left t.0, range_size 10000000 o.limit t.1)

-- what holds of each item of a list and of what is read beyond it holds at every place
everywhere : {X : Type 0} (P : X → Type 0) (xs : List X) (d : X) → P d → ((k : ℕ) → k < length xs → P (get_or xs k d)) → (k : ℕ) → P (get_or xs k d)
everywhere P xs d beyond each k =
    ⊎_elim (each k) (λ past. subst P (sym (get_or_past xs k d past)) beyond) (cases_lt k (length xs))

module _ (positions : List Position) (orders : List Open) (small : small_book positions orders ≡ true) where
  parts : (leb (length orders) 32 ≡ true) × ((not (is_some (failing (λ _. small_position) 0 positions)) && not (is_some (failing (λ _. small_order) 0 orders))) ≡ true)
  parts = and_parts (leb (length orders) 32) _ small

  lists : (not (is_some (failing (λ _. small_position) 0 positions)) ≡ true) × (not (is_some (failing (λ _. small_order) 0 orders)) ≡ true)
  lists = and_parts _ _ parts.1

  pub few : length orders ≤ 32
  few = leb-true (length orders) 32 parts.0

  position : (l : ℕ) → l < length positions → small_position (get_or positions l no_position) ≡ true
  position = none_fails (λ _. small_position) no_position positions (none_of _ lists.0)

  order : (i : ℕ) → i < length orders → small_order (get_or orders i no_order) ≡ true
  order = none_fails (λ _. small_order) no_order orders (none_of _ lists.1)

  pub net_sizes : (l : ℕ) → nat_abs (get_or positions l no_position).net ≤ 10000
  net_sizes =
      everywhere (λ p. nat_abs p.net ≤ 10000) positions no_position zero-le (λ l h. (position_sizes (get_or positions l no_position) (position l h)).0)

  pub cost_sizes : (l : ℕ) → nat_abs (get_or positions l no_position).cost ≤ 72057594037927936
  cost_sizes =
      everywhere (λ p. nat_abs p.cost ≤ 72057594037927936) positions no_position zero-le (λ l h. (position_sizes (get_or positions l no_position) (position l h)).1)

  pub left_sizes : (i : ℕ) → nat_abs (get_or orders i no_order).left ≤ 10000
  left_sizes =
      everywhere (λ o. nat_abs o.left ≤ 10000) orders no_order zero-le (λ i h. (order_sizes (get_or orders i no_order) (order i h)).0)

  pub limit_sizes : (i : ℕ) → nat_abs (get_or orders i no_order).limit ≤ 10000000
  limit_sizes =
      everywhere (λ o. nat_abs o.limit ≤ 10000000) orders no_order zero-le (λ i h. (order_sizes (get_or orders i no_order) (order i h)).1)
