-- A strip that is made means what its rule says: its count is a number of lines, its reach lies within the bound, and no price is cut.
use Rattle.std.proofs.Common.{◌≡◌, ℕ, zero, suc, ◌+◌, ◌*◌, ◌<◌, ◌≤◌, max, Bool, true, false, eqb, ltb, leb, List, [], ◌∷◌, length, get_or, ℤ, pos, ◌+ℤ◌, ◌-ℤ◌, ◌*ℤ◌, neg_ℤ, nat_abs, Ok, fold, sym, ap, ◌∙◌, subst, zero-le, le_trans, le_refl, mul-le-mul_right, mul-le-mul, arith}
use Rattle.std.proofs.lemmas.Int.{ints}
use Rattle.std.proofs.lemmas.Bool.{le-leb, leb-true, and_from, and_parts}
use Rattle.terms.specs.Cards.{within, future_fits}
use Rattle.terms.specs.Judging.{failing}
use Rattle.terms.specs.Halves.{half_of, half_size, steps_of, points}
use Rattle.terms.specs.declared.cards.Line.{Line}
use Rattle.terms.specs.declared.half.Half.{Half}
use Rattle.terms.specs.declared.half.Half.TheVariants.{One, Two, Four, Eight}
use Rattle.terms.specs.declared.refusal.Refusal.TheVariants.{BadCard, WrongShape}
use Rattle.banks.specs.Meanings.{most_reach}
use Rattle.terms.specs.Checks.{unless, decided}
use Rattle.banks.specs.Outcomes.{on_half, making}
use Rattle.banks.specs.Soundness.{size_product, size_neg}
use Rattle.banks.specs.Strips.{quote_of, quoted, quote_reach, strip_reach, no_line, carded, strip_of, strip_judged, strip_made, no_quote, strip_meaning, Strips}
use Rattle.banks.specs.declared.strip.Quote.{Quote}
use Rattle.banks.proofs.Bounded.{bounded_is, grid_same}
use Rattle.terms.proofs.Sizes.{future_sizes}
use Rattle.banks.proofs.Fields.{quote_sizes}
use Rattle.terms.proofs.Passed.{pass_unless, pass_places, passed_unless, passed_places}
use Rattle.banks.proofs.Halved.{passed_half}
use Rattle.terms.proofs.Places.{all_pass, none_fails}

-- ---- sizes

sum_size : (a b : ℤ) → nat_abs (a +ℤ b) ≤ nat_abs a + nat_abs b
sum_size a b = omega (arith, ints)

from_middle_size : (half : Half) (point : ℕ) → point < points half → nat_abs (pos point -ℤ pos (half_size half)) ≤ half_size half
from_middle_size half point h = omega (arith, ints)

whole_move : (half : Half) (x : ℕ) → half_size half * (steps_of half * x) ≡ 8 * x
whole_move One x = omega arith
whole_move Two x = omega arith
whole_move Four x = omega arith
whole_move Eight x = omega arith

pub reach_fits : (half : Half) (l : Line) → future_fits l ≡ true → quote_reach half (quote_of half l) ≤ most_reach
reach_fits half l h =
    let s = future_sizes l h in
    let q = quote_sizes half l h in
    let x : ℕ = nat_abs l.rates.r1 * nat_abs l.spot in
    omega (arith, q.base, q.change, whole_move half x, mul-le-mul s.r1 s.spot)

-- on the grid a price lies within its future's reach
quoted_size : (half : Half) (q : Quote) (point column : ℕ) → point < points half → nat_abs (quoted half q point column) ≤ quote_reach half q
quoted_size half q point column on = go (ltb column 3) (eqb column 3) (eqb column 4)
  where
    moved : ℤ
    moved = (pos point -ℤ pos (half_size half)) *ℤ pos q.step

    moved_size : nat_abs moved ≤ half_size half * q.step
    moved_size =
        rw (size_product (pos point -ℤ pos (half_size half)) (pos q.step)) (mul-le-mul_right q.step (from_middle_size half point on))

    go : (a b c : Bool) → nat_abs (elim a [ true ↦ pos q.base +ℤ moved | false ↦ elim b [ true ↦ neg_ℤ (pos q.change) | false ↦ elim c [ true ↦ pos q.change | false ↦ pos 0 ] ] ]) ≤ quote_reach half q
    go true b c = omega (arith, sum_size (pos q.base) moved, moved_size)
    go false true c = omega (arith, size_neg q.change)
    go false false true = omega arith
    go false false false = zero-le

-- ---- the greatest of a list

module _ {X : Type 0} (size : X → ℕ) where
  from_start : (a : ℕ) (xs : List X) → a ≤ fold (λ most x. max most (size x)) a xs
  from_start a [] = le_refl a
  from_start a (x ∷ xs) = le_trans (omega arith) (from_start (max a (size x)) xs)

  each_below : (a : ℕ) (xs : List X) (k : ℕ) (d : X) → k < length xs → size (get_or xs k d) ≤ fold (λ most x. max most (size x)) a xs
  each_below a [] k d h = omega arith
  each_below a (x ∷ xs) zero d h = le_trans (omega arith) (from_start (max a (size x)) xs)
  each_below a (x ∷ xs) (suc k) d h = each_below (max a (size x)) xs k d (omega arith)

  all_below : (m a : ℕ) (xs : List X) (d : X) → a ≤ m → ((k : ℕ) → k < length xs → size (get_or xs k d) ≤ m) → fold (λ most x. max most (size x)) a xs ≤ m
  all_below m a [] d h each = h
  all_below m a (x ∷ xs) d h each =
      let here : size x ≤ m = each 0 (omega arith) in
      all_below m (max a (size x)) xs d (omega arith) (λ k j. each (suc k) (omega arith))

-- ---- the meaning

module _ (half : Half) (cards : List Line) (some : 1 ≤ length cards) (few : length cards ≤ 16) (fitting : (k : ℕ) → k < length cards → future_fits (get_or cards k no_line) ≡ true) where
  reached : strip_reach half cards ≤ most_reach
  reached = all_below (λ card. quote_reach half (quote_of half card)) most_reach 0 cards no_line zero-le (λ k h. reach_fits half (get_or cards k no_line) (fitting k h))

  pub strip_means : (quotes : List Quote) → ((k : ℕ) → k < length cards → get_or quotes k no_quote ≡ quote_of half (get_or cards k no_line)) → strip_meaning (record { half = half; count = length cards; reach = strip_reach half cards; quotes = quotes }) ≡ strip_of half cards
  strip_means quotes each =
      bounded_is half (length cards) (strip_reach half cards) kept some few reached sized
      ∙ ap (λ prices. record { half = half; lines = length cards; reach = strip_reach half cards; price = prices }) (grid_same half (length cards) kept (carded half cards) same)
    where
      kept : ℕ → ℕ → ℕ → ℤ
      kept line = quoted half (get_or quotes line no_quote)

      same : (line point column : ℕ) → line < length cards → point < points half → kept line point column ≡ carded half cards line point column
      same line point column in-cards on = ap (λ q. quoted half q point column) (each line in-cards)

      sized : (line point column : ℕ) → line < length cards → point < points half → nat_abs (kept line point column) ≤ strip_reach half cards
      sized line point column in-cards on =
          rw (same line point column in-cards on) (le_trans (quoted_size half (quote_of half (get_or cards line no_line)) point column on) (each_below (λ card. quote_reach half (quote_of half card)) 0 cards line no_line in-cards))

-- ---- the outcome

module _ (half : ℤ) (cards : List Line) where
  pub strip_passed : (grid : Half) → strip_judged half cards ≡ Ok grid → Strips half cards grid
  strip_passed grid e =
      let all = passed_places (failing (λ _. future_fits) 0 cards) BadCard _ grid e in
      let h = passed_half (half_of half) _ grid all.1 in
      let counted = passed_unless (within (pos 1) (pos 16) (pos (length cards))) WrongShape _ grid h.2 in
      let own : h.0 ≡ grid = cc counted.1 in
      let range = and_parts (leb 1 (length cards)) (leb (length cards) 16) counted.0 in
      subst (Strips half cards) own (record {
        of_half = h.1;
        some_line = leb-true 1 (length cards) range.0;
        few_lines = leb-true (length cards) 16 range.1;
        fitting = none_fails (λ _. future_fits) no_line cards all.0;
      })

  pub strip_allowed : (grid : Half) → Strips half cards grid → strip_judged half cards ≡ Ok grid
  strip_allowed grid s =
      pass_places _ _ BadCard (all_pass (λ _. future_fits) no_line cards s.fitting)
      ∙ ap (λ h. on_half h (λ g. decided (unless (within (pos 1) (pos 16) (pos (length cards))) WrongShape ∷ []) g)) s.of_half
      ∙ pass_unless _ _ WrongShape (and_from _ _ (le-leb 1 (length cards) s.some_line) (le-leb (length cards) 16 s.few_lines))

  pub strip_made_lem : (grid : Half) → strip_judged half cards ≡ Ok grid → (quotes : List Quote) → ((k : ℕ) → k < length cards → get_or quotes k no_quote ≡ quote_of grid (get_or cards k no_line)) → Ok (strip_meaning (record { half = grid; count = length cards; reach = strip_reach grid cards; quotes = quotes })) ≡ strip_made half cards
  strip_made_lem grid e quotes each =
      let s = strip_passed grid e in
      ap Ok (strip_means grid cards s.some_line s.few_lines s.fitting quotes each) ∙ sym (ap (λ j. making j (λ g. strip_of g cards)) e)
