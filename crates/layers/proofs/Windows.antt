-- The worst within a window, found in a list of the baskets' results; and what a family adds up.
use Rattle.std.proofs.Common.{◌≡◌, ℕ, ◌+◌, ◌-◌, ◌<◌, ◌≤◌, Bool, true, false, List, get_or, ℤ, pos, refl, ap, ◌∙◌, zero-add, arith}
use lib.Signed.{le_z}
use Rattle.std.specs.Int.{int_min}
use Rattle.margin.specs.Book.{Cards, netted_family, window_of, over_baskets}
use Rattle.margin.specs.Layers.{basket_result, worst_within, netted_family_result, half_family_result, family_result, family_worst}
use Rattle.margin.specs.Sums.{least}
use Rattle.margin.proofs.SumLaws.{least_same}

-- the least between two points, found in a row of a basket's results
pub least_found : (cards : Cards) (cells : ℕ → ℕ → ℕ → ℤ) (b : ℕ) (row : List ℤ) (start end : ℕ) (r : ℤ × ℕ) → start ≤ end → end < 17 → ((k : ℕ) → k < 17 → get_or row k (pos 0) ≡ basket_result cards cells b k) → r ≡ least le_z (λ q. get_or row (0 + q) (pos 0)) start (end - start) → r ≡ least le_z (basket_result cards cells b) start (end - start)
least_found cards cells b row start end r ordered within held found =
    found ∙ least_same le_z (λ q. get_or row (0 + q) (pos 0)) (basket_result cards cells b) start (end - start) (λ q h k. at q (omega arith))
  where
    at : (q : ℕ) → q < 17 → get_or row (0 + q) (pos 0) ≡ basket_result cards cells b q
    at q h = ap (λ (k : ℕ). get_or row k (pos 0)) (zero-add q) ∙ held q h

-- a family adds up its baskets by its rule
pub family_adds_up : (last : ℕ) (cards : Cards) (cells : ℕ → ℕ → ℕ → ℤ) (f p : ℕ) → over_baskets cards f (λ b. elim (netted_family cards f) [ true ↦ (worst_within last cards cells (window_of cards f) b p).0 | false ↦ int_min (pos 0) (basket_result cards cells b p) ]) ≡ family_result last cards cells f p
unfolding family_result netted_family_result half_family_result
family_adds_up last cards cells f p = by (netted_family cards f)
  where
    by : (netted : Bool) → over_baskets cards f (λ b. elim netted [ true ↦ (worst_within last cards cells (window_of cards f) b p).0 | false ↦ int_min (pos 0) (basket_result cards cells b p) ]) ≡ elim netted [ true ↦ over_baskets cards f (λ b. (worst_within last cards cells (window_of cards f) b p).0) | false ↦ over_baskets cards f (λ b. int_min (pos 0) (basket_result cards cells b p)) ]
    by true = refl
    by false = refl

-- the worst of a family's row, found in a list of the row's results
pub row_found : (last : ℕ) (cards : Cards) (cells : ℕ → ℕ → ℕ → ℤ) (f : ℕ) (row : List ℤ) (r : ℤ × ℕ) → ((k : ℕ) → k < last + 1 → get_or row k (pos 0) ≡ family_result last cards cells f k) → r ≡ least le_z (λ q. get_or row (0 + q) (pos 0)) 0 (last - 0) → r ≡ family_worst last cards cells f
unfolding family_worst
row_found last cards cells f row r held found =
    let all : last - 0 ≡ last = omega arith in
    found
    ∙ ap (least le_z (λ q. get_or row (0 + q) (pos 0)) 0) all
    ∙ least_same le_z (λ q. get_or row (0 + q) (pos 0)) (family_result last cards cells f) 0 last (λ q h k. at q (omega arith))
  where
    at : (q : ℕ) → q ≤ last → get_or row (0 + q) (pos 0) ≡ family_result last cards cells f q
    at q h = ap (λ (k : ℕ). get_or row k (pos 0)) (zero-add q) ∙ held q (omega arith)
