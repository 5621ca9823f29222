-- An order of which nothing is left loses nowhere.
use Rattle.std.proofs.Common.{◌≡◌, ℕ, ◌≤◌, Bool, true, false, leb, List, length, get_or, ℤ, pos, ◌-ℤ◌, ◌*ℤ◌, Some, None, Option, refl, ap, ◌∙◌, arith}
use lib.Signed.{lt_z}
use Rattle.std.proofs.lemmas.Int.{ints}
use Rattle.std.proofs.lemmas.List.{get_or_past}
use Rattle.margin.specs.Book.{Cards, Book, named, line, month}
use Rattle.margin.specs.Cells.{order_result}
use Rattle.margin.specs.HandedOut.{order_loses_in, order_counted_at, counted_by}
use Rattle.margin.specs.Worlds.{nowhere}
use Rattle.margin.specs.declared.choice.Kept.{Kept}
use Rattle.cells.specs.Countings.{counted_from}
use Rattle.cells.specs.Empty.{no_order}

nothing_lost : (price : ℤ) (k : ℕ) → order_result no_order price k ≡ pos 0
unfolding order_result
nothing_lost price k = by (leb k 2)
  where
    none : (z : ℤ) → pos 0 *ℤ z ≡ pos 0
    none z = omega (arith, ints)

    by : (priced : Bool) → (elim priced [ true ↦ pos 0 *ℤ (price -ℤ pos 80000 *ℤ pos 0) | false ↦ pos 0 *ℤ price ]) ≡ pos 0
    by true = none (price -ℤ pos 80000 *ℤ pos 0)
    by false = none price

module _ (price : ℕ → ℕ → ℕ → ℤ) where
  loses_nowhere : (p k : ℕ) → lt_z (order_result no_order (price 0 p k) k) (pos 0) ≡ false
  loses_nowhere p k = ap (λ (r : ℤ). lt_z r (pos 0)) (nothing_lost (price 0 p k) k)

  in_no_column : (p : ℕ) (column : Option ℕ) → order_loses_in price no_order p column ≡ false
  in_no_column p None = refl
  in_no_column p (Some k) = loses_nowhere p k

  pub counted_nowhere : (point : Option ℕ) (kept : Option Kept) → order_counted_at price no_order point kept ≡ nowhere
  counted_nowhere None kept = refl
  counted_nowhere (Some p) None = refl
  counted_nowhere (Some p) (Some columns) = λ i. record { volatility = loses_nowhere p columns.volatility i; rate = in_no_column p columns.rate i; twist = in_no_column p columns.twist i }

  -- so no order is counted beyond the end of a book's list
  pub none_beyond : (cards : Cards) (book : Book) (points : List (Option ℕ)) (kept : List (Option Kept)) (i : ℕ) → length book.orders ≤ i → counted_from price cards book points kept i ≡ nowhere
  none_beyond cards book points kept i past = ap (counted_by price cards (λ b. get_or points b None) (λ m. get_or kept m None)) (get_or_past book.orders i no_order past) ∙ counted_nowhere (get_or points (named (month cards (named (line cards 0).month)).basket) None) (get_or kept (named (line cards 0).month) None)
