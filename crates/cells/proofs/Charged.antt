-- Where a line is charged, and where it is not.
use Rattle.std.proofs.Common.{◌≡◌, ℕ, ◌<◌, ◌≤◌, Bool, true, false, leb, ℤ, pos, ap, ◌∙◌}
use Rattle.std.proofs.lemmas.Bool.{lt-ltb, le-ltb, le-leb, lt-leb}
use Rattle.margin.specs.Book.{Cards, Book, is_future}
use Rattle.margin.specs.Cells.{charged, charges_at}

module _ (last : ℕ) (cards : Cards) (book : Book) (l point column : ℕ) where
  by_tests : Bool → Bool → ℤ
  by_tests future priced = elim future [ true ↦ elim priced [ true ↦ charges_at last cards book l point | false ↦ pos 0 ] | false ↦ pos 0 ]

  pub charged_here : l < cards.futures → column ≤ 2 → charged last cards book l point column ≡ charges_at last cards book l point
  unfolding charged is_future by_tests
  charged_here h k =
      ap (λ b. by_tests b (leb column 2)) (lt-ltb l cards.futures h) ∙ ap (by_tests true) (le-leb column 2 k)

  pub option_uncharged : cards.futures ≤ l → charged last cards book l point column ≡ pos 0
  unfolding charged is_future by_tests
  option_uncharged h = ap (λ b. by_tests b (leb column 2)) (le-ltb l cards.futures h)

  pub change_uncharged : l < cards.futures → 2 < column → charged last cards book l point column ≡ pos 0
  unfolding charged is_future by_tests
  change_uncharged h k =
      ap (λ b. by_tests b (leb column 2)) (lt-ltb l cards.futures h) ∙ ap (by_tests true) (lt-leb column 2 k)
