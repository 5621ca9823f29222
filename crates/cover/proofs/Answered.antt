-- Lists that hold the choices of the world handed out are that world.
use Rattle.std.proofs.Common.{◌≡◌, ℕ, ℤ, None, sym, ap, ◌∙◌, ap₂}
use mathlib.Core.Path.{fun_ext}
use Rattle.banks.specs.Meanings.{Meaning}
use Rattle.margin.specs.Book.{Cards, Book, named, line, month, order}
use Rattle.margin.specs.HandedOut.{family_choice, basket_choice, month_choice, choices, order_counted_at, counted_of, handed_out}
use Rattle.margin.specs.Worlds.{nowhere, listed_world}
use Rattle.margin.specs.declared.choice.World.{World}
use Rattle.margin.proofs.Counting.{counted_same as by_its_place}
use Rattle.margin.proofs.Reached.{up_to_is}
use Rattle.deck.specs.Decks.{deck_cards}
use Rattle.deck.specs.declared.deck.Deck.{Deck}
use Rattle.deck.proofs.Kept.{basket_of_month, month_of_line}
use Rattle.layers.specs.Rows.{ListsAll}
use Rattle.layers.specs.Tables.{table_cells}
use Rattle.layers.specs.Outcomes.{on_cells}
use Rattle.layers.specs.declared.month_cells.MonthCells.{MonthCells}
use Rattle.terms.specs.declared.half.Half.{Half}
use Rattle.cells.specs.Countings.{counted_from}
use Rattle.cells.specs.Grids.{last_of}
use Rattle.cover.specs.Margins.{cells_for, world_for}

-- what the layers find in a book's cells on its bank's grid
pub found_for : {X : Type 0} (bank : Meaning) (deck : Deck) (book : Book) (half : Half) (cells : MonthCells) → half ≡ bank.half → table_cells (last_of bank) (deck_cards deck) cells.cells ≡ cells_for bank (deck_cards deck) book → (layer : ℕ → Cards → (ℕ → ℕ → ℕ → ℤ) → X) → on_cells layer half deck cells ≡ layer (last_of bank) (deck_cards deck) (cells_for bank (deck_cards deck) book)
found_for bank deck book half cells same held layer = ap (λ (h : Half). on_cells layer h deck cells) same ∙ ap (layer (last_of bank) (deck_cards deck)) held

-- the choices of a world, in lists
module _ (bank : Meaning) (deck : Deck) (book : Book) where
  module _ (w : World) (families : ListsAll None (family_choice (last_of bank) (deck_cards deck) (cells_for bank (deck_cards deck) book)) w.families) (baskets : ListsAll None (basket_choice (last_of bank) (deck_cards deck) (cells_for bank (deck_cards deck) book)) w.baskets) (months : ListsAll None (month_choice (last_of bank) (deck_cards deck) (cells_for bank (deck_cards deck) book)) w.months) where
    -- every line's month and that month's basket are among the cards, so a list that holds their choices has the order's
    counted_same : (i : ℕ) → counted_from bank.price (deck_cards deck) book w.baskets w.months i ≡ counted_of (last_of bank) bank.price (deck_cards deck) book i
    counted_same i =
        let m = named (line (deck_cards deck) (order book i).line).month in
        let b = named (month (deck_cards deck) m).basket in
        let known = month_of_line deck (order book i).line in
        ap₂ (order_counted_at bank.price (order book i)) (baskets b ∙ up_to_is _ _ b (basket_of_month deck m known)) (months m ∙ up_to_is _ _ m known)
        ∙ sym (by_its_place (last_of bank) bank.price (deck_cards deck) book i)

    pub world_is : ListsAll nowhere (counted_from bank.price (deck_cards deck) book w.baskets w.months) w.orders → listed_world w ≡ world_for bank (deck_cards deck) book
    unfolding handed_out choices
    world_is orders = λ i. record { families = fun_ext families i; baskets = fun_ext baskets i; months = fun_ext months i; orders = fun_ext (λ k. orders k ∙ counted_same k) i }
