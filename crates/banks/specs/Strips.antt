-- A strip: the prices of futures, worked out from their cards. A card's numbers are read by their sizes: none that is accepted lies below 0.
use Rattle.std.specs.Prelude.{◌≡◌, ℕ, ◌+◌, ◌*◌, ◌<◌, ◌≤◌, max, true, false, List, [], ◌∷◌, length, ℤ, pos, ◌+ℤ◌, ◌-ℤ◌, ◌*ℤ◌, neg_ℤ, Some, fold, Result, ◌==◌, nat_lt, slice_index_or, unsigned_abs}
use Rattle.terms.specs.Cards.{within, future_fits}
use Rattle.terms.specs.Judging.{failing}
use Rattle.terms.specs.Halves.{half_of, half_size, steps_of}
use Rattle.terms.specs.declared.cards.Line.{Line}
use Rattle.terms.specs.declared.half.Half.{Half}
use Rattle.terms.specs.declared.refusal.Refusal.{Refusal}
use Rattle.terms.specs.declared.refusal.Refusal.TheVariants.{BadCard, WrongShape}
use Rattle.banks.specs.Meanings.{Meaning, grains, exactly, bounded}
use Rattle.terms.specs.Checks.{unless, refused_at, before, decided}
use Rattle.banks.specs.Outcomes.{on_half, making}
use Rattle.banks.specs.declared.strip.Quote.{Quote}
use Rattle.banks.specs.declared.strip.Strip.{Strip}

-- a future in grains: its price, what its price moves by from point to point, and what a move of the rate curve changes it by
abbrev pub quote_of : Half → Line → Quote
quote_of half card = record { base = grains * unsigned_abs card.price; step = steps_of half * (unsigned_abs card.rates.r1 * unsigned_abs card.spot); change = grains * unsigned_abs card.change }

-- the price at a point lies as many steps from the base as the point from the middle; the rate columns hold the change alone
abbrev pub quoted : Half → Quote → ℕ → ℕ → ℤ
quoted half quote point column = elim (nat_lt column 3) [
  | true ↦ pos quote.base +ℤ (pos point -ℤ pos (half_size half)) *ℤ pos quote.step
  | false ↦ elim (column == 3) [ true ↦ neg_ℤ (pos quote.change) | false ↦ elim (column == 4) [ true ↦ pos quote.change | false ↦ pos 0 ] ]
]

-- the largest size that a future's price or change can have
abbrev pub quote_reach : Half → Quote → ℕ
quote_reach half quote = max (quote.base + half_size half * quote.step) quote.change

-- the greatest of them over all lines
abbrev pub strip_reach : Half → List Line → ℕ
strip_reach half cards = fold (λ most card. max most (quote_reach half (quote_of half card))) 0 cards

-- what is read where there is no card
abbrev pub no_line : Line
no_line = record { month = pos 0; price = pos 0; spot = pos 0; change = pos 0; rates = record { r1 = pos 0; r2 = pos 0; r3 = pos 0 }; limits = record { a = pos 0; b = pos 0 } }

-- the price of a cell, as the cards have it
abbrev pub carded : Half → List Line → ℕ → ℕ → ℕ → ℤ
carded half cards line = quoted half (quote_of half (slice_index_or cards line no_line))

abbrev pub strip_of : Half → List Line → Meaning
strip_of half cards = exactly half (length cards) (strip_reach half cards) (carded half cards)

-- 4: the first card with a number outside its field, or whose rates or limits fall; 6: a half that no grid has, or lines that are not 1 to 16
abbrev pub strip_judged : ℤ → List Line → Result Half Refusal
strip_judged half cards =
    before (refused_at BadCard (failing (λ place. future_fits) 0 cards))
    (on_half (half_of half) (λ grid. decided (unless (within (pos 1) (pos 16) (pos (length cards))) WrongShape ∷ []) grid))

abbrev pub strip_made : ℤ → List Line → Result Meaning Refusal
strip_made half cards = making (strip_judged half cards) (λ grid. strip_of grid cards)

-- what makes cards a strip on a grid
pub record Strips (half : ℤ) (cards : List Line) (grid : Half) : Type 0 where
  pub of_half : half_of half ≡ Some grid
  pub some_line : 1 ≤ length cards
  pub few_lines : length cards ≤ 16
  pub fitting : (place : ℕ) → place < length cards → future_fits (slice_index_or cards place no_line) ≡ true

-- when cards may be a strip
abbrev pub MayStrip : ℤ → List Line → Type 0
MayStrip half cards = (grid : Half) × Strips half cards grid

abbrev pub no_quote : Quote
no_quote = record { base = 0; step = 0; change = 0 }

-- any half, count, reach and quotes
abbrev pub strip_meaning : Strip → Meaning
strip_meaning s = bounded s.half s.count s.reach (λ line. quoted s.half (slice_index_or s.quotes line no_quote))
