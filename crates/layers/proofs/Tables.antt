-- A list that holds cells at their places stands for them, and a scene for what it views.
use Rattle.std.proofs.Common.{◌≡◌, ℕ, ◌/◌, ◌%◌, ◌<◌, ◌≤◌, Bool, true, false, ◌&&◌, ltb, leb, List, length, get_or, ℤ, pos, refl, ap, ◌∙◌, arith, lit≤}
use mathlib.Core.Path.{fun_ext}
use Rattle.std.proofs.lemmas.Bool.{leb-true, ltb-true, and_parts}
use Rattle.terms.specs.declared.half.Half.{Half}
use Rattle.terms.specs.declared.half.Half.TheVariants.{One, Two, Four, Eight}
use Rattle.margin.specs.Book.{Cards}
use Rattle.margin.specs.Cells.{gridded}
use Rattle.layers.specs.Rows.{Holds}
use Rattle.layers.specs.Scenes.{cards_of, cells_of}
use Rattle.layers.specs.Tables.{last_point, place_of, at_place, table_cells}
use Rattle.layers.specs.declared.scene.Scene.{Scene}

pub few_points : (half : Half) → last_point half ≤ 16
few_points One = lit≤ tt
few_points Two = lit≤ tt
few_points Four = lit≤ tt
few_points Eight = lit≤ tt

-- two grids of cells are one where they agree on the grid
pub same_grid : (last months : ℕ) (f g : ℕ → ℕ → ℕ → ℤ) → ((m p k : ℕ) → m < months → p ≤ last → k < 7 → f m p k ≡ g m p k) → gridded last months f ≡ gridded last months g
unfolding gridded
same_grid last months f g agree = fun_ext (λ m. fun_ext (λ p. fun_ext (λ k. by m p k (ltb m months && (leb p last && ltb k 7)) refl)))
  where
    by : (m p k : ℕ) (on : Bool) → (ltb m months && (leb p last && ltb k 7)) ≡ on → ◌≡◌ {A = ℤ} (elim on [ true ↦ f m p k | false ↦ pos 0 ]) (elim on [ true ↦ g m p k | false ↦ pos 0 ])
    by m p k true e =
        let outer = and_parts (ltb m months) (leb p last && ltb k 7) e in
        let inner = and_parts (leb p last) (ltb k 7) outer.1 in
        agree m p k (ltb-true m months outer.0) (leb-true p last inner.0) (ltb-true k 7 inner.1)
    by m p k false e = refl

-- what is worked out from a scene is worked out from the cards, the list and the last point that it views
pub record Views (s : Scene) (last : ℕ) (cards : Cards) (table : List ℤ) : Type 0 where
  pub cards_are : cards_of s ≡ cards
  pub table_is : s.cells.now ≡ table
  pub last_is : s.last ≡ last

pub seen : {s : Scene} {last : ℕ} {cards : Cards} {table : List ℤ} {X : Type 0} → Views s last cards table → (F : ℕ → Cards → (ℕ → ℕ → ℕ → ℤ) → X) → F s.last (cards_of s) (cells_of s) ≡ F last cards (table_cells last cards table)
unfolding cells_of
seen {s} {last} {cards} {table} v F =
    ap (λ t. F s.last (cards_of s) (table_cells s.last (cards_of s) t)) v.table_is
    ∙ ap (λ c. F s.last c (table_cells s.last c table)) v.cards_are
    ∙ ap (λ l. F l cards (table_cells l cards table)) v.last_is

-- a cell's place leads back to the cell
place_back : (m p k : ℕ) → p ≤ 16 → k < 7 → (place_of m p k / 119 ≡ m) × ((place_of m p k % 119) / 7 ≡ p) × (place_of m p k % 7 ≡ k)
place_back m p k hp hk = omega arith

-- a list that holds cells at their places gives these cells
pub held_cells : (last : ℕ) (cards : Cards) (cell : ℕ → ℕ → ℕ → ℤ) (size : ℕ) (table : List ℤ) → last ≤ 16 → length cards.months ≤ 8 → Holds (at_place cell) size 952 952 table → table_cells last cards table ≡ gridded last (length cards.months) cell
held_cells last cards cell size table grid few held = same_grid last (length cards.months) _ _ at
  where
    at : (m p k : ℕ) → m < length cards.months → p ≤ last → k < 7 → get_or table (place_of m p k) (pos 0) ≡ cell m p k
    at m p k hm hp hk =
        let short : p ≤ 16 = omega arith in
        let back = place_back m p k short hk in
        held.so_far (place_of m p k) (omega arith)
        ∙ ap (λ n. cell n ((place_of m p k % 119) / 7) (place_of m p k % 7)) back.0
        ∙ ap (λ n. cell m n (place_of m p k % 7)) back.1
        ∙ ap (λ n. cell m p n) back.2
