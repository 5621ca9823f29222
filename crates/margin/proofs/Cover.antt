-- The margin is the least cover, and it does not rise where cells do.
use Rattle.std.proofs.Common.{◌≡◌, ℕ, zero, suc, ◌+◌, ◌*◌, ◌/◌, ◌≤◌, true, false, length, ℤ, pos, negsuc, neg_ℤ, ◌≤ℤ◌, refl, arith}
use Rattle.std.specs.Int.{int_min}
use Rattle.std.proofs.lemmas.Int.{ints, clamps}
use Rattle.margin.specs.declared.choice.Counted.{Counted}
use Rattle.margin.specs.Sums.{total}
use Rattle.margin.specs.Book.{Cards, Book}
use Rattle.margin.specs.Cells.{cells}
use Rattle.margin.specs.Layers.{loss_of, family_worst, family_loss, losses_below, grains, margin_of}
use Rattle.margin.specs.Worlds.{World, IsWorld, taken, world_cells, loss}
use Rattle.margin.specs.HandedOut.{choices, counted_of, handed_out}
use Rattle.margin.specs.LeastCover.{margin, LeastCover, WorstWorld, MarginIsTheLeastCover, MarginFallsAsCellsRise}
use Rattle.margin.proofs.SumLaws.{≤ℤ-trans}
use Rattle.margin.proofs.Below.{world_below}
use Rattle.margin.proofs.Reached.{world_reached, choices_make_a_world}
use Rattle.margin.proofs.Orders.{cells_lowest, handed_out_lowest}

-- ---- the losses, as minus the families' worsts
loss_is : (r : ℤ) → int_min (pos 0) r ≡ neg_ℤ (pos (loss_of r))
unfolding loss_of
loss_is (pos n) = omega (arith, ints, clamps)
loss_is (negsuc n) = refl

module _ (last : ℕ) (cards : Cards) (cells : ℕ → ℕ → ℕ → ℤ) where
  losses_are : (n : ℕ) → total n (λ f. true) (λ f. int_min (pos 0) (family_worst last cards cells f).0) ≡ neg_ℤ (pos (losses_below last cards cells n))
  unfolding total losses_below family_loss
  losses_are zero = refl
  losses_are (suc n) = let before = losses_are n in let now = loss_is (family_worst last cards cells n).0 in omega (arith, ints)

  grains_are : total (length cards.families) (λ f. true) (λ f. int_min (pos 0) (family_worst last cards cells f).0) ≡ neg_ℤ (pos (grains last cards cells))
  unfolding grains
  grains_are = losses_are (length cards.families)

  -- a world that takes cells no lower than these takes no less than minus the losses, and the handed out choices take no more
  pub taken_above : (higher : ℕ → ℕ → ℕ → ℤ) → ((m p k : ℕ) → cells m p k ≤ℤ higher m p k) → (w : World) → IsWorld last cards w → neg_ℤ (pos (grains last cards cells)) ≤ℤ taken cards higher w
  taken_above higher up w h = rw (← grains_are) (world_below cells higher up last cards w h)

  pub taken_reached : (orders : ℕ → Counted) → taken cards cells (choices last cards cells orders) ≤ℤ neg_ℤ (pos (grains last cards cells))
  taken_reached orders = rw (← grains_are) (world_reached cells last cards orders)

-- ---- rounding up
covered : (g : ℕ) → g ≤ 80000 * ((g + 79999) / 80000)
covered g = omega arith

no_less : (g amount : ℕ) → g ≤ 80000 * amount → (g + 79999) / 80000 ≤ amount
no_less g amount h = omega arith

rounded_le : (g h : ℕ) → g ≤ h → (g + 79999) / 80000 ≤ (h + 79999) / 80000
rounded_le g h k = omega arith

-- ---- the least cover
module _ (last : ℕ) (price : ℕ → ℕ → ℕ → ℤ) (cards : Cards) (book : Book) where
  all : ℕ
  all = grains last cards (cells last price cards book)

  no_loss_above : (w : World) → IsWorld last cards w → loss last price cards book w ≤ℤ pos all
  unfolding loss all
  no_loss_above w h = let above = taken_above last cards (cells last price cards book) (world_cells last price cards book w) (cells_lowest last price cards book w) w h in flip _ _ above
    where
      flip : (g : ℕ) (t : ℤ) → neg_ℤ (pos g) ≤ℤ t → neg_ℤ t ≤ℤ pos g
      flip g t h = omega (arith, ints)

  handed_out_loses : pos all ≤ℤ loss last price cards book (handed_out last price cards book)
  unfolding loss all handed_out
  handed_out_loses = flip _ _ (≤ℤ-trans _ _ _ (handed_out_lowest last price cards book) (taken_reached last cards (cells last price cards book) (counted_of last price cards book)))
    where
      flip : (g : ℕ) (t : ℤ) → t ≤ℤ neg_ℤ (pos g) → pos g ≤ℤ neg_ℤ t
      flip g t h = omega (arith, ints)

  is_a_world : IsWorld last cards (handed_out last price cards book)
  unfolding handed_out
  is_a_world = choices_make_a_world (cells last price cards book) last cards (counted_of last price cards book)

  least_cover : LeastCover last price cards book
  unfolding margin margin_of all
  least_cover = record {
    covers = λ w h. up_to _ all (no_loss_above w h) (covered all);
    least_that_covers = λ amount h. no_less all amount (down_from all _ (≤ℤ-trans _ _ _ handed_out_loses (h (handed_out last price cards book) is_a_world)));
    handed_out_is_a_world = is_a_world;
    no_world_loses_more = λ w h. ≤ℤ-trans _ _ _ (no_loss_above w h) handed_out_loses;
  }
    where
      up_to : (t : ℤ) (g : ℕ) {n : ℕ} → t ≤ℤ pos g → g ≤ n → t ≤ℤ pos n
      up_to t g h k = omega (arith, ints)

      down_from : (g n : ℕ) → pos g ≤ℤ pos n → g ≤ n
      down_from g n h = omega (arith, ints)

  pub handed_out_is_worst : WorstWorld last price cards book (handed_out last price cards book)
  unfolding all
  handed_out_is_worst = record {
    is_a_world = is_a_world;
    none_loses_more = least_cover.no_world_loses_more;
    loses_all = both _ all (no_loss_above (handed_out last price cards book) is_a_world) handed_out_loses;
  }
    where
      both : (t : ℤ) (g : ℕ) → t ≤ℤ pos g → pos g ≤ℤ t → t ≡ pos g
      both t g h k = omega (arith, ints)

pub margin_is_the_least_cover : MarginIsTheLeastCover
margin_is_the_least_cover = least_cover

-- ---- monotony
-- the choices handed out at the higher cells are a world of the lower
pub margin_falls_as_cells_rise : MarginFallsAsCellsRise
unfolding margin_of
margin_falls_as_cells_rise last cards lower higher up =
    rounded_le (grains last cards higher) (grains last cards lower)
    (back _ _ (≤ℤ-trans _ _ _ (taken_above last cards lower higher up (choices last cards higher uncounted) (choices_make_a_world higher last cards uncounted)) (taken_reached last cards higher uncounted)))
  where
    uncounted : ℕ → Counted
    uncounted i = record { volatility = false; rate = false; twist = false }

    back : (a b : ℕ) → neg_ℤ (pos a) ≤ℤ neg_ℤ (pos b) → b ≤ a
    back a b h = omega (arith, ints)
