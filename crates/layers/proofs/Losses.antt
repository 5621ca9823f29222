-- The families' losses, read from a list, and the greatest of them.
use Rattle.std.proofs.Common.{◌≡◌, ℕ, zero, suc, ◌-◌, ◌*◌, ◌<◌, ◌≤◌, List, [], ◌∷◌, length, get_or, take, sum, Some, None, Option, sym, refl, ap, ◌∙◌, ap₂, subst, zero-le, arith}
use Rattle.std.specs.Option.{MatchOption}
use Rattle.order.specs.Items.{costlier}
use Rattle.order.specs.Orders.{least_from, first_least}
use Rattle.order.specs.declared.FamilyLoss.{FamilyLoss}
use Rattle.margin.specs.Sums.{least}
use Rattle.margin.specs.Layers.{family_loss, losses_below, costliest}
use Rattle.layers.specs.Families.{each_loss}
use Rattle.layers.specs.Scenes.{in_scene, cards_of, cells_of}
use Rattle.layers.specs.declared.scene.Scene.{Scene}

module _ (s : Scene) (losses : List ℕ) (held : losses ≡ in_scene each_loss s) where
  pub loss_at : (f : ℕ) → f < 2 → get_or losses f 0 ≡ family_loss s.last (cards_of s) (cells_of s) f
  loss_at f h = ap (λ (l : List ℕ). get_or l f 0) held ∙ at f h
    where
      at : (f : ℕ) → f < 2 → get_or (in_scene each_loss s) f 0 ≡ family_loss s.last (cards_of s) (cells_of s) f
      at zero h = refl
      at (suc zero) h = refl
      at (suc (suc f)) h = absurd (omega arith)

pub sum_listed : (s : Scene) (losses : List ℕ) → losses ≡ in_scene each_loss s → (n : ℕ) → n ≤ 2 → sum (take n losses) ≡ losses_below s.last (cards_of s) (cells_of s) n
unfolding losses_below
sum_listed s losses held n h = ap (λ (l : List ℕ). sum (take n l)) held ∙ at n h
  where
    at : (n : ℕ) → n ≤ 2 → sum (take n (in_scene each_loss s)) ≡ losses_below s.last (cards_of s) (cells_of s) n
    at zero h = refl
    at (suc zero) h = omega arith
    at (suc (suc zero)) h = omega arith
    at (suc (suc (suc n))) h = absurd (omega arith)

-- no part of the losses adds up to more than twice the bound of each
pub sum_sized : (s : Scene) (losses : List ℕ) (most : ℕ) → losses ≡ in_scene each_loss s → ((f : ℕ) → get_or losses f 0 ≤ most) → (n : ℕ) → n ≤ 2 → sum (take n losses) ≤ 2 * most
sum_sized s losses most held sized n h =
    let each : (f : ℕ) → get_or (in_scene each_loss s) f 0 ≤ most = subst (λ (l : List ℕ). (f : ℕ) → get_or l f 0 ≤ most) held sized in
    subst (λ (l : List ℕ). sum (take n l) ≤ 2 * most) (sym held) (at (get_or (in_scene each_loss s) 0 0) (get_or (in_scene each_loss s) 1 0) (each 0) (each 1) n h)
  where
    at : (a b : ℕ) → a ≤ most → b ≤ most → (n : ℕ) → n ≤ 2 → sum (take n (a ∷ b ∷ [])) ≤ 2 * most
    at a b ha hb zero h = zero-le
    at a b ha hb (suc zero) h = omega arith
    at a b ha hb (suc (suc zero)) h = omega arith
    at a b ha hb (suc (suc (suc n))) h = absurd (omega arith)

-- each of two items has a size that both have, and so has the one beyond them
pub two_sized : {A : Type 0} (size : A → ℕ) (x y d : A) (most : ℕ) → size x ≤ most → size y ≤ most → size d ≤ most → (f : ℕ) → size (get_or (x ∷ y ∷ []) f d) ≤ most
two_sized size x y d most h k l zero = h
two_sized size x y d most h k l (suc zero) = k
two_sized size x y d most h k l (suc (suc f)) = l

-- ---- the costliest of up to two families
-- what is made of the item found among up to two, or 0 where there is none, is the place of the least
two_found : (n : ℕ) (row : ℕ → FamilyLoss) (r : ℕ) → n ≤ 2 → MatchOption (first_least costlier (take (n - 0) (row 0 ∷ row 1 ∷ []))) (r ≡ 0) (λ found. r ≡ found.1) → r ≡ (least costlier row 0 (n - 1)).1
unfolding least_from least
two_found zero row r h m = m
two_found (suc zero) row r h m = m
two_found (suc (suc zero)) row r h m = m
two_found (suc (suc (suc n))) row r h m = absurd (omega arith)

-- what is known of an item found stands for what is made of it
each_found : {A : Type 0} (o : Option A) (none : Type 0) (P Q : A → Type 0) → ((x : A) → P x → Q x) → MatchOption o none P → MatchOption o none Q
each_found None none P Q h m = m
each_found (Some x) none P Q h m = h x m

pub two_items : {A : Type 0} (xs : List A) (d : A) → length xs ≡ 2 → xs ≡ get_or xs 0 d ∷ get_or xs 1 d ∷ []
two_items [] d h = absurd (omega arith)
two_items (x ∷ []) d h = absurd (omega arith)
two_items (x ∷ y ∷ []) d h = refl
two_items (x ∷ y ∷ z ∷ xs) d h = absurd (omega arith)

-- a family's number and what it loses
abbrev pub loss_listed : List ℕ → ℕ → FamilyLoss
loss_listed losses f = record { family = f; loss = get_or losses f 0 }

pub costliest_found : (s : Scene) (losses : List ℕ) → losses ≡ in_scene each_loss s → length s.families.now ≤ 2 → (listed : List FamilyLoss) → length listed ≡ 2 → ((f : ℕ) → f < 2 → get_or listed f (loss_listed losses 0) ≡ loss_listed losses f) → (o : Option (FamilyLoss × ℕ)) (P : FamilyLoss × ℕ → Type 0) (r : ℕ) → o ≡ first_least costlier (take (length s.families.now) listed) → ((x : FamilyLoss × ℕ) → P x → r ≡ x.1) → MatchOption o (r ≡ 0) P → r ≡ costliest s.last (cards_of s) (cells_of s)
unfolding costliest
costliest_found s losses held few listed long each o P r found says m =
    let row : ℕ → FamilyLoss = λ f. record { family = f; loss = family_loss s.last (cards_of s) (cells_of s) f } in
    let at : (f : ℕ) → f < 2 → get_or listed f (loss_listed losses 0) ≡ row f = λ f h. each f h ∙ ap (λ (x : ℕ). record { family = f; loss = x }) (loss_at s losses held f h) in
    let is : listed ≡ row 0 ∷ row 1 ∷ [] = two_items listed (loss_listed losses 0) long ∙ ap₂ (λ (x y : FamilyLoss). x ∷ y ∷ []) (at 0 (omega arith)) (at 1 (omega arith)) in
    let whole : length s.families.now ≡ length s.families.now - 0 = omega arith in
    let among : o ≡ first_least costlier (take (length s.families.now - 0) (row 0 ∷ row 1 ∷ [])) = found ∙ ap₂ (λ (n : ℕ) (xs : List FamilyLoss). first_least costlier (take n xs)) whole is in
    two_found (length s.families.now) row r few (subst (λ (q : Option (FamilyLoss × ℕ)). MatchOption q (r ≡ 0) (λ x. r ≡ x.1)) among (each_found o (r ≡ 0) P (λ x. r ≡ x.1) says m))
