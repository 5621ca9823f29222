-- Whether a card names a number, and which; what a lookup gives; and a result's loss.
use Rattle.std.proofs.Common.{◌≡◌, ℕ, ◌<◌, ◌≤◌, false, eqb, List, length, get_or, ℤ, pos, negsuc, nat_abs, ◌≤ℤ◌, ◌<ℤ◌, Some, None, Option, sym, refl, ap, ◌∙◌, arith, Bor}
use lib.ListN.{get_or-eq_default}
use Rattle.std.proofs.lemmas.Int.{ints}
use Rattle.std.specs.List.{HoldsAt}
use Rattle.std.specs.Option.{MatchOption}
use Rattle.margin.specs.Layers.{loss_of}
use Rattle.margin.specs.Book.{names}

pub names_up : (name : ℤ) (i : ℕ) → pos 0 ≤ℤ name → eqb (nat_abs name) i ≡ names name i
unfolding names
names_up (pos n) i h = refl
names_up (negsuc n) i h = absurd (omega (arith, ints))

pub names_down : (name : ℤ) (i : ℕ) → name <ℤ pos 0 → false ≡ names name i
unfolding names
names_down (pos n) i h = absurd (omega (arith, ints))
names_down (negsuc n) i h = refl

-- what is made of the item at a place, or of the item that is none, where there is nothing at that place
pub looked_up : {A B : Type 0} (xs : List A) (i : ℕ) (none : A) (give : A → B) (o : Option (Bor A)) (P : Bor A → Type 0) (default r : B) → default ≡ give none → MatchOption o (length xs ≤ i) (λ x. (i < length xs) × HoldsAt (λ y. x.now ≡ y) xs i) → ((x : Bor A) → P x → r ≡ give x.now) → MatchOption o (r ≡ default) P → r ≡ give (get_or xs i none)
looked_up xs i none give None P default r e at says m = m ∙ e ∙ ap give (sym (get_or-eq_default xs none at))
looked_up xs i none give (Some x) P default r e at says m = says x m ∙ ap give (at.1 none)

pub loss_by : (result : ℤ) (r : ℕ) → (result <ℤ pos 0 → r ≡ nat_abs result) → (pos 0 ≤ℤ result → r ≡ 0) → r ≡ loss_of result
unfolding loss_of
loss_by (pos n) r down up = up (omega (arith, ints))
loss_by (negsuc n) r down up = down (omega (arith, ints))
