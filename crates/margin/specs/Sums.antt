-- Adding up over numbers, and the least of a row with its first place. Every layer from the cells to the margin is made of these.
use Rattle.std.specs.Prelude.{ℕ, zero, suc, Bool, true, false, ℤ, pos, ◌+ℤ◌, Some, int_le}
use Rattle.order.specs.Orders.{lesser_of}

-- the sum of what each number below n gives, over those that pass the test
unfoldable pub total : ℕ → (ℕ → Bool) → (ℕ → ℤ) → ℤ
total zero test part = pos 0
total (suc n) test part = total n test part +ℤ elim (test n) [ true ↦ part n | false ↦ pos 0 ]

-- the least of a row's items at first, first + 1, .., first + more, and the first place where it stands
unfoldable pub least : {A : Type 0} → (A → A → Bool) → (ℕ → A) → ℕ → ℕ → A × ℕ
least at_most row first zero = (row first, first)
least at_most row first (suc more) = lesser_of at_most (row first, first) (Some (least at_most row (suc first) more))

abbrev pub of3 : ℤ → ℤ → ℤ → ℕ → ℤ
of3 a b c zero = a
of3 a b c (suc zero) = b
of3 a b c (suc (suc n)) = c

-- the least of three, and the first of the places 0, 1, 2 where it stands
unfoldable pub least3 : ℤ → ℤ → ℤ → ℤ × ℕ
least3 a b c = least int_le (of3 a b c) 0 2
