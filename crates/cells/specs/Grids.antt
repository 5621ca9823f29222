-- The grid of a bank.
use Rattle.std.specs.Prelude.{ℕ, ◌*◌}
use Rattle.terms.specs.Halves.{half_size}
use Rattle.banks.specs.Meanings.{Meaning}

-- the last point is twice the half
abbrev pub last_of : Meaning → ℕ
last_of bank = 2 * half_size bank.half
