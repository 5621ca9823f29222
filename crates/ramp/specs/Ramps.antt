-- A ramp: one line whose price rises by a tick from point to point. And what a pile of layers over ramps comes to.
use Rattle.std.specs.Prelude.{ℕ, ◌+◌, ◌*◌, true, false, ℤ, pos, ◌-ℤ◌, Ok, Err, Result, nat_lt}
use Rattle.terms.specs.Halves.{half_size}
use Rattle.terms.specs.declared.refusal.Refusal.{Refusal}
use Rattle.banks.specs.Layers.{pair_made, scale_made}
use Rattle.banks.specs.Meanings.{Meaning, bounded}
use Rattle.ramp.specs.declared.Ramp.{Ramp}

-- the price that stands in each cell: the volatility curves hold it, and rates and twists do not change it
abbrev pub climbing : Ramp → ℕ → ℕ → ℕ → ℤ
climbing r line point column = elim (nat_lt column 3) [ true ↦ pos (r.start + point * r.tick) | false ↦ pos 0 ]

abbrev pub ramp_meaning : Ramp → Meaning
ramp_meaning r = bounded r.half 1 (r.start + 16 * r.tick) (climbing r)

-- a step that follows where the one before it made a bank
abbrev pub then : Result Meaning Refusal → (Meaning → Result Meaning Refusal) → Result Meaning Refusal
then (Ok made) next = next made
then (Err why) next = Err why

-- the second ramp is scaled, set beside the first, and the two are scaled together
abbrev pub pile_made : Ramp → Ramp → ℤ → ℤ → Result Meaning Refusal
pile_made a b inner outer = then (scale_made inner (ramp_meaning b)) (λ scaled. then (pair_made (ramp_meaning a) scaled) (scale_made outer))

-- how far the price of a line lies apart at the two ends of the grid, on the first volatility curve
abbrev pub swing_of : Meaning → ℕ → ℤ
swing_of m line = m.price line (2 * half_size m.half) 0 -ℤ m.price line 0 0
