-- Which numbers a card may have.
use Rattle.std.specs.Prelude.{Bool, ◌&&◌, ℤ, pos, int_le}
use Rattle.terms.specs.declared.cards.Rates.{Rates}
use Rattle.terms.specs.declared.cards.Limits.{Limits}
use Rattle.terms.specs.declared.cards.Line.{Line}

-- low ≤ n ≤ high
abbrev pub within : ℤ → ℤ → ℤ → Bool
within low high n = int_le low n && int_le n high

-- each rate is 1 to 10,000, and none falls
abbrev pub rates_fit : Rates → Bool
rates_fit r = ((int_le (pos 1) r.r1 && int_le r.r1 r.r2) && int_le r.r2 r.r3) && int_le r.r3 (pos 10000)

-- each limit is 0 to 10,000, and the second is no lower
abbrev pub limits_fit : Limits → Bool
limits_fit l = (int_le (pos 0) l.a && int_le l.a l.b) && int_le l.b (pos 10000)

-- price and spot price are 0 to 10,000,000, and a change is 0 to 1,000,000
abbrev pub prices_fit : Line → Bool
prices_fit l = (within (pos 0) (pos 10000000) l.price && within (pos 0) (pos 10000000) l.spot) && within (pos 0) (pos 1000000) l.change

-- every number of a future but its month lies in its field
abbrev pub future_fits : Line → Bool
future_fits l = (prices_fit l && rates_fit l.rates) && limits_fit l.limits
