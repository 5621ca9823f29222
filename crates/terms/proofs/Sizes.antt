-- How large a number is that lies within a range, and how large the numbers of a future are that fits.
use Rattle.std.proofs.Common.{◌≡◌, ℕ, suc, ◌≤◌, true, ℤ, pos, negsuc, ◌-ℤ◌, nat_abs, arith}
use lib.Signed.{le_z}
use Rattle.std.proofs.lemmas.Int.{ints}
use Rattle.std.proofs.lemmas.Bool.{and_parts}
use Rattle.terms.specs.Cards.{within, future_fits}
use Rattle.terms.specs.declared.cards.Line.{Line}

-- a number from 0 up to a bound, and one from minus the bound up to it
pub range_size : (high : ℕ) (n : ℤ) → within (pos 0) (pos high) n ≡ true → nat_abs n ≤ high
range_size high n h = sides (and_parts (le_z (pos 0) n) (le_z n (pos high)) h)
  where
    sides : (le_z (pos 0) n ≡ true) × (le_z n (pos high) ≡ true) → nat_abs n ≤ high
    sides (a, b) = omega (arith, ints)

pub around_0_size : (high : ℕ) (n : ℤ) → within (negsuc high) (pos (suc high)) n ≡ true → nat_abs n ≤ suc high
around_0_size high n h = sides (and_parts (le_z (negsuc high) n) (le_z n (pos (suc high))) h)
  where
    sides : (le_z (negsuc high) n ≡ true) × (le_z n (pos (suc high)) ≡ true) → nat_abs n ≤ suc high
    sides (a, b) = omega (arith, ints)

-- ---- a future
pub record FutureSizes (l : Line) : Type 0 where
  pub price : nat_abs l.price ≤ 10000000
  pub spot : nat_abs l.spot ≤ 10000000
  pub change : nat_abs l.change ≤ 1000000
  pub r1 : nat_abs l.rates.r1 ≤ 10000
  pub r2 : nat_abs l.rates.r2 ≤ 10000
  pub r3 : nat_abs l.rates.r3 ≤ 10000
  pub second : nat_abs (l.rates.r2 -ℤ l.rates.r1) ≤ 10000
  pub third : nat_abs (l.rates.r3 -ℤ l.rates.r2) ≤ 10000
  pub a : nat_abs l.limits.a ≤ 10000
  pub b : nat_abs l.limits.b ≤ 10000

chain : (a b c : ℤ) → le_z (pos 1) a ≡ true → le_z a b ≡ true → le_z b c ≡ true → le_z c (pos 10000) ≡ true → (nat_abs a ≤ 10000) × (nat_abs b ≤ 10000) × (nat_abs c ≤ 10000) × (nat_abs (b -ℤ a) ≤ 10000) × (nat_abs (c -ℤ b) ≤ 10000)
chain a b c one up upper top = omega (arith, ints)

limits : (a b : ℤ) → le_z (pos 0) a ≡ true → le_z a b ≡ true → le_z b (pos 10000) ≡ true → (nat_abs a ≤ 10000) × (nat_abs b ≤ 10000)
limits a b low up top = omega (arith, ints)

pub future_sizes : (l : Line) → future_fits l ≡ true → FutureSizes l
future_sizes l h =
    let limited = and_parts _ _ h in
    let rated = and_parts _ _ limited.0 in
    let changed = and_parts _ _ rated.0 in
    let priced = and_parts _ _ changed.0 in
    let top = and_parts _ _ rated.1 in
    let upper = and_parts _ _ top.0 in
    let up = and_parts _ _ upper.0 in
    let high = and_parts _ _ limited.1 in
    let low = and_parts _ _ high.0 in
    let r = chain l.rates.r1 l.rates.r2 l.rates.r3 up.0 up.1 upper.1 top.1 in
    let s = limits l.limits.a l.limits.b low.0 low.1 high.1 in
    record {
      price = range_size 10000000 l.price priced.0;
      spot = range_size 10000000 l.spot priced.1;
      change = range_size 1000000 l.change changed.1;
      r1 = r.0;
      r2 = r.1;
      r3 = r.2;
      second = r.3;
      third = r.4;
      a = s.0;
      b = s.1;
    }
