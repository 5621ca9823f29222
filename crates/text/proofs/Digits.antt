-- Numbers of at most 14 or 15 digits.
use Rattle.std.proofs.Common.{ℕ, ◌^◌, ◌<◌, ◌≤◌, arith}
use native.Mathlib.Nat.{pow-le-pow_right}

pub under_all : (n v : ℕ) → n ≤ 15 → v < 10 ^ n → v < 10 ^ 15
under_all n v h k = let top : 10 ^ n ≤ 10 ^ 15 = pow-le-pow_right (omega arith) h in omega arith

pub under_most : (n v : ℕ) → n ≤ 14 → v < 10 ^ n → v < 10 ^ 14
under_most n v h k = let top : 10 ^ n ≤ 10 ^ 14 = pow-le-pow_right (omega arith) h in omega arith
