use Rattle.std.proofs.Common.{◌≡◌, ◌+◌, ◌-◌, ◌^◌, ◌<◌, ◌≤◌, drop}
use Rattle.text.specs.Numbers.{digits_on}
use Rattle.text.proofs.number.digits_on.Given as goal

abbrev pub invariant-loop-index : goal.invariant-loop-index
invariant-loop-index l =
    (l.index ≤ 14) × (l.value < 10 ^ (l.index + 1)) × (digits_on (l.index + 1) l.value (drop l.index l.rest) ≡ digits_on 1 (l.first - 48) l.rest)
