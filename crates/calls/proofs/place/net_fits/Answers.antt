use Rattle.std.proofs.Common.{arith}
use Rattle.std.proofs.lemmas.Int.{to_z-of_z}
use Rattle.calls.proofs.place.net_fits.Goals as goal

pub returns-then-net-open_buys-le-MOST_CONTRACTS : goal.returns-then-net-open_buys-le-MOST_CONTRACTS
returns-then-net-open_buys-le-MOST_CONTRACTS c = grind (arith, to_z-of_z)
