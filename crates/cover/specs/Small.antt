-- Positions and orders whose numbers lie within what an account may have.
use Rattle.std.specs.Prelude.{Bool, not, ◌&&◌, List, length, pos, negsuc, is_some, nat_le}
use Rattle.terms.specs.Cards.{within}
use Rattle.terms.specs.Judging.{failing}
use Rattle.margin.specs.declared.book.Open.{Open}
use Rattle.margin.specs.declared.book.Position.{Position}

-- a net of at most 10,000 contracts, and a cost of at most 2 to the 56th power
abbrev pub small_position : Position → Bool
small_position p = within (negsuc 9999) (pos 10000) p.net && within (negsuc 72057594037927935) (pos 72057594037927936) p.cost

abbrev pub small_order : Open → Bool
small_order o = within (negsuc 9999) (pos 10000) o.left && within (pos 0) (pos 10000000) o.limit

-- at most 32 orders, and all of them small
abbrev pub small_book : List Position → List Open → Bool
small_book positions orders = nat_le (length orders) 32 && (not (is_some (failing (λ _. small_position) 0 positions)) && not (is_some (failing (λ _. small_order) 0 orders)))
