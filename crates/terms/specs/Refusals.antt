-- The number of each refusal, and the place that it points at.
use Rattle.std.specs.Prelude.{ℕ}
use Rattle.terms.specs.declared.refusal.Refusal.{Refusal}
use Rattle.terms.specs.declared.refusal.Refusal.TheVariants.{Malformed, OutsideField, WrongForm, BadCard, WrongLength, WrongShape, ReachTooLarge, NoSuchLine, BadQuantity, BadPrice, BadAmount, OrdersFull, NetTooLarge, TooManyContracts, NotCovered, NoSuchOrder, MoreThanLeft, WorseThanLimit, CollateralTooLarge}

abbrev pub number_of : Refusal → ℕ
number_of (Malformed byte) = 1
number_of (OutsideField at) = 2
number_of (WrongForm byte) = 3
number_of (BadCard card) = 4
number_of (WrongLength wanted) = 5
number_of WrongShape = 6
number_of ReachTooLarge = 7
number_of NoSuchLine = 8
number_of BadQuantity = 9
number_of BadPrice = 10
number_of BadAmount = 11
number_of OrdersFull = 21
number_of NetTooLarge = 22
number_of TooManyContracts = 23
number_of NotCovered = 24
number_of NoSuchOrder = 25
number_of MoreThanLeft = 26
number_of WorseThanLimit = 27
number_of CollateralTooLarge = 28

-- a byte, an entry, a card or a length where the case holds one, and 0 elsewhere
abbrev pub place_of : Refusal → ℕ
place_of (Malformed byte) = byte
place_of (OutsideField at) = at
place_of (WrongForm byte) = byte
place_of (BadCard card) = card
place_of (WrongLength wanted) = wanted
place_of WrongShape = 0
place_of ReachTooLarge = 0
place_of NoSuchLine = 0
place_of BadQuantity = 0
place_of BadPrice = 0
place_of BadAmount = 0
place_of OrdersFull = 0
place_of NetTooLarge = 0
place_of TooManyContracts = 0
place_of NotCovered = 0
place_of NoSuchOrder = 0
place_of MoreThanLeft = 0
place_of WorseThanLimit = 0
place_of CollateralTooLarge = 0
