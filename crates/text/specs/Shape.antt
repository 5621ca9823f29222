-- The shape of a text, as a walk over its bytes: what may follow what.
use Rattle.std.specs.Prelude.{ℕ, ◌+◌, Bool, true, false, ◌&&◌, List, [], ◌∷◌, Some, None, Option, ◌==◌, nat_lt}
use Rattle.std.specs.Char.{is_ascii_digit, is_ascii_lowercase}
use Rattle.std.specs.Int.{is_in_range}
use Rattle.text.specs.declared.shape.State.{State}
use Rattle.text.specs.declared.shape.State.TheVariants.{Line, OuterOpen, OuterHead, OuterSpace, InnerOpen, InnerHead, InnerSpace, Minus, Zero, Digits, InnerClosed, OuterClosed}

-- the state s where the test holds, and else what other says
abbrev pub when : Bool → State → Option State → Option State
when true s other = Some s
when false s other = other

-- behind a head or an inner form: a space (32), or the closing bracket (41)
abbrev pub more_forms : ℕ → Option State
more_forms b = when (b == 32) OuterSpace (when (b == 41) OuterClosed None)

-- behind a head or a number
abbrev pub more_numbers : ℕ → Option State
more_numbers b = when (b == 32) InnerSpace (when (b == 41) InnerClosed None)

-- the state behind a byte, or none where the byte cannot stand there
abbrev pub step : State → ℕ → Option State
step Line b = when (b == 40) OuterOpen None
step OuterOpen b = when (is_ascii_lowercase b) OuterHead None
step OuterHead b = when (is_ascii_lowercase b) OuterHead (more_forms b)
step OuterSpace b = when (b == 40) InnerOpen None
step InnerOpen b = when (is_ascii_lowercase b) InnerHead None
step InnerHead b = when (is_ascii_lowercase b) InnerHead (more_numbers b)
step InnerSpace b = when (b == 45) Minus (when (b == 48) Zero (when (is_in_range 49 57 b) (Digits 1) None))
step Minus b = when (is_in_range 49 57 b) (Digits 1) None
step Zero b = more_numbers b
step (Digits k) b = when (is_ascii_digit b && nat_lt k 15) (Digits (k + 1)) (more_numbers b)
step InnerClosed b = more_forms b
step OuterClosed b = when (b == 10) Line None

-- a text may end before a line, and nowhere else
abbrev pub ends_at : State → ℕ → Option ℕ
ends_at Line place = None
ends_at OuterOpen place = Some place
ends_at OuterHead place = Some place
ends_at OuterSpace place = Some place
ends_at InnerOpen place = Some place
ends_at InnerHead place = Some place
ends_at InnerSpace place = Some place
ends_at Minus place = Some place
ends_at Zero place = Some place
ends_at (Digits k) place = Some place
ends_at InnerClosed place = Some place
ends_at OuterClosed place = Some place

-- the first byte that cannot stand where it does, or the end where the text cannot end; place is that of the first byte
abbrev pub stops : State → ℕ → List ℕ → Option ℕ
stops s place [] = ends_at s place
stops s place (b ∷ bs) = elim (step s b) [ None ↦ Some place | Some t ↦ stops t (place + 1) bs ]

unfoldable pub malformed_at : List ℕ → Option ℕ
malformed_at bs = stops Line 0 bs
