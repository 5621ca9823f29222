-- What a kind of form asks of an inner form.
use Rattle.std.specs.Prelude.{ℕ, Bool, true, List, [], ◌∷◌, ℤ, is_some}
use Rattle.terms.specs.Cards.{within}
use Rattle.terms.specs.Halves.{half_of}
use Rattle.forms.specs.declared.field.Allowed.{Allowed}
use Rattle.forms.specs.declared.field.Allowed.TheVariants.{Any, Between, HalfSize}
use Rattle.forms.specs.declared.field.Field.{Field}

-- whether a field takes a number
abbrev pub allows : Allowed → ℤ → Bool
allows Any n = true
allows (Between low high) n = within low high n
allows HalfSize n = is_some (half_of n)

-- its head, how many numbers it has, and which
pub record Asked : Type 0 where
  pub head : List ℕ
  pub count : ℕ
  pub allowed : Allowed

abbrev pub asked : Field → Asked
asked f = record { head = f.head.now; count = f.count; allowed = f.allowed }

abbrev pub all_asked : List Field → List Asked
all_asked [] = []
all_asked (f ∷ fs) = asked f ∷ all_asked fs
