-- The kinds of form of a session file: the head of each, its inner forms in their order with the numbers that they take, and the record that these fill.
use Rattle.std.specs.Prelude.{ℕ, List, [], ◌∷◌, ℤ, pos, negsuc, codes}
use Rattle.forms.specs.Fields.{Asked}
use Rattle.forms.specs.declared.field.Allowed.TheVariants.{Any, Between, HalfSize}
use Rattle.terms.specs.declared.cards.Basket.{Basket}
use Rattle.terms.specs.declared.cards.Family.{Family}
use Rattle.terms.specs.declared.cards.Held.{Held}
use Rattle.terms.specs.declared.cards.Line.{Line}
use Rattle.terms.specs.declared.cards.Month.{Month}
use Rattle.terms.specs.declared.half.Half.{Half}
use Rattle.terms.specs.declared.half.Half.TheVariants.{One}
use Rattle.kinds.specs.declared.Order.{Order}
use Rattle.kinds.specs.Filled.{no_line, half_with, family_with, basket_with, future_with, held_with, order_with}

pub record Format (R : Type 0) : Type 0 where
  pub head : List ℕ
  pub fields : List Asked
  -- the record before any number is read
  pub empty : R
  -- the record with a number filled in, by the inner form that it stands in and its index there
  pub fill : ℕ → R → ℕ → ℤ → R

abbrev pub grid_format : Format Half
grid_format = record {
  head = codes "grid";
  fields = record { head = codes "half"; count = 1; allowed = HalfSize } ∷ [];
  empty = One;
  fill = λ _ half _ n. half_with half n;
}

abbrev pub family_format : Format Family
family_format = record {
  head = codes "family";
  fields =
      record { head = codes "rule"; count = 1; allowed = Between (pos 0) (pos 1) }
      ∷ record { head = codes "window"; count = 1; allowed = Between (pos 0) (pos 16) } ∷ [];
  empty = record { rule = pos 0; window = pos 0 };
  fill = family_with;
}

abbrev pub basket_format : Format Basket
basket_format = record {
  head = codes "basket";
  fields =
      record { head = codes "family"; count = 1; allowed = Any }
      ∷ record { head = codes "rule"; count = 1; allowed = Between (pos 0) (pos 1) } ∷ [];
  empty = record { family = pos 0; rule = pos 0 };
  fill = basket_with;
}

abbrev pub month_format : Format Month
month_format = record {
  head = codes "month";
  fields = record { head = codes "basket"; count = 1; allowed = Any } ∷ [];
  empty = record { basket = pos 0 };
  fill = λ _ _ _ n. record { basket = n };
}

abbrev pub future_format : Format Line
future_format = record {
  head = codes "future";
  fields =
      record { head = codes "month"; count = 1; allowed = Any }
      ∷ record { head = codes "price"; count = 1; allowed = Between (pos 0) (pos 10000000) }
      ∷ record { head = codes "spot"; count = 1; allowed = Between (pos 0) (pos 10000000) }
      ∷ record { head = codes "change"; count = 1; allowed = Between (pos 0) (pos 1000000) }
      ∷ record { head = codes "rates"; count = 3; allowed = Between (pos 1) (pos 10000) }
      ∷ record { head = codes "limits"; count = 2; allowed = Between (pos 0) (pos 10000) } ∷ [];
  empty = no_line;
  fill = future_with;
}

abbrev pub option_format : Format Line
option_format = record {
  head = codes "option";
  fields = record { head = codes "month"; count = 1; allowed = Any } ∷ [];
  empty = no_line;
  fill = λ _ l _ n. record { month = n; price = l.price; spot = l.spot; change = l.change; rates = l.rates; limits = l.limits };
}

abbrev pub cash_format : Format ℤ
cash_format = record {
  head = codes "cash";
  fields = record { head = codes "amount"; count = 1; allowed = Between (pos 0) (pos 100000000000000) } ∷ [];
  empty = pos 0;
  fill = λ _ _ _ n. n;
}

abbrev pub held_format : Format Held
held_format = record {
  head = codes "held";
  fields =
      record { head = codes "line"; count = 1; allowed = Any }
      ∷ record { head = codes "net"; count = 1; allowed = Between (negsuc 9999) (pos 10000) }
      ∷ record { head = codes "price"; count = 1; allowed = Between (pos 0) (pos 10000000) } ∷ [];
  empty = record { line = pos 0; net = pos 0; price = pos 0 };
  fill = held_with;
}

abbrev pub order_format : Format Order
order_format = record {
  head = codes "order";
  fields =
      record { head = codes "line"; count = 1; allowed = Any }
      ∷ record { head = codes "net"; count = 1; allowed = Any }
      ∷ record { head = codes "price"; count = 1; allowed = Any } ∷ [];
  empty = record { line = pos 0; net = pos 0; price = pos 0 };
  fill = λ inner o _ n. order_with inner o n;
}
