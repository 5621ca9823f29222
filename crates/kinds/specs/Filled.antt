-- Which number of a form goes into which part of its record: by the inner form that it stands in, and its index there.
use Rattle.std.specs.Prelude.{ℕ, zero, suc, ℤ, pos, Some, None}
use Rattle.kinds.specs.declared.Order.{Order}
use Rattle.terms.specs.declared.cards.Basket.{Basket}
use Rattle.terms.specs.declared.cards.Family.{Family}
use Rattle.terms.specs.declared.cards.Held.{Held}
use Rattle.terms.specs.declared.cards.Limits.{Limits}
use Rattle.terms.specs.declared.cards.Line.{Line}
use Rattle.terms.specs.declared.cards.Rates.{Rates}
use Rattle.terms.specs.Halves.{half_of}
use Rattle.terms.specs.declared.half.Half.{Half}

abbrev pub no_line : Line
no_line = record { month = pos 0; price = pos 0; spot = pos 0; change = pos 0; rates = record { r1 = pos 0; r2 = pos 0; r3 = pos 0 }; limits = record { a = pos 0; b = pos 0 } }

-- the half of a size; the field takes no other number
abbrev pub half_with : Half → ℤ → Half
half_with half n = elim (half_of n) [ Some h ↦ h | None ↦ half ]

abbrev pub family_with : ℕ → Family → ℕ → ℤ → Family
family_with zero f index n = record { rule = n; window = f.window }
family_with (suc inner) f index n = record { rule = f.rule; window = n }

abbrev pub basket_with : ℕ → Basket → ℕ → ℤ → Basket
basket_with zero f index n = record { family = n; rule = f.rule }
basket_with (suc inner) f index n = record { family = f.family; rule = n }

abbrev pub held_with : ℕ → Held → ℕ → ℤ → Held
held_with zero h index n = record { line = n; net = h.net; price = h.price }
held_with (suc zero) h index n = record { line = h.line; net = n; price = h.price }
held_with (suc (suc inner)) h index n = record { line = h.line; net = h.net; price = n }

abbrev pub rate_with : Rates → ℕ → ℤ → Rates
rate_with r zero n = record { r1 = n; r2 = r.r2; r3 = r.r3 }
rate_with r (suc zero) n = record { r1 = r.r1; r2 = n; r3 = r.r3 }
rate_with r (suc (suc index)) n = record { r1 = r.r1; r2 = r.r2; r3 = n }

abbrev pub limit_with : Limits → ℕ → ℤ → Limits
limit_with l zero n = record { a = n; b = l.b }
limit_with l (suc index) n = record { a = l.a; b = n }

abbrev pub future_with : ℕ → Line → ℕ → ℤ → Line
future_with zero l index n = record { month = n; price = l.price; spot = l.spot; change = l.change; rates = l.rates; limits = l.limits }
future_with (suc zero) l index n = record { month = l.month; price = n; spot = l.spot; change = l.change; rates = l.rates; limits = l.limits }
future_with (suc (suc zero)) l index n = record { month = l.month; price = l.price; spot = n; change = l.change; rates = l.rates; limits = l.limits }
future_with (suc (suc (suc zero))) l index n = record { month = l.month; price = l.price; spot = l.spot; change = n; rates = l.rates; limits = l.limits }
future_with (suc (suc (suc (suc zero)))) l index n = record { month = l.month; price = l.price; spot = l.spot; change = l.change; rates = rate_with l.rates index n; limits = l.limits }
future_with (suc (suc (suc (suc (suc inner))))) l index n = record { month = l.month; price = l.price; spot = l.spot; change = l.change; rates = l.rates; limits = limit_with l.limits index n }

abbrev pub order_with : ℕ → Order → ℤ → Order
order_with zero o n = record { line = n; net = o.net; price = o.price }
order_with (suc zero) o n = record { line = o.line; net = n; price = o.price }
order_with (suc (suc inner)) o n = record { line = o.line; net = o.net; price = n }
