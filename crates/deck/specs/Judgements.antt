-- Which cards and held records an account may begin with.
use Rattle.std.specs.Prelude.{ℕ, ◌+◌, Bool, true, not, ◌&&◌, ◌||◌, leb, List, [], ◌∷◌, length, ℤ, pos, negsuc, Some, None, Option, Result, ◌==◌, int_le, int_lt, nat_le}
use Rattle.terms.specs.Cards.{within, future_fits}
use Rattle.terms.specs.Checks.{unless, refused_at, decided}
use Rattle.terms.specs.Judging.{failing}
use Rattle.terms.specs.declared.cards.Basket.{Basket}
use Rattle.terms.specs.declared.cards.Family.{Family}
use Rattle.terms.specs.declared.cards.Held.{Held}
use Rattle.terms.specs.declared.cards.Line.{Line}
use Rattle.terms.specs.declared.cards.Month.{Month}
use Rattle.terms.specs.declared.refusal.Refusal.{Refusal}
use Rattle.terms.specs.declared.refusal.Refusal.TheVariants.{BadCard, WrongShape}
use Rattle.margin.specs.Book.{Cards}

-- what is read where there is no card
abbrev pub no_basket : Basket
no_basket = record { family = pos 0; rule = pos 0 }

abbrev pub no_month : Month
no_month = record { basket = pos 0 }

abbrev pub no_line : Line
no_line = record { month = pos 0; price = pos 0; spot = pos 0; change = pos 0; rates = record { r1 = pos 0; r2 = pos 0; r3 = pos 0 }; limits = record { a = pos 0; b = pos 0 } }

-- ---- one card

-- a rule is 0, half, or 1, netted
abbrev pub rule_fits : ℤ → Bool
rule_fits rule = within (pos 0) (pos 1) rule

-- whether a name names one of so many
abbrev pub name_fits : ℕ → ℤ → Bool
name_fits count name = int_le (pos 0) name && int_lt name (pos count)

abbrev pub family_fits : Family → Bool
family_fits card = rule_fits card.rule && within (pos 0) (pos 16) card.window

abbrev pub basket_fits : ℕ → Basket → Bool
basket_fits families card = name_fits families card.family && rule_fits card.rule

abbrev pub month_fits : ℕ → Month → Bool
month_fits baskets card = name_fits baskets card.basket

-- the first lines are futures, whose numbers are judged; of an option only its month is read
abbrev pub line_fits : ℕ → ℕ → ℕ → Line → Bool
line_fits months futures place card = name_fits months card.month && (nat_le futures place || future_fits card)

-- a record of another line
abbrev pub is_other : ℤ → Held → Bool
is_other line h = not (within line line h.line)

-- whether no record before a place holds the line
abbrev pub is_first : ℤ → List Held → ℕ → Bool
is_first line all place = elim (failing (λ _. is_other line) 0 all) [ None ↦ true | Some earliest ↦ leb place earliest ]

-- a held record names a line that none before it holds
abbrev pub held_fits : ℕ → List Held → ℕ → Held → Bool
held_fits lines all place h = (name_fits lines h.line && within (negsuc 9999) (pos 10000) h.net) && (within (pos 0) (pos 10000000) h.price && is_first h.line all place)

-- ---- all cards, in their order

-- a place in one list, or in what comes after its so many items
abbrev pub along : Option ℕ → ℕ → Option ℕ → Option ℕ
along (Some place) count later = Some place
along None count None = None
along None count (Some place) = Some (count + place)

-- the place of the first card or held record that does not fit, counted through all lists
abbrev pub first_unfit : Cards → List Held → Option ℕ
first_unfit cards held =
    along (failing (λ place. family_fits) 0 cards.families) (length cards.families)
    (along (failing (λ place. basket_fits (length cards.families)) 0 cards.baskets) (length cards.baskets)
    (along (failing (λ place. month_fits (length cards.baskets)) 0 cards.months) (length cards.months)
    (along (failing (line_fits (length cards.months) cards.futures) 0 cards.lines) (length cards.lines)
    (failing (held_fits (length cards.lines) held) 0 held))))

-- 6: 1 to 2 families, 1 to 4 baskets, 1 to 8 months, 1 to 16 lines, as many as the bank has, the first of them futures, at least one
abbrev pub counted : ℕ → Cards → Bool
counted bank_lines cards =
    ((within (pos 1) (pos 2) (pos (length cards.families)) && within (pos 1) (pos 4) (pos (length cards.baskets))) && within (pos 1) (pos 8) (pos (length cards.months)))
    && ((within (pos 1) (pos 16) (pos (length cards.lines)) && length cards.lines == bank_lines) && within (pos 1) (pos (length cards.lines)) (pos cards.futures))

-- 4 comes before 6
abbrev pub cards_judged : ℕ → Cards → List Held → Result Cards Refusal
cards_judged bank_lines cards held = decided (refused_at BadCard (first_unfit cards held) ∷ unless (counted bank_lines cards) WrongShape ∷ []) cards
