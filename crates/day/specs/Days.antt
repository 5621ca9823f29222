-- What the account of a day answers: its bank, its calls, and how they run.
use Rattle.std.specs.Prelude.{ℕ, true, false, List, [], ◌∷◌, ◌++◌, map, length, pos, Ok, Result, ◌==◌, unsigned_abs}
use Rattle.terms.specs.Halves.{half_size}
use Rattle.terms.specs.declared.refusal.Refusal.{Refusal}
use Rattle.banks.specs.Meanings.{Meaning}
use Rattle.banks.specs.Strips.{strip_made}
use Rattle.banks.specs.Tables.{table_made}
use Rattle.banks.specs.Layers.{pair_made}
use Rattle.kinds.specs.declared.Order.{Order}
use Rattle.account.specs.declared.call.Call.{Call}
use Rattle.account.specs.declared.call.Call.TheVariants.{Place, Margin}
use Rattle.account.specs.Account.{Answer, answers}
use Rattle.account.specs.Begin.{begin}
use Rattle.load.specs.Days.{Day}
use Rattle.load.specs.Loading.{cards_of, next, wanted, loading}

-- a strip beside a table of the options' rows
abbrev pub beside_table : Day → Meaning → Result Meaning Refusal
beside_table day strip = next (table_made (pos (half_size day.half)) (pos (length day.options)) day.prices) (λ table. pair_made strip table)

-- the strip alone if there are no options
abbrev pub strip_alone : Day → Meaning → Result Meaning Refusal
strip_alone day strip = elim (length day.options == 0) [ true ↦ Ok strip | false ↦ beside_table day strip ]

-- the strip of the futures, beside the table if there are options
abbrev pub bank_made : Day → Result Meaning Refusal
bank_made day = next (strip_made (pos (half_size day.half)) day.futures) (strip_alone day)

abbrev pub placing : Order → Call
placing o = Place o.line o.net o.price

-- the orders are placed one after the other, and then margin is asked for
abbrev pub calls_of : List Order → List Call
calls_of orders = map placing orders ++ Margin ∷ []

-- what the account of a day is told over a bank, call by call; or what refuses its begin
abbrev pub bank_told : Day → Meaning → Result (List (Result Answer Refusal)) Refusal
bank_told day bank = next (begin bank (cards_of day) day.held day.cash) (λ begun. Ok (answers begun (calls_of day.orders)))

abbrev pub day_told : Day → Result (List (Result Answer Refusal)) Refusal
day_told day = next (bank_made day) (bank_told day)

-- the same from a session file's bytes, with the collateral in kopecks; a file that is refused has no day
abbrev pub session_told : List ℕ → Result (ℕ × List (Result Answer Refusal)) Refusal
session_told text = next (loading wanted text) (λ day. next (day_told day) (λ told. Ok (unsigned_abs day.cash, told)))
