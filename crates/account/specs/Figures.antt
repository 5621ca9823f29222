-- The margins of small accounts after their calls, worked out by the definitions.
use Rattle.std.specs.Prelude.{◌≡◌, ℕ, List, [], ◌∷◌, ℤ, pos, negsuc, Ok, Err, Result}
use Rattle.terms.specs.declared.cards.Held.{Held}
use Rattle.terms.specs.declared.half.Half.TheVariants.{One}
use Rattle.terms.specs.declared.refusal.Refusal.{Refusal}
use Rattle.terms.specs.declared.refusal.Refusal.TheVariants.{NotCovered}
use Rattle.banks.specs.Strips.{strip_of}
use Rattle.margin.specs.Book.{Cards}
use Rattle.margin.specs.Figures.{one_future, two_months}
use Rattle.account.specs.declared.call.Call.{Call}
use Rattle.account.specs.declared.call.Call.TheVariants.{Place, Fill}
use Rattle.account.specs.Account.{State, Answer, Numbered, margin_of, run, answers}
use Rattle.account.specs.Begin.{begin}

-- an account over the strip of its cards, which are futures alone
unfoldable pub begun : Cards → List Held → ℤ → Result State Refusal
begun cards held collateral = begin (strip_of One cards.lines) cards held collateral

-- its margin after calls
unfoldable pub margin_after : Result State Refusal → List Call → Result ℕ Refusal
margin_after (Ok s) calls = Ok (margin_of (run s calls))
margin_after (Err why) calls = Err why

-- what its calls are told
unfoldable pub told : Result State Refusal → List Call → List (Result Answer Refusal)
told (Ok s) calls = answers s calls
told (Err why) calls = []

-- ---- accounts
unfoldable pub holding : ℤ → ℤ → ℤ → Held
holding line net price = record { line = line; net = net; price = price }

unfoldable pub empty : ℤ → Result State Refusal
empty collateral = begun one_future [] collateral

-- twelve contracts at the price of the day
unfoldable pub twelve : Result State Refusal
twelve = begun one_future (holding (pos 0) (pos 12) (pos 100000) ∷ []) (pos 1000000)

-- three contracts of one month against two of the next, in a basket that is not netted
unfoldable pub spread : Result State Refusal
spread = begun (two_months (pos 0)) (holding (pos 0) (pos 3) (pos 100000) ∷ holding (pos 1) (negsuc 1) (pos 100000) ∷ []) (pos 500000)

-- ---- calls
unfoldable pub sell_of_five : Call
sell_of_five = Place (pos 0) (negsuc 4) (pos 100000)

unfoldable pub buy_at : ℤ → ℤ → Call
buy_at quantity limit = Place (pos 0) quantity limit

-- ---- figures
pub record Figures : Type 0 where
  pub nothing_held : margin_after (empty (pos 0)) [] ≡ Ok 0
  pub a_sell_open : margin_after twelve (sell_of_five ∷ []) ≡ Ok 130000
  pub the_sell_filled : margin_after twelve (sell_of_five ∷ Fill (pos 1) (pos 5) (pos 100000) ∷ []) ≡ Ok 70000
  pub a_buy_at_the_lowest : margin_after (empty (pos 1)) (buy_at (pos 1) (pos 90000) ∷ []) ≡ Ok 0
  pub a_buy_above_it : margin_after (empty (pos 1)) (buy_at (pos 1) (pos 90001) ∷ []) ≡ Ok 1
  pub one_more_is_not_covered : told (empty (pos 100000)) (buy_at (pos 10) (pos 100000) ∷ buy_at (pos 1) (pos 100000) ∷ []) ≡ Ok (Numbered 1) ∷ Err NotCovered ∷ []
  pub half_months : margin_after spread (buy_at (pos 1) (pos 95000) ∷ []) ≡ Ok 37000
