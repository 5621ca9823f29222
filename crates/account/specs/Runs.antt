-- What holds of an account after any string of calls, refused ones among them.
use Rattle.std.specs.Prelude.{◌≡◌, ℕ, ◌*◌, ◌≤◌, Bool, true, false, List, [], ◌∷◌, ℤ, pos, ◌≤ℤ◌, is_ok, Some, None, Ok, Err, Option, Result}
use Rattle.terms.specs.declared.cards.Held.{Held}
use Rattle.terms.specs.declared.refusal.Refusal.{Refusal}
use Rattle.banks.specs.Meanings.{Meaning}
use Rattle.margin.specs.Book.{Cards}
use Rattle.margin.specs.Worlds.{World, IsWorld, loss}
use Rattle.account.specs.declared.call.Call.{Call}
use Rattle.account.specs.declared.call.Call.TheVariants.{Place, Cancel, Fill, Deposit, Withdraw, Margin}
use Rattle.account.specs.Account.{State, Required, Requirement, book_of, last_of, requirement, checks, effect, step, run}
use Rattle.account.specs.Begin.{begin_checks, begin}

-- ---- when calls are accepted
-- none of these checks refuses
abbrev pub NoneRefuses : List (Option Refusal) → Type 0
NoneRefuses [] = Unit {0}
NoneRefuses (check ∷ checks) = (check ≡ None) × NoneRefuses checks

-- the first of these checks that refuses says why
abbrev pub FirstRefusal : List (Option Refusal) → Refusal → Type 0
FirstRefusal [] why = ⊥
FirstRefusal (None ∷ checks) why = FirstRefusal checks why
FirstRefusal (Some first ∷ checks) why = first ≡ why

-- what a call is told, by its checks
pub record Judged {X : Type 0} (checks : List (Option Refusal)) (told : Result X Refusal) : Type 0 where
  pub accepted_if_none_refuses : NoneRefuses checks → is_ok told ≡ true
  pub accepted_only_if_none_refuses : is_ok told ≡ true → NoneRefuses checks
  pub refused_by_the_first : (why : Refusal) → told ≡ Err why → FirstRefusal checks why

pub record CallLaws : Type 0 where
  pub begins_exactly_if_no_check_refuses : (bank : Meaning) (cards : Cards) (held : List Held) (collateral : ℤ) → Judged (begin_checks bank cards held collateral) (begin bank cards held collateral)
  pub accepted_exactly_if_no_check_refuses : (s : State) (call : Call) → Judged (checks s call) (step s call).1
  pub an_accepted_call_has_its_effect : (s : State) (call : Call) → is_ok (step s call).1 ≡ true → step s call ≡ ((effect s call).0, Ok (effect s call).1)
  pub a_refused_call_changes_nothing : (s : State) (call : Call) → is_ok (step s call).1 ≡ false → (step s call).0 ≡ s
  pub margin_is_answered_and_changes_nothing : (s : State) → step s Margin ≡ (s, Ok (Required (requirement s)))

-- ---- what holds after any string of calls
abbrev pub fill_or_cancel : Call → Bool
fill_or_cancel (Place line quantity limit) = false
fill_or_cancel (Cancel number) = true
fill_or_cancel (Fill number quantity price) = true
fill_or_cancel (Deposit amount) = false
fill_or_cancel (Withdraw amount) = false
fill_or_cancel Margin = false

abbrev pub OnlyFillsAndCancels : List Call → Type 0
OnlyFillsAndCancels [] = Unit {0}
OnlyFillsAndCancels (call ∷ calls) = (fill_or_cancel call ≡ true) × OnlyFillsAndCancels calls

-- a world of the account, and what the account loses in it, in grains
abbrev pub WorldOf : State → World → Type 0
WorldOf s w = IsWorld (last_of s) s.cards w

abbrev pub loss_in : State → World → ℤ
loss_in s w = loss (last_of s) s.bank.price s.cards (book_of s) w

-- no world's loss exceeds an amount in kopecks, of 80,000 grains each
abbrev pub CoversEveryWorld : State → ℕ → Type 0
CoversEveryWorld s amount = (w : World) → WorldOf s w → loss_in s w ≤ℤ pos (80000 * amount)

-- margin answers this, and changes nothing
abbrev pub Answers : State → Requirement → Type 0
Answers s answer = step s Margin ≡ (s, Ok (Required answer))

-- an account, and what margin answers there
pub record SafelyMargined (s : State) (answer : Requirement) : Type 0 where
  pub the_amount_covers_every_world : CoversEveryWorld s answer.amount
  pub no_lower_amount_does : (amount : ℕ) → CoversEveryWorld s amount → answer.amount ≤ amount
  pub its_world_is_a_world : WorldOf s answer.world
  pub no_world_loses_more : (w : World) → WorldOf s w → loss_in s w ≤ℤ loss_in s answer.world
  pub the_collateral_suffices : answer.amount ≤ s.collateral
  pub fills_and_cancels_never_raise_it : (calls : List Call) → OnlyFillsAndCancels calls → (later : Requirement) → Answers (run s calls) later → later.amount ≤ answer.amount

-- margin is answered, and its answer is safe
abbrev pub AnswersSafely : State → Type 0
AnswersSafely s = (answer : Requirement) × Answers s answer × SafelyMargined s answer

-- for every bank, cards, held records and collateral with which an account begins, and every string of calls since
abbrev pub SafeAfterAnyCalls : Type 0
SafeAfterAnyCalls = (bank : Meaning) (cards : Cards) (held : List Held) (collateral : ℤ) (begun : State) → begin bank cards held collateral ≡ Ok begun → (calls : List Call) → AnswersSafely (run begun calls)
