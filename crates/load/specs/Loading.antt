-- What load answers, and what the lists hold afterwards.
use Rattle.std.specs.Prelude.{◌≡◌, ℕ, List, [], ◌∷◌, ◌++◌, length, Ok, Err, Option, Result, ◌==◌, nat_le}
use Rattle.terms.specs.Checks.{unless, refused_at, decided}
use Rattle.terms.specs.declared.refusal.Refusal.{Refusal}
use Rattle.terms.specs.declared.refusal.Refusal.TheVariants.{Malformed, BadCard, WrongLength}
use Rattle.margin.specs.Book.{Cards}
use Rattle.deck.specs.Judgements.{first_unfit}
use Rattle.text.specs.Shape.{malformed_at}
use Rattle.load.specs.declared.lists.Lengths.{Lengths}
use Rattle.load.specs.declared.loading.Loaded.{Loaded}
use Rattle.load.specs.Days.{Day, Contents, zeros}
use Rattle.load.specs.Reading.{day_in, with_day}

-- the lengths that are wanted
abbrev pub wanted : Lengths
wanted = record { families = 2; baskets = 4; months = 8; lines = 16; prices = 1785; held = 16; orders = 2000 }

-- 5: a list of another length than is wanted
abbrev pub other : ℕ → ℕ → Option Refusal
other n wants = unless (n == wants) (WrongLength wants)

abbrev pub list_checks : Lengths → List (Option Refusal)
list_checks given =
    other given.families wanted.families
    ∷ other given.baskets wanted.baskets
    ∷ other given.months wanted.months
    ∷ other given.lines wanted.lines
    ∷ other given.prices wanted.prices
    ∷ other given.held wanted.held
    ∷ other given.orders wanted.orders
    ∷ []

-- 5: the text is not too long; 1: it is well formed
abbrev pub text_checks : List ℕ → List (Option Refusal)
text_checks text = unless (nat_le (length text) 65536) (WrongLength 65536) ∷ refused_at Malformed (malformed_at text) ∷ []

abbrev pub cards_of : Day → Cards
cards_of day = record { families = day.families; baskets = day.baskets; months = day.months; lines = day.futures ++ day.options; futures = length day.futures }

-- 4: cards and held records that fit
abbrev pub card_checks : Day → List (Option Refusal)
card_checks day = refused_at BadCard (first_unfit (cards_of day) day.held) ∷ []

-- what comes behind something that passed
abbrev pub next : {X Y : Type 0} → Result X Refusal → (X → Result Y Refusal) → Result Y Refusal
next (Ok x) more = more x
next (Err e) more = Err e

-- the day that the text describes, or the first refusal: lists, text, then 2 and 3 by the earlier byte, then 4
abbrev pub loading : Lengths → List ℕ → Result Day Refusal
loading given text =
    next (decided {X = Unit {0}} (list_checks given) tt) (λ _.
    next (decided {X = Unit {0}} (text_checks text) tt) (λ _.
    next (day_in given text) (λ read.
    decided (card_checks read.0) read.0)))

abbrev pub loaded_of : Day → Loaded
loaded_of day =
    record {
      half = day.half;
      cash = day.cash;
      families = length day.families;
      baskets = length day.baskets;
      months = length day.months;
      futures = length day.futures;
      options = length day.options;
      prices = length day.prices;
      held = length day.held;
      orders = length day.orders;
    }

abbrev pub answer_of : Result Day Refusal → Result Loaded Refusal
answer_of outcome = next outcome (λ day. Ok (loaded_of day))

-- accepted, the lists hold the day and zeros behind it; refused, zeros
abbrev pub held_by : Result Day Refusal → Contents → Contents
held_by (Ok day) lists = with_day day (zeros lists)
held_by (Err e) lists = zeros lists

-- the same before the lists are cleared: what lists that were written over hold, if the day was read
abbrev pub Kept : Result Day Refusal → Result Loaded Refusal → Contents → Contents → Type 0
Kept (Ok day) r lists after = (r ≡ Ok (loaded_of day)) × (after ≡ with_day day lists)
Kept (Err e) r lists after = r ≡ Err e
