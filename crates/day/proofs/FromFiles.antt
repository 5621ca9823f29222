-- The day that a file was read into lists as, and what its account is told.
use Rattle.std.proofs.Common.{◌≡◌, ℕ, ◌+◌, ◌≤◌, List, ◌++◌, map, length, take, drop, nat_abs, Ok, Err, vec_items, Result, Vec, sym, refl, ap, ◌∙◌, subst, ap₂, arith}
use Rattle.std.proofs.lemmas.List.{take_at, drop_at, length-append}
use Rattle.std.specs.declared.alloc.Global.{Global}
use Rattle.terms.specs.declared.fault.Fault.{Fault}
use Rattle.terms.specs.declared.fault.Fault.TheVariants.{Refused, Memory}
use Rattle.terms.specs.declared.refusal.Refusal.{Refusal}
use Rattle.banks.specs.Meanings.{Meaning}
use Rattle.account.specs.Account as account
use Rattle.account.specs.Account.{State}
use Rattle.account.specs.Begin.{begin}
use Rattle.calls.specs.declared.answer.Answer.{Answer}
use Rattle.calls.specs.Answers.{told_of}
use Rattle.calls.specs.Safety.{EveryMarginIsSafe}
use Rattle.load.specs.declared.loading.Loaded.{Loaded}
use Rattle.load.specs.Days.{Day, Contents, lengths_of, zeros}
use Rattle.load.specs.Loading.{cards_of, next, wanted, loading, loaded_of, answer_of, held_by}
use Rattle.load.specs.Reading.{over, with_day}
use Rattle.day.specs.Days.{bank_made, calls_of, day_told, session_told}
use Rattle.day.specs.Told.{ToldOutcome, SafeOn}
use Rattle.day.specs.Filled.{used_day, Within}
use Rattle.day.specs.Sessions.{SessionOutcome}

-- ---- the records in use
front_is : {X : Type 0} (records before : List X) → take (length records) (over records before) ≡ records
front_is records before = take_at records (drop (length records) before) (length records) refl

front_fits : {X : Type 0} (records before : List X) → length records ≤ length (over records before)
front_fits records before = rw (length-append records (drop (length records) before)) (omega arith)

module _ (day : Day) (lists : Contents) where
  lines_are : take (length day.futures + length day.options) (over (day.futures ++ day.options) lists.lines) ≡ day.futures ++ day.options
  lines_are = take_at (day.futures ++ day.options) (drop (length (day.futures ++ day.options)) lists.lines) (length day.futures + length day.options) (length-append day.futures day.options)

  futures_are : take (length day.futures) (take (length day.futures + length day.options) (over (day.futures ++ day.options) lists.lines)) ≡ day.futures
  futures_are = ap (take (length day.futures)) lines_are ∙ take_at day.futures day.options (length day.futures) refl

  options_are : drop (length day.futures) (take (length day.futures + length day.options) (over (day.futures ++ day.options) lists.lines)) ≡ day.options
  options_are = ap (drop (length day.futures)) lines_are ∙ drop_at day.futures day.options (length day.futures) refl

  used_is : used_day (loaded_of day) (with_day day lists) ≡ day
  used_is = rw (front_is day.families lists.families, front_is day.baskets lists.baskets, front_is day.months lists.months, futures_are, options_are, front_is day.prices lists.prices, front_is day.held lists.held, front_is day.orders lists.orders) refl

  within_is : Within (loaded_of day) (with_day day lists)
  within_is = record {
    families = front_fits day.families lists.families;
    baskets = front_fits day.baskets lists.baskets;
    months = front_fits day.months lists.months;
    lines = (let h = front_fits (day.futures ++ day.options) lists.lines in let e = length-append day.futures day.options in omega arith);
    prices = front_fits day.prices lists.prices;
    held = front_fits day.held lists.held;
    orders = front_fits day.orders lists.orders;
  }

-- the collateral and what was told
abbrev said_of : Day → Result (List (Result account.Answer Refusal)) Refusal → Result (ℕ × List (Result account.Answer Refusal)) Refusal
said_of day told = next told (λ answers. Ok (nat_abs day.cash, answers))

-- ---- what was read
pub record ReadDay (text : List ℕ) (loaded : Loaded) (after : Contents) : Type 0 where
  pub day : Day
  pub read : loading wanted text ≡ Ok day
  pub used : used_day loaded after ≡ day
  pub within : Within loaded after

pub read_ok : (text : List ℕ) (lists after : Contents) (loaded : Loaded) → lengths_of lists ≡ wanted → Ok loaded ≡ answer_of (loading (lengths_of lists) text) → after ≡ held_by (loading (lengths_of lists) text) lists → ReadDay text loaded after
read_ok text lists after loaded long e f = by (loading wanted text) refl (e ∙ ap (λ l. answer_of (loading l text)) long) (f ∙ ap (λ l. held_by (loading l text) lists) long)
  where
    by : (outcome : Result Day Refusal) → loading wanted text ≡ outcome → Ok loaded ≡ answer_of outcome → after ≡ held_by outcome lists → ReadDay text loaded after
    by (Ok day) is e f =
        let same : loaded ≡ loaded_of day = cc in
        record { day = day; read = is; used = ap₂ used_day same f ∙ used_is day (zeros lists); within = subst (λ l. Within l after) (sym same) (subst (Within (loaded_of day)) (sym f) (within_is day (zeros lists))) }
    by (Err why) is e f = absurd (let z : ◌≡◌ {A = ℕ} 0 1 = cc in omega arith)

pub read_refused : (text : List ℕ) (lists : Contents) (why : Refusal) → lengths_of lists ≡ wanted → Err why ≡ answer_of (loading (lengths_of lists) text) → session_told text ≡ Err why
read_refused text lists why long e = by (loading wanted text) refl (e ∙ ap (λ l. answer_of (loading l text)) long)
  where
    by : (outcome : Result Day Refusal) → loading wanted text ≡ outcome → Err why ≡ answer_of outcome → next outcome (λ day. said_of day (day_told day)) ≡ Err why
    by (Ok day) is e = absurd (let z : ◌≡◌ {A = ℕ} 0 1 = cc in omega arith)
    by (Err other) is e = let same : why ≡ other = cc in ap Err (sym same)

-- ---- what the account of the day is told
abbrev Told : Type 0
Told = Result (Vec (Result Answer Refusal) Global) Fault

module _ (text : List ℕ) (loaded : Loaded) (after : Contents) (h : ReadDay text loaded after) where
  said_is : session_told text ≡ said_of h.day (day_told h.day)
  said_is = ap (λ (o : Result Day Refusal). next o (λ day. said_of day (day_told day))) h.read

  pub fault_said : (fault : Fault) → ToldOutcome (Err fault) (day_told (used_day loaded after)) → SessionOutcome (Err fault) (session_told text)
  fault_said (Refused why) t = said_is ∙ ap (λ (told : Result (List (Result account.Answer Refusal)) Refusal). said_of h.day told) (ap day_told (sym h.used) ∙ t)
  fault_said Memory t = tt

  pub told_said : (collateral : ℕ) (told : Vec (Result Answer Refusal) Global) → collateral ≡ nat_abs loaded.cash → ToldOutcome (Ok told) (day_told (used_day loaded after)) → session_told text ≡ Ok (collateral, map told_of (vec_items told))
  told_said collateral told f t =
      said_is
      ∙ ap (λ (answers : Result (List (Result account.Answer Refusal)) Refusal). said_of h.day answers) (ap day_told (sym h.used) ∙ t)
      ∙ ap (λ (n : ℕ). Ok (n, map told_of (vec_items told))) (ap (λ (d : Day). nat_abs d.cash) (sym h.used) ∙ sym f)

  pub safe_said : (told : Vec (Result Answer Refusal) Global) → SafeOn (used_day loaded after) (bank_made (used_day loaded after)) (Ok told) → (day : Day) (bank : Meaning) (s : State) → loading wanted text ≡ Ok day → bank_made day ≡ Ok bank → begin bank (cards_of day) day.held day.cash ≡ Ok s → EveryMarginIsSafe s (calls_of day.orders) (map told_of (vec_items told))
  safe_said told safe day bank s is made begins =
      let read = h.read in
      let same : h.day ≡ day = cc in
      subst (λ (d : Day). SafeOn d (bank_made d) (Ok told)) (h.used ∙ same) safe bank made s begins
