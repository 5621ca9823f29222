-- What a part of the file was read into, by cases.
use Rattle.std.proofs.Common.{◌≡◌, ℕ, List, Ok, Err, Result, sym, refl, ap, ◌∙◌, subst}
use Rattle.terms.specs.declared.refusal.Refusal.{Refusal}
use Rattle.terms.proofs.Passed.{err_is_ok}
use Rattle.std.specs.Result.{IsErrAnd}
use Rattle.std.proofs.lemmas.Result.{err_from_is_err_and}
use Rattle.forms.specs.declared.reader.Reader.{Reader}
use Rattle.load.specs.declared.lists.Lists.{Lists}
use Rattle.forms.specs.Reads.{Told}
use Rattle.load.specs.declared.lists.Lengths.{Lengths}
use Rattle.load.specs.declared.loading.Loaded.{Loaded}
use Rattle.load.specs.Days.{Day, Contents}
use Rattle.load.specs.Reading.{Read, ReadsInto, with_day}
use Rattle.load.specs.Loading.{next, loaded_of, Kept}

-- lists keep their lengths, one by one
pub all_long : {a b c d e f g a' b' c' d' e' f' g' : ℕ} → a ≡ a' → b ≡ b' → c ≡ c' → d ≡ d' → e ≡ e' → f ≡ f' → g ≡ g' →
    ◌≡◌ {A = Lengths} (record { families = a; baskets = b; months = c; lines = d; prices = e; held = f; orders = g }) (record { families = a'; baskets = b'; months = c'; lines = d'; prices = e'; held = f'; orders = g' })
all_long p q r s t u v = λ i. record { families = p i; baskets = q i; months = r i; lines = s i; prices = t i; held = u i; orders = v i }

-- likewise where a later step wrote to the prices alone
pub prices_long : (l m : Lengths) (n : ℕ) → l ≡ m → n ≡ l.prices → ◌≡◌ {A = Lengths} (record { families = l.families; baskets = l.baskets; months = l.months; lines = l.lines; prices = n; held = l.held; orders = l.orders }) m
prices_long l m n f e = ap (λ k. record { families = l.families; baskets = l.baskets; months = l.months; lines = l.lines; prices = k; held = l.held; orders = l.orders }) e ∙ f

module _ {X N : Type 0} (counts : X → N) (with : X → Contents → Contents) (t : Told X) (at : ℕ) (before after : Contents) where
  pub read_ok : (x : X) (n : N) → Ok (x, at) ≡ t → n ≡ counts x → after ≡ with x before → Read counts with t (Ok n) at before after
  read_ok x n e f h = subst (λ u. Read counts with u (Ok n) at before after) e (ap Ok f, refl, h)

  pub read_err : (e : Refusal) → Err e ≡ t → Read counts with t (Err e) at before after
  read_err e f = subst (λ u. Read counts with u (Err e) at before after) f refl

module _ {X N : Type 0} (counts : X → N) (with : X → Contents → Contents) (at : ℕ) (before after : Contents) where
  pub read_yes : (t : Told X) (n : N) → Read counts with t (Ok n) at before after → (x : X) × (Ok (x, at) ≡ t) × (n ≡ counts x) × (after ≡ with x before)
  read_yes (Ok x) n h = let here = h.0 in let count : n ≡ counts x.0 = cc in (x.0, ap (λ p. Ok (x.0, p)) h.1, count, h.2)
  read_yes (Err e) n h = absurd (err_is_ok e n (sym h))

  pub read_no : (t : Told X) (e : Refusal) → Read counts with t (Err e) at before after → Err e ≡ t
  read_no (Ok x) e h = absurd (err_is_ok e (counts x.0) h.0)
  read_no (Err f) e h = let same : e ≡ f = cc in ap Err same

-- a part that ends where one within it was refused
pub stopped_part : {X N : Type 0} {counts : X → N} {with : X → Contents → Contents} {part : Lengths → List ℕ → ℕ → Told X} {before after : Reader} {lists filled : Lists} (r : Result N Refusal) (e : Refusal) → IsErrAnd r (λ f. f ≡ e) → ReadsInto counts with part before after lists filled (Err e) → ReadsInto counts with part before after lists filled r
stopped_part r e h m = let p = err_from_is_err_and r h in rw (p.1, p.2) m

module _ (t : Told Day) (before after : Contents) where
  pub day_ok : (day : Day) (q : ℕ) (r : Loaded) → Ok (day, q) ≡ t → r ≡ loaded_of day → after ≡ with_day day before → Kept (next t (λ read. Ok read.0)) (Ok r) before after
  day_ok day q r e f h = subst (λ u. Kept (next u (λ read. Ok read.0)) (Ok r) before after) e (ap Ok f, h)

  pub day_err : (r : Result Loaded Refusal) (e : Refusal) → IsErrAnd r (λ f. f ≡ e) → Err e ≡ t → Kept (next t (λ read. Ok read.0)) r before after
  day_err r e h f = let p = err_from_is_err_and r h in rw (p.1, p.2) (subst (λ u. Kept (next u (λ read. Ok read.0)) (Err e) before after) f refl)
