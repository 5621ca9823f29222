-- Putting held records into positions, record by record.
use Rattle.std.proofs.Common.{◌≡◌, ℕ, ◌+◌, ◌<◌, ◌≤◌, true, ◌&&◌, List, [], ◌∷◌, ◌++◌, length, get_or, take, set, replicate, ℤ, pos, negsuc, nat_abs, None, refl, ap, ◌∙◌, arith}
use lib.Signed.{le_z}
use Rattle.std.proofs.lemmas.List.{take_more}
use Rattle.std.proofs.lemmas.Int.{ints}
use Rattle.std.proofs.lemmas.Bool.{and_parts}
use Rattle.terms.specs.Cards.{within}
use Rattle.terms.specs.Judging.{failing}
use Rattle.terms.proofs.Places.{none_fails}
use Rattle.terms.specs.declared.cards.Held.{Held}
use Rattle.margin.specs.declared.book.Position.{Position}
use Rattle.margin.specs.Book.{Cards, named}
use Rattle.margin.proofs.SumLaws.{at_most}
use Rattle.deck.specs.Judgements.{name_fits, is_first, held_fits}
use Rattle.account.specs.Account.{price_fits}
use Rattle.banks.specs.Meanings.{Meaning}
use Rattle.account.specs.declared.orders.Order.{Order}
use Rattle.account.specs.Begin.{held_at, nothing, put_in, first_state}
use Rattle.calls.specs.States.{state_with}
use Rattle.calls.proofs.Placing.{price_fits_lem}

pub record HeldSizes (lines : ℕ) (h : Held) : Type 0 where
  pub names_a_line : name_fits lines h.line ≡ true
  pub few_held : nat_abs h.net ≤ 10000
  pub fair_price : nat_abs h.price ≤ 10000000

held_sizes : (lines : ℕ) (all : List Held) (place : ℕ) (h : Held) → held_fits lines all place h ≡ true → HeldSizes lines h
held_sizes lines all place h e =
    let parts = and_parts (name_fits lines h.line && within (negsuc 9999) (pos 10000) h.net) (price_fits h.price && is_first h.line all place) e in
    let first = and_parts (name_fits lines h.line) (within (negsuc 9999) (pos 10000) h.net) parts.0 in
    let nets = and_parts (le_z (negsuc 9999) h.net) (le_z h.net (pos 10000)) first.1 in
    record { names_a_line = first.0; few_held = size h.net nets.0 nets.1; fair_price = price_fits_lem h.price (and_parts (price_fits h.price) (is_first h.line all place) parts.1).0 }
  where
    size : (n : ℤ) → le_z (negsuc 9999) n ≡ true → le_z n (pos 10000) ≡ true → nat_abs n ≤ 10000
    size (pos n) low high = let h = at_most (pos n) (pos 10000) high in omega (arith, ints)
    size (negsuc n) low high = let h = at_most (negsuc 9999) (negsuc n) low in omega (arith, ints)

abbrev pub none_held : Held
none_held = record { line = pos 0; net = pos 0; price = pos 0 }

pub sizes_at : (lines : ℕ) (held : List Held) (i : ℕ) → failing (held_fits lines held) 0 held ≡ None → i < length held → HeldSizes lines (get_or held i none_held)
sizes_at lines held i none inside = held_sizes lines held i (get_or held i none_held) (none_fails (held_fits lines held) none_held held none i inside)

put_in_last : (hs : List Held) (h : Held) (positions : List Position) → put_in (hs ++ h ∷ []) positions ≡ set (put_in hs positions) (named h.line) (held_at h)
unfolding put_in
put_in_last [] h positions = refl
put_in_last (first ∷ hs) h positions = put_in_last hs h (set positions (named first.line) (held_at first))

pub put_in_more : (held : List Held) (i : ℕ) (d : Held) (positions : List Position) → i < length held → put_in (take (i + 1) held) positions ≡ set (put_in (take i held) positions) (named (get_or held i d).line) (held_at (get_or held i d))
put_in_more held i d positions inside = ap (λ (hs : List Held). put_in hs positions) (take_more held i d inside) ∙ put_in_last (take i held) (get_or held i d) positions

-- ---- the first state
pub opened_is : (bank : Meaning) (cards : Cards) (held : List Held) (collateral : ℕ) (positions : List Position) (orders : List Order) (accepted : List ℕ) (n m : ℕ) → n ≡ length cards.lines → m ≡ length cards.lines → positions ≡ put_in held (replicate n nothing) → orders ≡ [] → accepted ≡ replicate m 0 → state_with bank cards positions orders accepted 1 collateral ≡ first_state bank cards held collateral
opened_is bank cards held collateral positions orders accepted n m e f p o a = rw (p, o, a, e, f) refl
