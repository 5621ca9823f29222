-- The cards that a caller gives, as the lists that they are.
use Rattle.std.specs.Prelude.{◌≡◌, Some, None, Ok, Err, vec_items, Option, Result}
use Rattle.terms.specs.declared.refusal.Refusal.{Refusal}
use Rattle.terms.specs.declared.fault.Fault.{Fault}
use Rattle.terms.specs.declared.fault.Fault.TheVariants.{Refused, Memory}
use Rattle.margin.specs.Book.{Cards}
use Rattle.deck.specs.declared.deck.Deck.{Deck}
use Rattle.deck.specs.declared.given.Given.{Given}

abbrev pub given_cards : Given → Cards
given_cards g = record { families = g.families.now; baskets = g.baskets.now; months = g.months.now; lines = g.lines.now; futures = g.futures }

-- the refusal, if there is one
abbrev pub refusal_of : {X : Type 0} → Result X Refusal → Option Refusal
refusal_of (Ok x) = None
refusal_of (Err why) = Some why

abbrev pub deck_cards : Deck → Cards
deck_cards d = record { families = vec_items d.families; baskets = vec_items d.baskets; months = vec_items d.months; lines = vec_items d.lines; futures = d.futures }

-- judged cards are the cards given; a refusal is the one that applies; and where memory is wanting, none applies
abbrev pub DeckOutcome : Result Deck Fault → Cards → Result Cards Refusal → Type 0
DeckOutcome (Ok deck) cards judged = (deck_cards deck ≡ cards) × (judged ≡ Ok cards)
DeckOutcome (Err (Refused why)) cards judged = judged ≡ Err why
DeckOutcome (Err Memory) cards judged = judged ≡ Ok cards
