-- The records of the lists that are in use.
use Rattle.std.specs.Prelude.{◌+◌, ◌≤◌, List, [], ◌∷◌, length, take, Option}
use Rattle.terms.specs.Checks.{refused_at}
use Rattle.terms.specs.declared.refusal.Refusal.{Refusal}
use Rattle.terms.specs.declared.refusal.Refusal.TheVariants.{BadCard}
use Rattle.deck.specs.Judgements.{first_unfit}
use Rattle.margin.specs.Book.{Cards}
use Rattle.load.specs.declared.loading.Loaded.{Loaded}
use Rattle.load.specs.Days.{Contents}

abbrev pub used_cards : Loaded → Contents → Cards
used_cards used lists = record { families = take used.families lists.families; baskets = take used.baskets lists.baskets; months = take used.months lists.months; lines = take (used.futures + used.options) lists.lines; futures = used.futures }

-- cards and held records that fit
abbrev pub used_checks : Loaded → Contents → List (Option Refusal)
used_checks used lists = refused_at BadCard (first_unfit (used_cards used lists) (take used.held lists.held)) ∷ []

-- no more are in use than there are
pub record Inside (used : Loaded) (lists : Contents) : Type 0 where
  pub families : used.families ≤ length lists.families
  pub baskets : used.baskets ≤ length lists.baskets
  pub months : used.months ≤ length lists.months
  pub lines : used.futures + used.options ≤ length lists.lines
  pub prices : used.prices ≤ length lists.prices
  pub held : used.held ≤ length lists.held
  pub orders : used.orders ≤ length lists.orders
