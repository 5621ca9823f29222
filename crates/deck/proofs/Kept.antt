-- What a deck's invariant says of its cards as lists.
use Rattle.std.proofs.Common.{◌≡◌, ℕ, ◌<◌, ◌≤◌, true, length, ℤ, pos, negsuc, vec_len, sym, subst, ⊎_elim, arith}
use Rattle.std.proofs.lemmas.List.{get_or_past}
use Rattle.std.proofs.lemmas.Bool.{and_parts, ltb-true, cases_lt, false≢true}
use Rattle.terms.specs.declared.cards.Line.{Line}
use Rattle.margin.specs.Book.{named, month, line}
use Rattle.deck.specs.Decks.{deck_cards}
use Rattle.deck.specs.Judgements.{name_fits, no_line}
use Rattle.deck.specs.declared.deck.Deck.{Deck}

-- a name that fits is the number of one of so many
pub names_one : (count : ℕ) (name : ℤ) → name_fits count name ≡ true → named name < count
unfolding named
names_one count (pos n) e = ltb-true n count (and_parts _ _ e).1
names_one count (negsuc n) e = absurd (false≢true e)

module _ (d : Deck) where
  pub few_families : length (deck_cards d).families ≤ 2
  few_families = omega (arith, d.families.ok.0, d.few_families)

  pub few_baskets : length (deck_cards d).baskets ≤ 4
  few_baskets = omega (arith, d.baskets.ok.0, d.few_baskets)

  pub few_months : length (deck_cards d).months ≤ 8
  few_months = omega (arith, d.months.ok.0, d.few_months)

  pub basket_of_month : (m : ℕ) → m < length (deck_cards d).months → named (month (deck_cards d) m).basket < length (deck_cards d).baskets
  basket_of_month m h =
      let one : named (month (deck_cards d) m).basket < vec_len d.baskets = names_one (vec_len d.baskets) (month (deck_cards d) m).basket (d.months_named m (omega (arith, d.months.ok.0))) in
      omega (arith, one, d.baskets.ok.0)

  -- a line that is not there is read as one of month 0, and there is a month, since there is a line
  pub month_of_line : (l : ℕ) → named (line (deck_cards d) l).month < length (deck_cards d).months
  unfolding named
  month_of_line l =
      ⊎_elim (named_by l) (λ past. subst (λ (card : Line). named card.month < length (deck_cards d).months) (sym (get_or_past (deck_cards d).lines l no_line past)) some) (cases_lt l (length (deck_cards d).lines))
    where
      named_by : (l : ℕ) → l < length (deck_cards d).lines → named (line (deck_cards d) l).month < length (deck_cards d).months
      named_by l h =
          let one : named (line (deck_cards d) l).month < vec_len d.months = names_one (vec_len d.months) (line (deck_cards d) l).month (d.lines_named l (omega (arith, d.lines.ok.0))) in
          omega (arith, one, d.months.ok.0)

      some : 0 < length (deck_cards d).months
      some = let first = named_by 0 (omega (arith, d.lines.ok.0, d.some_lines)) in omega (arith, first)
