use Rattle.std.proofs.Common.{arith}
use Rattle.deck.specs.Decks.{given_cards}
use Rattle.deck.proofs.Facts.{none_refused, facts}
use Rattle.deck.proofs.making.copied.Goals as goal

-- the facts of the cards given hold of their copies
pub invariant_of-result : goal.invariant_of-result
invariant_of-result c =
    let f = facts c.args.bank_lines (given_cards c.args.given.now) c.args.held.now (none_refused _ _ _ c.requires) in
    let families = c.in_ok-families.ensures in
    let baskets = c.in_ok-baskets.ensures in
    let months = c.in_ok-months.ensures in
    let lines = c.in_ok-lines.ensures in
    record {
      some_families = omega (arith, f.some_families);
      few_families = omega (arith, f.few_families);
      few_baskets = omega (arith, f.few_baskets);
      few_months = omega (arith, f.few_months);
      some_lines = omega (arith, f.some_lines);
      few_lines = omega (arith, f.few_lines);
      few_futures = omega (arith, f.few_futures);
      baskets_named = λ b h. rw (families.len, baskets.items) (f.baskets_named b (omega (arith, baskets.len)));
      months_named = λ m h. rw (baskets.len, months.items) (f.months_named m (omega (arith, months.len)));
      lines_named = λ l h. rw (months.len, lines.items) (f.lines_named l (omega (arith, lines.len)));
      futures_fit = λ l h. rw lines.items (f.futures_fit l h);
    }
