use Rattle.std.proofs.Common.{refl, le_trans, rules}
use Rattle.deck.proofs.Kept.{few_families, few_baskets, few_months, basket_of_month}
use Rattle.layers.proofs.outcome.view.Goals as goal

pub invariant_of-result : goal.invariant_of-result
invariant_of-result c =
    let deck = c.args.deck.now in
    record {
      fits = record {
        few_families = rw c.as_slice.ensures.value (few_families deck);
        few_baskets = rw c.as_slice-2.ensures.value (few_baskets deck);
        few_months = rw c.as_slice-3.ensures.value (few_months deck);
        few_points = search rules;
        room = c.args.cells.now.room;
        bounded = c.args.cells.now.bounded;
      };
    }

pub returns : goal.returns
returns c =
    let deck = c.args.deck.now in
    record {
      cards = search rules;
      table = refl;
      last = c.last.ensures;
      named = rw c.as_slice-3.ensures.value (λ m h. le_trans (basket_of_month deck m h) (few_baskets deck));
    }
