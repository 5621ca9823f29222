use Rattle.std.proofs.Common.{◌≡◌, true, sym, ◌∙◌}
use Rattle.margin.proofs.Cover.{margin_is_the_least_cover}
use Rattle.deck.specs.Decks.{deck_cards}
use Rattle.cells.specs.Grids.{last_of}
use Rattle.cover.specs.Small.{small_book}
use Rattle.cover.proofs.Bounded.{few, net_sizes, cost_sizes, left_sizes, limit_sizes}
use Rattle.cover.proofs.judged.margin_of.Goals as goal

pub returns-then-not-is_small : goal.returns-then-not-is_small
returns-then-not-is_small g c =
    let bank = g.B.Bank.meaning c.args.bank.now in
    record {
      answered = sym c.if-not-is_small.true ∙ c.is_small.ensures;
      amount = tt;
      losses = tt;
      worsts = tt;
      costliest = tt;
      world = tt;
      least_cover = margin_is_the_least_cover (last_of bank) bank.price (deck_cards c.args.deck.now) _;
      worst = tt;
      lowest = tt;
    }

pub invariant_of-book : goal.invariant_of-book
invariant_of-book g c =
    let positions = c.args.positions.now in
    let orders = c.args.orders.now in
    let small : small_book positions orders ≡ true = sym c.is_small.ensures ∙ c.if-not-is_small.false in
    record { few_orders = few positions orders small; nets = net_sizes positions orders small; costs = cost_sizes positions orders small; lefts = left_sizes positions orders small; limits = limit_sizes positions orders small }
