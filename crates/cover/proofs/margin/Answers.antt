use Rattle.std.proofs.Common.{sym, ◌∙◌, subst}
use Rattle.margin.specs.HandedOut.{family_choice, basket_choice, month_choice}
use Rattle.margin.specs.Layers.{margin_of, costliest}
use Rattle.margin.specs.LeastCover.{margin}
use Rattle.margin.proofs.Chosen.{handed_out_is_lowest}
use Rattle.margin.proofs.Cover.{margin_is_the_least_cover, handed_out_is_worst}
use Rattle.deck.specs.Decks.{deck_cards}
use Rattle.layers.specs.Families.{each_worst, each_loss}
use Rattle.cells.specs.Books.{book_of}
use Rattle.cells.specs.Grids.{last_of}
use Rattle.cover.specs.Margins.{WorstFor, LowestFor}
use Rattle.cover.proofs.Answered.{found_for, world_is}
use Rattle.cover.proofs.margin.Goals as goal

pub returns : goal.returns
unfolding margin
returns g c =
    let bank = g.B.Bank.meaning c.args.bank.now in
    let deck = c.args.deck.now in
    let cards = deck_cards deck in
    let book = book_of c.args.book in
    let found = c.worked_out-found.ensures in
    let half = c.half.result in
    let month = c.month_cells-cells.result in
    let same = c.half.ensures in
    let held = c.month_cells-cells.ensures in
    let world = world_is bank deck book
    (record { families = c.worked_out-found.result.families; baskets = c.worked_out-found.result.baskets; months = c.worked_out-found.result.months; orders = c.counted_orders-orders.result })
    (λ k. found.families k ∙ found_for bank deck book half month same held (λ last cards cells. family_choice last cards cells k))
    (λ k. found.baskets k ∙ found_for bank deck book half month same held (λ last cards cells. basket_choice last cards cells k))
    (λ k. found.months k ∙ found_for bank deck book half month same held (λ last cards cells. month_choice last cards cells k))
    c.counted_orders-orders.ensures in
    record {
      amount = found.amount ∙ found_for bank deck book half month same held margin_of;
      losses = found.losses ∙ found_for bank deck book half month same held each_loss;
      worsts = found.worsts ∙ found_for bank deck book half month same held each_worst;
      costliest = found.costliest ∙ found_for bank deck book half month same held costliest;
      world = world;
      least_cover = margin_is_the_least_cover (last_of bank) bank.price cards book;
      worst = subst (WorstFor bank cards book) (sym world) (handed_out_is_worst (last_of bank) bank.price cards book);
      lowest = subst (LowestFor bank cards book) (sym world) (handed_out_is_lowest (last_of bank) bank.price cards book);
    }
