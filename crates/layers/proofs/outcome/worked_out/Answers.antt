use Rattle.std.proofs.Common.{◌∙◌}
use Rattle.margin.specs.HandedOut.{family_choice, basket_choice, month_choice}
use Rattle.margin.specs.Layers.{margin_of, costliest}
use Rattle.deck.specs.Decks.{deck_cards}
use Rattle.layers.specs.Families.{each_worst, each_loss}
use Rattle.layers.specs.Tables.{last_point}
use Rattle.layers.proofs.Tables.{Views, seen}
use Rattle.layers.proofs.outcome.worked_out.Goals as goal

pub returns : goal.returns
returns c =
    let is = c.view.ensures in
    let found = c.outcome.ensures in
    let views : Views c.view.result.scene (last_point c.args.half) (deck_cards c.args.deck.now) c.args.cells.now.cells = record { cards_are = is.cards; table_is = is.table; last_is = is.last } in
    record {
      amount = found.amount ∙ seen views margin_of;
      losses = found.losses ∙ seen views each_loss;
      worsts = found.worsts ∙ seen views each_worst;
      costliest = found.costliest ∙ seen views costliest;
      families = λ k. found.families k ∙ seen views (λ last cards cells. family_choice last cards cells k);
      baskets = λ k. found.baskets k ∙ seen views (λ last cards cells. basket_choice last cards cells k);
      months = λ k. found.months k ∙ seen views (λ last cards cells. month_choice last cards cells k);
    }
