use Rattle.std.proofs.Common.{sym, subst, arith}
use Rattle.deck.specs.Decks.{deck_cards}
use Rattle.account.specs.Bounds.{InBounds}
use Rattle.account.proofs.Bounded.{first_bounded}
use Rattle.calls.proofs.HeldRecords.{opened_is}
use Rattle.calls.proofs.Kept.{kept}
use Rattle.calls.proofs.opening.opened.Goals as goal

pub invariant_of-result : goal.invariant_of-result
invariant_of-result g c =
    let deck = c.args.deck in
    let same = opened_is (g.B.Bank.meaning c.args.bank) (deck_cards deck) c.args.held.now c.args.collateral _ _ _ c.len.result c.len-2.result (omega (arith, c.len.ensures, deck.lines.ok.0)) (omega (arith, c.len-2.ensures, deck.lines.ok.0)) c.in_ok-positions.ensures c.in_ok-orders.ensures.items (c.in_ok-accepted.ensures.items_if_clones_equal (λ y same. same)) in
    record { room = c.in_ok-orders.ensures.capacity; bounds = kept _ (subst InBounds (sym same) (first_bounded (g.B.Bank.meaning c.args.bank) (deck_cards deck) c.args.held.now c.args.collateral c.requires.held c.requires.collateral)) }

pub returns : goal.returns
returns g c =
    let deck = c.args.deck in
    opened_is (g.B.Bank.meaning c.args.bank) (deck_cards deck) c.args.held.now c.args.collateral _ _ _ c.len.result c.len-2.result (omega (arith, c.len.ensures, deck.lines.ok.0)) (omega (arith, c.len-2.ensures, deck.lines.ok.0)) c.in_ok-positions.ensures c.in_ok-orders.ensures.items (c.in_ok-accepted.ensures.items_if_clones_equal (λ y same. same))
