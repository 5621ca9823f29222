use Rattle.std.proofs.Common.{List, length, get_or, take, set, vec_items, sym, refl, ap, ◌∙◌, ap₂, arith, w64, SFits, rules}
use Rattle.std.proofs.lemmas.List.{take_all}
use Rattle.std.proofs.lemmas.Int.{to_z-of_z}
use Rattle.terms.specs.declared.cards.Held.{Held}
use Rattle.margin.specs.declared.book.Position.{Position}
use Rattle.account.specs.Begin.{put_in}
use Rattle.account.proofs.Kept.{put_in_length}
use Rattle.account.proofs.Bounded.{one_of}
use Rattle.calls.proofs.HeldRecords.{none_held, sizes_at, put_in_more}
use Rattle.calls.proofs.Placing.{named_size}
use Rattle.calls.proofs.opening.put_in.Goals as goal

pub loop-holding-init : goal.loop-holding-init
unfolding put_in
loop-holding-init c = refl

pub held_at-requires : goal.held_at-requires
held_at-requires c =
    let lines = length (vec_items c.args.positions.now) in
    let sizes = sizes_at lines c.args.held.now c.loop-holding.holding-index c.requires c.loop-holding-test.true in
    record { net = sizes.few_held; price = sizes.fair_price }

pub index_mut-requires : goal.index_mut-requires
index_mut-requires c =
    let lines = length (vec_items c.args.positions.now) in
    let fits : SFits w64 (get_or c.args.held.now c.loop-holding.holding-index none_held).line = search rules in
    let sizes = sizes_at lines c.args.held.now c.loop-holding.holding-index c.requires c.loop-holding-test.true in
    let number = (simp to_z-of_z at c.unsigned_abs.ensures.value) ∙ named_size lines (get_or c.args.held.now c.loop-holding.holding-index none_held).line sizes.names_a_line in
    let inside = one_of lines (get_or c.args.held.now c.loop-holding.holding-index none_held).line sizes.names_a_line in
    let same = ap length c.loop-holding.invariant ∙ put_in_length (take c.loop-holding.holding-index c.args.held.now) (vec_items c.args.positions.now) in
    omega (arith, number, inside, same, c.loop-holding.positions.ok.0)

pub loop-holding-preserved : goal.loop-holding-preserved
loop-holding-preserved c =
    let lines = length (vec_items c.args.positions.now) in
    let fits : SFits w64 (get_or c.args.held.now c.loop-holding.holding-index none_held).line = search rules in
    let sizes = sizes_at lines c.args.held.now c.loop-holding.holding-index c.requires c.loop-holding-test.true in
    let number = (simp to_z-of_z at c.unsigned_abs.ensures.value) ∙ named_size lines (get_or c.args.held.now c.loop-holding.holding-index none_held).line sizes.names_a_line in
    ap (λ (ps : List Position). set ps c.unsigned_abs.result c.held_at.result) c.loop-holding.invariant
    ∙ ap₂ (set (put_in (take c.loop-holding.holding-index c.args.held.now) (vec_items c.args.positions.now))) number c.held_at.ensures
    ∙ sym (put_in_more c.args.held.now c.loop-holding.holding-index none_held (vec_items c.args.positions.now) c.loop-holding-test.true)

pub returns : goal.returns
returns c = c.loop-holding.invariant ∙ ap (λ (hs : List Held). put_in hs (vec_items c.args.positions.now)) (take_all c.loop-holding.holding-index c.args.held.now (omega arith))
