use Rattle.std.proofs.Common.{◌≡◌, ℕ, ◌^◌, ◌<◌, ◌≤◌, length, get_or, pos, nat_abs, zero-le, arith, rules}
use native.Mathlib.Decide.{dec_lt}
use lib.ListN.{get_or-eq_default}
use Rattle.deck.specs.Decks.{deck_cards}
use Rattle.cells.specs.Books.{book_of}
use Rattle.cells.specs.Shares.{month_share}
use Rattle.layers.specs.Tables.{at_place}
use Rattle.cells.proofs.desk.Desk.table.Goals as goal

pub returns : goal.returns
returns g c =
    let desk = c.args.self.now in
    let row = at_place (month_share desk.last (g.B.Bank.meaning desk.bank.now).price (deck_cards desk.deck.now) (book_of desk.book)) in
    let made = c.table_of.ensures in
    let each : (k : ℕ) → k < 952 → (get_or c.table_of.result k (pos 0) ≡ row k) × (nat_abs (get_or c.table_of.result k (pos 0)) ≤ 2 ^ 70) = λ k less. (let called = made.each k less in (search (rules, called), search (rules, called))) in
    record {
      length_is = made.long;
      so_far = λ k less. (each k less).0;
      sized = λ k. elim (dec_lt k 952) [ yes less ↦ (each k less).1 | no more ↦ (let past : length c.table_of.result ≤ k = omega (arith, made.long) in rw (get_or-eq_default c.table_of.result (pos 0) past) zero-le) ];
    }
