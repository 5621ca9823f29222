use Rattle.std.proofs.Common.{◌≡◌, true, ltb, ◌∷◌, length, pos, nat_abs, sym, ap, ◌∙◌}
use Rattle.std.proofs.lemmas.Int.{to_z-of_z}
use Rattle.terms.specs.Checks.{unless}
use Rattle.terms.specs.declared.refusal.Refusal.TheVariants.{NoSuchLine, BadQuantity, BadPrice, OrdersFull}
use Rattle.margin.specs.declared.book.Open.{Open}
use Rattle.deck.specs.Judgements.{name_fits}
use Rattle.account.specs.Account.{quantity_fits, price_fits}
use Rattle.account.proofs.Bounded.{one_of}
use Rattle.calls.specs.Accounts.{state_of, book_with, trial_checks, judged}
use Rattle.calls.proofs.Kept.{bounded}
use Rattle.calls.proofs.Placing.{contracts_fit, price_fits_lem, asked_is, three_pass, book_checks, trial_is}
use Rattle.calls.proofs.accounts.Account.check_place.Goals as goal

pub check_with_book-requires : goal.check_with_book-requires
check_with_book-requires g c =
    let a = c.args.self.now in
    let s = state_of g.B.Bank.meaning a in
    let b = bounded g.B.Bank.meaning a in
    let fits_line = c.ranges.line in
    let fits-quantity = c.ranges.quantity in
    let fits-limit = c.ranges.limit in
    let has : name_fits (length s.cards.lines) c.args.line ≡ true = sym (simp to_z-of_z at c.has_line.ensures) ∙ c.if-not-has_line.false in
    let order = asked_is (length s.cards.lines) c.args.line c.args.quantity c.args.limit c.asked.result has (simp to_z-of_z at c.asked.ensures) in
    let contracts : quantity_fits (pos (nat_abs c.args.quantity)) ≡ true = sym (c.quantity_fits.ensures ∙ ap (λ n. quantity_fits (pos n)) (simp to_z-of_z at c.unsigned_abs.ensures.value)) ∙ c.if-not-quantity_fits.false in
    let price : price_fits c.args.limit ≡ true = sym (simp to_z-of_z at c.price_fits.ensures) ∙ c.if-not-price_fits.false in
    record {
      line = rw order (rw b.a_position_a_line (one_of (length s.cards.lines) c.args.line has));
      left = rw order (contracts_fit (nat_abs c.args.quantity) contracts).1;
      limit = rw order (price_fits_lem c.args.limit price);
    }

pub returns : goal.returns
returns g c =
    let a = c.args.self.now in
    let s = state_of g.B.Bank.meaning a in
    let b = bounded g.B.Bank.meaning a in
    let fits_line = c.ranges.line in
    let fits-quantity = c.ranges.quantity in
    let fits-limit = c.ranges.limit in
    let has : name_fits (length s.cards.lines) c.args.line ≡ true = sym (simp to_z-of_z at c.has_line.ensures) ∙ c.if-not-has_line.false in
    let order = asked_is (length s.cards.lines) c.args.line c.args.quantity c.args.limit c.asked.result has (simp to_z-of_z at c.asked.ensures) in
    let contracts : quantity_fits (pos (nat_abs c.args.quantity)) ≡ true = sym (c.quantity_fits.ensures ∙ ap (λ n. quantity_fits (pos n)) (simp to_z-of_z at c.unsigned_abs.ensures.value)) ∙ c.if-not-quantity_fits.false in
    let price : price_fits c.args.limit ≡ true = sym (simp to_z-of_z at c.price_fits.ensures) ∙ c.if-not-price_fits.false in
    c.check_with_book.ensures
    ∙ ap (λ (o : Open). judged (unless (ltb (length s.orders) 32) OrdersFull ∷ trial_checks s (book_with s o) o.line (nat_abs o.left))) order
    ∙ ap (λ rest. judged (unless (ltb (length s.orders) 32) OrdersFull ∷ rest)) (trial_is s c.args.line c.args.quantity c.args.limit (rw b.a_count_a_line (one_of (length s.cards.lines) c.args.line has)))
    ∙ three_pass _ _ _ NoSuchLine BadQuantity BadPrice (unless (ltb (length s.orders) 32) OrdersFull ∷ book_checks s c.args.line c.args.quantity c.args.limit) has contracts price
