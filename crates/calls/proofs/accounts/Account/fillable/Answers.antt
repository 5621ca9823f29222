use Rattle.std.proofs.Common.{◌≡◌, true, List, [], ◌∷◌, ℤ, pos, nat_abs, Option, sym, ap, ◌∙◌, w64}
use lib.Signed.{le_z}
use Rattle.std.proofs.lemmas.List.{get_or_read}
use Rattle.std.proofs.lemmas.Int.{to_z-of_z}
use Rattle.std.proofs.lemmas.Result.{err_from_is_err_and}
use Rattle.terms.specs.Checks.{unless}
use Rattle.terms.specs.declared.refusal.Refusal.{Refusal}
use Rattle.terms.specs.declared.refusal.Refusal.TheVariants.{BadQuantity, BadPrice, MoreThanLeft, WorseThanLimit}
use Rattle.account.specs.declared.orders.Order.{Order}
use Rattle.account.specs.Account.{quantity_fits, price_fits, no_worse, order_checks}
use Rattle.account.specs.Orders.{found}
use Rattle.calls.specs.Accounts.{state_of, none_open, judged}
use Rattle.calls.proofs.Trading.{two_pass, this_order, place_in, none_met, one_met, met_found}
use Rattle.calls.proofs.accounts.Account.fillable.Goals as goal

-- the checks of an order that is there
abbrev rest : ℤ → ℤ → Order → List (Option Refusal)
rest quantity price o = unless (le_z quantity (pos (nat_abs o.rest.left))) MoreThanLeft ∷ unless (no_worse o.rest price) WorseThanLimit ∷ []

pub returns-in_err-place : goal.returns-in_err-place
returns-in_err-place g c =
    let s = state_of g.B.Bank.meaning c.args.self.now in
    let fits-quantity = c.ranges.quantity in
    let fits-price = c.ranges.price in
    let quantity : quantity_fits c.args.quantity ≡ true = sym (simp to_z-of_z at c.fill_fits.ensures) ∙ c.if-not-fill_fits.false in
    let price : price_fits c.args.price ≡ true = sym (simp to_z-of_z at c.price_fits.ensures) ∙ c.if-not-price_fits.false in
    let place = place_in c.args.number _ s.orders _ c.place_of.result (to_z-of_z w64 c.args.number c.ranges.number) c.deref.ensures.value c.place_of.ensures in
    let p = err_from_is_err_and c.from_residual.result c.from_residual.ensures.1 in
    rw (p.1, p.2) (
    two_pass _ _ BadQuantity BadPrice (order_checks (found c.args.number s.orders) (rest c.args.quantity c.args.price)) quantity price
    ∙ none_met c.args.number s.orders c.place_of.result (rest c.args.quantity c.args.price) c.in_err-place.field-0.0 place c.in_err-place.ensures.value)

pub returns-in_err-check_fill : goal.returns-in_err-check_fill
returns-in_err-check_fill g c =
    let s = state_of g.B.Bank.meaning c.args.self.now in
    let fits-quantity = c.ranges.quantity in
    let fits-price = c.ranges.price in
    let quantity : quantity_fits c.args.quantity ≡ true = sym (simp to_z-of_z at c.fill_fits.ensures) ∙ c.if-not-fill_fits.false in
    let price : price_fits c.args.price ≡ true = sym (simp to_z-of_z at c.price_fits.ensures) ∙ c.if-not-price_fits.false in
    let place = place_in c.args.number _ s.orders _ c.place_of.result (to_z-of_z w64 c.args.number c.ranges.number) c.deref.ensures.value c.place_of.ensures in
    let first = one_met c.args.number s.orders c.place_of.result c.in_ok-place.place place c.in_ok-place.ensures.value in
    let read = get_or_read s.orders c.in_ok-place.place c.index.result.now first.inside c.index.ensures none_open in
    let p = err_from_is_err_and c.from_residual-in_err-check_fill.result c.from_residual-in_err-check_fill.ensures.1 in
    rw (p.1, p.2) (two_pass _ _ BadQuantity BadPrice (order_checks (found c.args.number s.orders) (rest c.args.quantity c.args.price)) quantity price
    ∙ this_order _ _ (rest c.args.quantity c.args.price) (met_found s c.args.number c.in_ok-place.place first)
    ∙ ap (λ (o : Order). judged (rest c.args.quantity c.args.price o)) (sym read)
    ∙ sym (simp to_z-of_z at c.in_err-check_fill.ensures))

pub returns : goal.returns
returns g c =
    let s = state_of g.B.Bank.meaning c.args.self.now in
    let fits-quantity = c.ranges.quantity in
    let fits-price = c.ranges.price in
    let quantity : quantity_fits c.args.quantity ≡ true = sym (simp to_z-of_z at c.fill_fits.ensures) ∙ c.if-not-fill_fits.false in
    let price : price_fits c.args.price ≡ true = sym (simp to_z-of_z at c.price_fits.ensures) ∙ c.if-not-price_fits.false in
    let place = place_in c.args.number _ s.orders _ c.place_of.result (to_z-of_z w64 c.args.number c.ranges.number) c.deref.ensures.value c.place_of.ensures in
    let first = one_met c.args.number s.orders c.place_of.result c.in_ok-place.place place c.in_ok-place.ensures.value in
    let read = get_or_read s.orders c.in_ok-place.place c.index.result.now first.inside c.index.ensures none_open in (
      first,
      two_pass _ _ BadQuantity BadPrice (order_checks (found c.args.number s.orders) (rest c.args.quantity c.args.price)) quantity price
          ∙ this_order _ _ (rest c.args.quantity c.args.price) (met_found s c.args.number c.in_ok-place.place first)
          ∙ ap (λ (o : Order). judged (rest c.args.quantity c.args.price o)) (sym read)
          ∙ sym (simp to_z-of_z at c.in_ok-check_fill.ensures),
    )
