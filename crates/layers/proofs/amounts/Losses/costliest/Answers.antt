use Rattle.std.proofs.Common.{◌≡◌, rules}
use Rattle.layers.proofs.Filling.{made}
use Rattle.layers.proofs.Losses.{loss_listed, costliest_found}
use Rattle.layers.proofs.amounts.Losses.costliest.Goals as goal

pub returns : goal.returns
returns c =
    let losses = c.args.self.now.losses in
    let items = c.from_fn-listed.ensures.items in
    let each = made _ _ (λ f y. y ≡ loss_listed losses f) (λ f y q k. (search rules, search rules)) c.from_fn-listed.result 2 (loss_listed losses 0) items in
    costliest_found c.args.self.now.fitted.scene losses c.args.self.now.held c.args.self.now.fitted.fits.few_families c.from_fn-listed.result items.long each c.least.result _ c.map_or.result c.least.ensures.value (λ x p. search rules) c.map_or.ensures
