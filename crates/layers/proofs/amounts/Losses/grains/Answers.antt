use Rattle.std.proofs.Common.{◌≡◌, ◌^◌, ◌<◌, length, take, sum, ◌∙◌, arith, rules}
use Rattle.margin.specs.Layers.{grains}
use Rattle.layers.proofs.Losses.{sum_listed, sum_sized}
use Rattle.layers.proofs.amounts.Losses.grains.Goals as goal

pub sum-requires : goal.sum-requires
sum-requires c =
    let losses = c.args.self.now.losses in
    let few : sum (take (length c.args.self.now.fitted.scene.families.now) losses) < 2 ^ 128 = omega (arith, sum_sized c.args.self.now.fitted.scene losses (2 ^ 78) c.args.self.now.held c.args.self.now.sized (length c.args.self.now.fitted.scene.families.now) c.args.self.now.fitted.fits.few_families) in
    search rules

pub returns : goal.returns
unfolding grains
returns c =
    let s = c.args.self.now.fitted.scene in
    let losses = c.args.self.now.losses in
    let is : c.sum.result ≡ sum (take (length s.families.now) losses) = search rules in
    record {
      value = is ∙ sum_listed s losses c.args.self.now.held (length s.families.now) c.args.self.now.fitted.fits.few_families;
      size = rw is (sum_sized s losses (2 ^ 78) c.args.self.now.held c.args.self.now.sized (length s.families.now) c.args.self.now.fitted.fits.few_families);
    }
