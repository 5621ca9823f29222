use Rattle.margin.proofs.Cover.{margin_is_the_least_cover}
use Rattle.margin.proofs.margin_is_the_least_cover.Goals as goal

pub returns : goal.returns
returns c = margin_is_the_least_cover
