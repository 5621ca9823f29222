use Rattle.margin.proofs.Cover.{margin_falls_as_cells_rise}
use Rattle.margin.proofs.margin_falls_as_cells_rise.Goals as goal

pub returns : goal.returns
returns c = margin_falls_as_cells_rise
