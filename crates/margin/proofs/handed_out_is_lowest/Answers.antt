use Rattle.margin.proofs.Chosen.{handed_out_is_lowest}
use Rattle.margin.proofs.OneLowest.{no_other_is_lowest}
use Rattle.margin.proofs.handed_out_is_lowest.Goals as goal

pub returns : goal.returns
returns c = record { lowest = handed_out_is_lowest; no_other = no_other_is_lowest }
