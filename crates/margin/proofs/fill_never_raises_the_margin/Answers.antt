use Rattle.margin.proofs.Easier.{fill_never_raises_the_margin, last_fill_never_raises_the_margin}
use Rattle.margin.proofs.fill_never_raises_the_margin.Goals as goal

pub returns : goal.returns
returns c = record { some_left = fill_never_raises_the_margin; none_left = last_fill_never_raises_the_margin }
