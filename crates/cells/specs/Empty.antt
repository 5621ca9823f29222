-- What is read where there is no position or order.
use Rattle.std.specs.Prelude.{pos}
use Rattle.margin.specs.declared.book.Position.{Position}
use Rattle.margin.specs.declared.book.Open.{Open}

abbrev pub no_position : Position
no_position = record { net = pos 0; cost = pos 0 }

abbrev pub no_order : Open
no_order = record { line = 0; left = pos 0; limit = pos 0 }
