-- The day that a session file describes, and the lists that it is read into.
use Rattle.std.specs.Prelude.{List, length, replicate, ℤ, pos}
use Rattle.kinds.specs.Formats.{family_format, basket_format, month_format, future_format, held_format, order_format}
use Rattle.kinds.specs.declared.Order.{Order}
use Rattle.terms.specs.declared.cards.Basket.{Basket}
use Rattle.terms.specs.declared.cards.Family.{Family}
use Rattle.terms.specs.declared.cards.Held.{Held}
use Rattle.terms.specs.declared.cards.Line.{Line}
use Rattle.terms.specs.declared.cards.Month.{Month}
use Rattle.terms.specs.declared.half.Half.{Half}
use Rattle.load.specs.declared.lists.Lists.{Lists}
use Rattle.load.specs.declared.lists.Lengths.{Lengths}

pub record Day : Type 0 where
  pub half : Half
  pub families : List Family
  pub baskets : List Basket
  pub months : List Month
  pub futures : List Line
  pub options : List Line
  -- those of the options, line by line, column by column, point by point
  pub prices : List ℤ
  pub cash : ℤ
  pub held : List Held
  pub orders : List Order

-- what the lists hold
pub record Contents : Type 0 where
  pub families : List Family
  pub baskets : List Basket
  pub months : List Month
  pub lines : List Line
  pub prices : List ℤ
  pub held : List Held
  pub orders : List Order

abbrev pub contents_of : Lists → Contents
contents_of l = record { families = l.families.now; baskets = l.baskets.now; months = l.months.now; lines = l.lines.now; prices = l.prices.now; held = l.held.now; orders = l.orders.now }

abbrev pub lengths_of : Contents → Lengths
lengths_of c = record { families = length c.families; baskets = length c.baskets; months = length c.months; lines = length c.lines; prices = length c.prices; held = length c.held; orders = length c.orders }

-- lists of the same lengths in which every record is zero
abbrev pub zeros : Contents → Contents
zeros c =
    record {
      families = replicate (length c.families) family_format.empty;
      baskets = replicate (length c.baskets) basket_format.empty;
      months = replicate (length c.months) month_format.empty;
      lines = replicate (length c.lines) future_format.empty;
      prices = replicate (length c.prices) (pos 0);
      held = replicate (length c.held) held_format.empty;
      orders = replicate (length c.orders) order_format.empty;
    }
