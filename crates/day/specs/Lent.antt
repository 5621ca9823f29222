-- The day whose records stand in lists.
use Rattle.std.specs.Prelude.{take, drop}
use Rattle.load.specs.Days as load
use Rattle.day.specs.declared.lent.Day.{Day}

-- the first lines are futures, and the rest are options
abbrev pub day_of : Day → load.Day
day_of d =
    record {
      half = d.half;
      families = d.given.families.now;
      baskets = d.given.baskets.now;
      months = d.given.months.now;
      futures = take d.given.futures d.given.lines.now;
      options = drop d.given.futures d.given.lines.now;
      prices = d.prices.now;
      cash = d.cash;
      held = d.held.now;
      orders = d.orders.now;
    }
