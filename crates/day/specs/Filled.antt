-- The day whose records stand at the front of lists that were filled.
use Rattle.std.specs.Prelude.{◌+◌, ◌≤◌, length, take, drop}
use Rattle.load.specs.declared.loading.Loaded.{Loaded}
use Rattle.load.specs.Days as load

abbrev pub used_day : Loaded → load.Contents → load.Day
used_day used c =
    record {
      half = used.half;
      families = take used.families c.families;
      baskets = take used.baskets c.baskets;
      months = take used.months c.months;
      futures = take used.futures (take (used.futures + used.options) c.lines);
      options = drop used.futures (take (used.futures + used.options) c.lines);
      prices = take used.prices c.prices;
      cash = used.cash;
      held = take used.held c.held;
      orders = take used.orders c.orders;
    }

-- no more are in use than there are
pub record Within (used : Loaded) (c : load.Contents) : Type 0 where
  pub families : used.families ≤ length c.families
  pub baskets : used.baskets ≤ length c.baskets
  pub months : used.months ≤ length c.months
  pub lines : used.futures + used.options ≤ length c.lines
  pub prices : used.prices ≤ length c.prices
  pub held : used.held ≤ length c.held
  pub orders : used.orders ≤ length c.orders
