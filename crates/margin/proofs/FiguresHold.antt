-- The figures, by computing.
use Rattle.std.proofs.Common.{refl}
use Rattle.margin.specs.Sums.{total, least, least3}
use Rattle.margin.specs.Book.{names, named, netted_family, netted_basket, window_of, in_family, in_basket, in_month, is_future, of_line}
use Rattle.margin.specs.Cells.{position_result, order_result, above, charge, buys, sells, long_reach, short_reach, charges_at, charged, gridded, line_cell, month_cell, cells}
use Rattle.margin.specs.Layers.{loss_of, volatility_result, rate_result, twist_result, curve_result, month_result, netted_column, netted_basket_result, half_basket_result, basket_result, worst_within, netted_family_result, half_family_result, family_result, family_worst, family_loss, losses_below, grains, margin_of}
use Rattle.margin.specs.Figures.{Figures, futures_price, cells_of, margin_for, future, netted_family_card, one_future, two_months, small_future, two_families, held, offer, holding, spread, one_of_each}

pub figures : Figures
unfolding total least least3 names named netted_family netted_basket window_of in_family in_basket in_month is_future of_line position_result order_result above charge buys sells long_reach short_reach charges_at charged gridded line_cell month_cell cells loss_of volatility_result rate_result twist_result curve_result month_result netted_column netted_basket_result half_basket_result basket_result worst_within netted_family_result half_family_result family_result family_worst family_loss losses_below grains margin_of futures_price cells_of margin_for future netted_family_card one_future two_months small_future two_families held offer holding spread one_of_each
figures = record { nothing_held = refl; twelve_held = refl; twelve_short = refl; twenty_one_held = refl; a_sell_open = refl; the_sell_filled = refl; a_buy_at_the_lowest = refl; a_buy_above_it = refl; rounded_once = refl; netted_months = refl; netted_months_loss = refl; netted_months_point = refl; half_months = refl }
