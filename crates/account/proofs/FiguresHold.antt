-- The figures, by computing.
use Rattle.std.proofs.Common.{refl}
use Rattle.terms.specs.Judging.{failing}
use Rattle.margin.specs.Sums.{total, least, least3}
use Rattle.margin.specs.Book.{names, named, netted_family, netted_basket, window_of, in_family, in_basket, in_month, is_future, of_line}
use Rattle.margin.specs.Cells.{position_result, order_result, above, charge, buys, sells, long_reach, short_reach, charges_at, charged, gridded, line_cell, month_cell, cells}
use Rattle.margin.specs.Layers.{loss_of, volatility_result, rate_result, twist_result, curve_result, month_result, netted_column, netted_basket_result, half_basket_result, basket_result, worst_within, netted_family_result, half_family_result, family_result, family_worst, family_loss, losses_below, grains}
use Rattle.margin.specs.Layers
use Rattle.margin.specs.LeastCover.{margin}
use Rattle.margin.specs.Figures.{future, netted_family_card, one_future, two_months}
use Rattle.account.specs.Orders.{signed, left_after, fill_state, state_after, order_after, is_gone, found, kept, orders_after}
use Rattle.account.specs.Account.{no_worse, step, run, answers}
use Rattle.account.specs.Begin.{put_in, begin}
use Rattle.account.specs.Figures.{Figures, begun, margin_after, told, holding, empty, twelve, spread, sell_of_five, buy_at}
use Rattle.account.specs.RefusedCalls.{RefusedCalls, one_of}

pub figures : Figures
unfolding failing total least least3 names named netted_family netted_basket window_of in_family in_basket in_month is_future of_line position_result order_result above charge buys sells long_reach short_reach charges_at charged gridded line_cell month_cell cells loss_of volatility_result rate_result twist_result curve_result month_result netted_column netted_basket_result half_basket_result basket_result worst_within netted_family_result half_family_result family_result family_worst family_loss losses_below grains Layers.margin_of margin future netted_family_card one_future two_months signed left_after fill_state state_after order_after is_gone found kept orders_after no_worse step run answers put_in begin begun margin_after told holding empty twelve spread sell_of_five buy_at
figures = record { nothing_held = refl; a_sell_open = refl; the_sell_filled = refl; a_buy_at_the_lowest = refl; a_buy_above_it = refl; one_more_is_not_covered = refl; half_months = refl }

pub refused_calls : RefusedCalls
unfolding failing total least least3 names named netted_family netted_basket window_of in_family in_basket in_month is_future of_line position_result order_result above charge buys sells long_reach short_reach charges_at charged gridded line_cell month_cell cells loss_of volatility_result rate_result twist_result curve_result month_result netted_column netted_basket_result half_basket_result basket_result worst_within netted_family_result half_family_result family_result family_worst family_loss losses_below grains Layers.margin_of margin future netted_family_card one_future two_months signed left_after fill_state state_after order_after is_gone found kept orders_after no_worse step run answers put_in begin begun margin_after told holding empty twelve spread sell_of_five buy_at one_of
refused_calls = record { places = refl; places_above_the_net = refl; places_above_32 = refl; fills_of_a_buy = refl; fills_of_a_sell = refl; amounts = refl; a_bad_family = refl; a_bad_month = refl; a_bad_line = refl; too_many_futures = refl; held_of_no_line = refl; held_too_many = refl; held_twice = refl; no_such_collateral = refl; held_not_covered = refl }
