-- To say `unfolding opened` is to unfold the definitions of the layers, down to single operations of IEEE 754.
-- Only `iterate`, `parts_of` and `split_from` stay shut: a run of a hundred iterations is put in by its law and not computed.
use lib.Ieee.{add, sub, mul, div, lt, le, is_nan, of_int, to_unsigned}
use mathlib.Core.List.{flat_map, flatten}
use Rattle.sums.specs.Rows.{rows_from}
use Rattle.sums.specs.Sums.{sum_from, norm_of, dot_of, apart_of, spread_of, add_row}
use Rattle.sums.specs.Ordering.{place, order_from, keep}
use Rattle.sums.specs.Draws.{drawn, exchange, exchanges_from, pick}
use Rattle.sums.specs.Refusals.{same_all, lowest_from, unless, on_accepted}
use Rattle.sphere.specs.Root.{whole_root, dropped, scaled, digits_of, root_units, root_of}
use Rattle.sphere.specs.Unit.{times_all, unit_if, unit_row, sphered}
use Rattle.labels.specs.Label.{score_from, score, better, nearest_from, search, placement, nearest, nearests, unplaced_of}
use Rattle.labels.specs.Pool.{farther, block_pool, block_pools, pool}
use Rattle.labels.specs.Mode.{unplaced_refusal}
use Rattle.labels.specs.Call.{label_refusal, label_call}
use Rattle.kmeans.specs.Steps.{target, training_if, counts_from, sums_from, times_inverse, update_from, draws_after, update, objective_from}
use Rattle.kmeans.specs.KMeans.{first_fit, result_of, keep_better, fit_of, restarts_from, restarts_of, kmeans}
use Rattle.kmeans.specs.Call.{ranges_fit, lengths_fit, kmeans_refusal, kmeans_call}
use Rattle.closure.specs.Closure.{nearer, reach_of, listed, closure, any_nan, unordered}
use Rattle.closure.specs.Call.{closure_refusal, answered, closure_call}
use Rattle.grouping.specs.Parts.{having, flat}
use Rattle.grouping.specs.Balance.{allowed, seek, closest_from, closest_of, balanced, moves}
use Rattle.grouping.specs.Groups.{waits, pushed, after, front, back, group_from, mean_of}
use Rattle.grouping.specs.Call as call

-- all of them but picking
unfoldable pub unpicked : Unit {0}
unfolding add sub mul div lt le is_nan of_int to_unsigned flat_map flatten rows_from sum_from norm_of dot_of apart_of spread_of add_row place order_from keep same_all lowest_from unless on_accepted score_from score better nearest_from search placement nearest nearests unplaced_of farther block_pool block_pools pool unplaced_refusal label_refusal label_call target training_if counts_from sums_from times_inverse update_from draws_after update sphered objective_from first_fit result_of keep_better fit_of restarts_from restarts_of kmeans ranges_fit lengths_fit kmeans_refusal kmeans_call nearer reach_of listed closure any_nan unordered closure_refusal answered closure_call having flat allowed seek closest_from closest_of balanced moves waits pushed after front back group_from mean_of call.ranges_fit call.lengths_fit call.grouping_refusal call.grouping_call
unpicked = tt

unfoldable pub opened : Unit {0}
unfolding unpicked drawn exchange exchanges_from pick
opened = tt

-- and the root with what stands on it: where the setting is off, nobody looks at its 25 steps
unfoldable pub rooted : Unit {0}
unfolding whole_root dropped scaled digits_of root_units root_of times_all unit_if unit_row
rooted = tt
