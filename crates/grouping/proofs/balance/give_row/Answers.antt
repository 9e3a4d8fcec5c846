use Rattle.grouping.proofs.Rounds.{given_row, given_below}
use Rattle.grouping.proofs.Layouts.{start_le}
use Rattle.sums.proofs.Rows.{part_length}
use lib.ListN.{length, get_or}
use Rattle.sums.specs.Rows.{Row}
use Rattle.sums.specs.Table.{rows_of}
use Rattle.grouping.specs.Balance.{closest_of}
use borrow.Rule.Slice.PartMut.{mid_of}
use mathlib.Core.Path.{ap, ◌∙◌}
use Prim.Native.Nat.{◌+◌, ◌-◌, ◌<◌, ◌≤◌}
use native.Mathlib.Omega.{arith}
use Rattle.grouping.proofs.balance.give_row.Goals as goal

pub returns : goal.returns
returns c =
    let a = c.args in
    let l : c.start_of-from.result + c.from.result ≤ length a.part.now = omega (arith, start_le a.sizes.now a.g c.requires.g_in_bounds.0, c.requires.parted.whole, c.start_of-from.ensures, c.from.ensures) in
    let hj : c.find_closest_vector_to_centroid-j.result < get_or a.sizes.now a.g 0 = omega (arith, rw (part_length c.start_of-from.result c.from.result a.part.now l) at c.find_closest_vector_to_centroid-j.ensures.1) in record {
      given = (given_row a.rows a.centroids a.part.now a.sizes.now c.move_row.new.part c.move_row.new.sizes a.g a.r c.start_of-from.result (c.start_of-from.result + c.from.result) c.find_closest_vector_to_centroid-j.result c.requires.g_in_bounds.0 c.requires.g_in_bounds.1 c.requires.g_in_bounds.2 hj c.move_row.ensures
          c.requires.parted.centred c.start_of-from.ensures (omega (arith, c.from.ensures)) (c.find_closest_vector_to_centroid-j.ensures.0 ∙ ap (λ (row : Row). closest_of (rows_of a.rows) row (mid_of c.start_of-from.result (c.start_of-from.result + c.from.result - c.start_of-from.result) a.part.now)) c.row.ensures));
      below = (given_below a.rows a.centroids a.part.now a.sizes.now c.move_row.new.part c.move_row.new.sizes a.g a.r c.start_of-from.result (c.start_of-from.result + c.from.result) c.find_closest_vector_to_centroid-j.result c.requires.g_in_bounds.0 c.requires.g_in_bounds.1 c.requires.g_in_bounds.2 hj c.move_row.ensures
          c.requires.parted.whole _ c.requires.parted.below);
    }
