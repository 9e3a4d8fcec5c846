use Rattle.sums.proofs.Belows.{below_take, below_drop}
use Rattle.sums.proofs.Fronts.{take_few}
use Rattle.sums.proofs.Rows.{part_length}
use Rattle.grouping.proofs.Averages.{filling_start, filling_more, filling_end, filling_room}
use lib.ListN.{drop}
use Prim.Native.Nat.{◌-◌, ◌*◌}
use native.Mathlib.Omega.{arith}
use Rattle.grouping.proofs.means.fill_means.Goals as goal

pub loop-g-init : goal.loop-g-init
loop-g-init c = filling_start c.args.rows c.args.order.now c.args.ends.now c.args.groups c.args.means.now c.requires.groups_in_bounds.1

pub compute_centroid-requires : goal.compute_centroid-requires
compute_centroid-requires c =
    let r = filling_room c.loop-g.invariant c.requires.groups_in_bounds.0 c.requires.below c.requires.means_len.1.1.0 c.requires.means_len.1.0 (omega arith) c.from-end.result c.from-end.ensures in
    let m = take_few (c.from-end.result - c.loop-g.start) (drop c.loop-g.start c.args.order.now) in
    let b = below_take _ (c.from-end.result - c.loop-g.start) (drop c.loop-g.start c.args.order.now) (below_drop _ c.loop-g.start c.args.order.now c.requires.below.0) in
    (part_length (c.loop-g.g * c.args.rows.dim) c.args.rows.dim c.loop-g.means r.1, (rw c.requires.means_len.0 b, omega (arith, m, c.requires.means_len.1.1.1)))

pub loop-g-preserved : goal.loop-g-preserved
loop-g-preserved c = filling_more c.loop-g.invariant c.requires.groups_in_bounds.0 c.requires.below c.requires.means_len.1.1.0 c.requires.means_len.1.0 (omega arith) c.from-end.result c.from-end.ensures c.compute_centroid.new.mean c.compute_centroid.ensures

pub returns : goal.returns
returns c = filling_end c.loop-g.invariant c.requires.groups_in_bounds.0 (omega arith)
