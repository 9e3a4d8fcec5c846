use Rattle.std.proofs.Common.{◌<◌, ◌+◌, get_or, take, arith}
use Rattle.labels.proofs.Pools.{pooled_in, pooled_out, pooled_none, join_position, join_step, join_end}
use Rattle.labels.proofs.pool.join_block.Goals as goal
use Rattle.labels.proofs.pool.join_block.Goals.{In-loop-place}

pub loop-place-init : goal.loop-place-init
loop-place-init c = pooled_none c.args.distances.now c.args.at.now c.args.count c.args.cap c.requires.holds.0

-- the position turned into a training position lies in the block
position : (c : In-loop-place) → c.args.start + get_or (take c.block_pool-n.result c.block_pool-n.new.at) c.loop-place.place-index 0 < c.args.end
position c =
    join_position c.args.distances.now c.args.start c.args.end _ c.requires.start_le_end.1 c.block_pool-n.ensures.0 c.requires.start_le_end.0 c.loop-place.place-index c.loop-place-test.true

pub in_training-p-requires : goal.in_training-p-requires
in_training-p-requires c = omega (arith, position (goal.at.in_training-p-requires c).In-loop-place, c.requires.holds, c.requires.start_le_end)

pub insert_candidate-held-requires : goal.insert_candidate-held-requires
insert_candidate-held-requires c = (c.loop-place.invariant.held, omega (arith, position (goal.at.insert_candidate-held-requires c).In-loop-place, c.in_training-p.ensures, c.requires.start_le_end))

pub loop-place-preserved : goal.loop-place-preserved
loop-place-preserved c =
    let put = c.insert_candidate-held.ensures in
    join_step c.args.distances.now c.args.start c.args.end _ c.requires.start_le_end.1 c.block_pool-n.ensures.0 c.loop-place.invariant c.loop-place-test.true (omega (arith, c.in_training-p.ensures)) (pooled_in (put.at_after, put.at_unchanged))

pub returns : goal.returns
returns c =
    let w = pooled_out (join_end c.args.distances.now c.args.start c.args.end _ c.requires.start_le_end.1 c.block_pool-n.ensures.0 c.loop-place.invariant (omega arith)) in
    record { at_after = w.0; at_unchanged = w.1 }
