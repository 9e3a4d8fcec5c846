use Rattle.std.proofs.Common.{arith}
use Rattle.labels.proofs.Pools.{pooled_in, gathering_start, gathering_step, gathering_end}
use Rattle.labels.proofs.pool.gather_pool.Goals as goal

pub loop-start-init : goal.loop-start-init
loop-start-init c = gathering_start c.args.distances.now c.args.block c.args.cap c.args.at.now c.requires.0

pub loop-start-preserved : goal.loop-start-preserved
loop-start-preserved c =
    let put = c.join_block-held.ensures in
    gathering_step c.min-size.result c.loop-start.invariant c.loop-start-test.true c.requires.1.1 c.min-size.ensures (pooled_in (put.at_after, put.at_unchanged))

pub returns-clause-at_after : goal.returns-clause-at_after
returns-clause-at_after c = gathering_end c.loop-start.invariant c.loop-start-test.false

pub returns-2-clause-at_after : goal.returns-2-clause-at_after
returns-2-clause-at_after c =
    let put = c.join_block-held.ensures in
    gathering_end (gathering_step c.min-size.result c.loop-start.invariant c.loop-start-test.true c.requires.1.1 c.min-size.ensures (pooled_in (put.at_after, put.at_unchanged))) (omega arith)
