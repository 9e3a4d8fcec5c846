use Rattle.labels.proofs.Pools.{pooled_in, empty, block_step, block_end}
use borrow.Author.Rules.{rules}
use native.Mathlib.Omega.{arith}
use Rattle.labels.proofs.pool.block_pool.Goals as goal

pub loop-i-init : goal.loop-i-init
loop-i-init c = empty _ _ 8 (search rules) c.requires.0

pub insert_candidate-count-requires : goal.insert_candidate-count-requires
insert_candidate-count-requires c = (c.loop-i.invariant.held, omega arith)

pub loop-i-preserved : goal.loop-i-preserved
loop-i-preserved c = block_step _ _ _ _ _ _ c.loop-i.i c.loop-i.invariant (pooled_in (c.insert_candidate-count.ensures.at_after, c.insert_candidate-count.ensures.at_unchanged))

pub returns : goal.returns
returns c = block_end c.args.distances.now _ _ _ c.loop-i.i (omega arith) c.loop-i.invariant
