use Rattle.labels.proofs.Pools.{Pooled}
use Rattle.sums.specs.Tables.{up_to}
use Rattle.labels.proofs.pool.block_pool.Given as goal

abbrev pub invariant-loop-i : goal.invariant-loop-i
invariant-loop-i l = Pooled l.distances l.initial.at 0 8 (up_to l.i) l.count l.at
