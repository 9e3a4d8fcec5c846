use Rattle.labels.proofs.Pools.{Gathering}
use Rattle.labels.proofs.pool.gather_pool.Given as goal

abbrev pub invariant-loop-start : goal.invariant-loop-start
invariant-loop-start l = Gathering l.distances l.block l.cap l.initial.at l.held l.at l.start
