use Rattle.labels.proofs.Pools.{Pooled}
use lib.ListN.{take}
use mathlib.Core.List.{map}
use Prim.Native.Nat.{◌+◌}
use Rattle.labels.proofs.pool.join_block.Given as goal

abbrev pub invariant-loop-place : goal.invariant-loop-place
invariant-loop-place l = Pooled l.distances l.initial.at l.initial.held l.cap (map (λ p. l.start + p) (take l.place-index l.place-items)) l.held l.at
