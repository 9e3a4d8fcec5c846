use Rattle.grouping.proofs.Rounds.{Balancing}
use Rattle.grouping.proofs.Seeks.{Seeking}
use Rattle.sums.specs.Table.{rows_of}
use Rattle.grouping.specs.Balance.{allowed}
use lib.ListN.{length}
use lib.Dec.{ltb}
use Prim.Native.Nat.{◌-◌}
use Rattle.grouping.proofs.balance.run_rounds.Given as goal

abbrev pub invariant-loop-i : goal.invariant-loop-i
invariant-loop-i l = Seeking (λ m. ltb (allowed l.share l.weight) m) l.sizes l.i

abbrev pub decreases-loop-i : goal.decreases-loop-i
decreases-loop-i l = length l.sizes - l.i

abbrev pub invariant-loop-j : goal.invariant-loop-j
invariant-loop-j l = Seeking (λ m. ltb m l.share) l.sizes l.j

abbrev pub decreases-loop-j : goal.decreases-loop-j
decreases-loop-j l = length l.sizes - l.j

abbrev pub invariant-rounds : goal.invariant-rounds
invariant-rounds l = Balancing (rows_of l.rows) (rows_of l.centroids) l.weight l.rows.count l.initial.part l.initial.sizes l.part l.sizes l.n

abbrev pub decreases-rounds : goal.decreases-rounds
decreases-rounds l = 10 - l.n
