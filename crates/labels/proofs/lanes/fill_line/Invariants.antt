use Rattle.labels.specs.Panels.{value_at}
use Rattle.sums.specs.Tables.{tabulate}
use lib.ListN.{take}
use mathlib.Core.Path.{◌≡◌}
use Prim.Native.Nat.{◌+◌}
use Rattle.labels.proofs.lanes.fill_line.Given as goal

abbrev pub invariant-loop-j : goal.invariant-loop-j
invariant-loop-j l = take l.j l.line ≡ tabulate (λ i. value_at l.centroids (l.first + i) l.d) l.j
