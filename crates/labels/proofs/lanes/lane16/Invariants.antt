use Rattle.labels.proofs.Columns.{lane_at}
use Rattle.sums.specs.Tables.{tabulate}
use lib.ListN.{drop}
use mathlib.Core.List.{◌++◌}
use mathlib.Core.Path.{◌≡◌}
use Rattle.labels.proofs.lanes.lane16.Given as goal

abbrev pub invariant-loop-j : goal.invariant-loop-j
invariant-loop-j l = l.acc ≡ tabulate (lane_at l.initial.acc l.x l.panel l.at) l.j ++ drop l.j l.initial.acc
