use Rattle.labels.proofs.Columns.{in_panel}
use Rattle.sums.specs.Tables.{tabulate}
use lib.ListN.{take}
use mathlib.Core.Path.{◌≡◌}
use Prim.Native.Nat.{◌*◌}
use Rattle.labels.proofs.lanes.fill_panel.Given as goal

abbrev pub invariant-loop-d : goal.invariant-loop-d
invariant-loop-d l = take (16 * l.d) l.panel ≡ tabulate (in_panel l.centroids l.first) (16 * l.d)
