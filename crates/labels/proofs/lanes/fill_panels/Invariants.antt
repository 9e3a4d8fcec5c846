use Rattle.labels.proofs.Columns.{in_panels}
use Rattle.sums.specs.Tables.{tabulate}
use lib.ListN.{take}
use mathlib.Core.Path.{◌≡◌}
use Prim.Native.Nat.{◌*◌}
use Rattle.labels.proofs.lanes.fill_panels.Given as goal

abbrev pub invariant-loop-g : goal.invariant-loop-g
invariant-loop-g l = take (l.g * (16 * l.centroids.dim)) l.panels ≡ tabulate (in_panels l.centroids) (l.g * (16 * l.centroids.dim))
