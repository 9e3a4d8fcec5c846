use Rattle.sums.specs.Table.{rows_of}
use Rattle.sums.specs.Sums.{zero32}
use Rattle.kmeans.specs.Steps.{objective_from}
use lib.ListN.{drop}
use mathlib.Core.Path.{◌≡◌}
use Rattle.kmeans.proofs.objective.compute_objective.Given as goal

abbrev pub invariant-loop-i : goal.invariant-loop-i
invariant-loop-i l = objective_from l.total (rows_of l.centroids) (drop l.i l.labels) (drop l.i (rows_of l.rows)) ≡ objective_from zero32 (rows_of l.centroids) l.labels (rows_of l.rows)
