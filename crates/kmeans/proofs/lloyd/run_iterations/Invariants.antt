use Rattle.kmeans.proofs.Turns.{Running}
use Rattle.kmeans.specs.Inside.{centroids_of}
use Rattle.sums.specs.Table.{rows_of}
use Rattle.kmeans.proofs.lloyd.run_iterations.Given as goal

abbrev pub invariant-loop-i : goal.invariant-loop-i
invariant-loop-i l =
    Running l.initial.draws l.train.plan (rows_of l.train.rows) (centroids_of l.train.plan l.initial.centroids) (centroids_of l.train.plan l.centroids) l.labels l.at l.state l.draws l.i
