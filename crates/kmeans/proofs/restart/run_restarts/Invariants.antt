use Rattle.kmeans.proofs.Restarts.{Trying}
use Rattle.kmeans.specs.Inside.{centroids_of}
use Rattle.sums.specs.Table.{rows_of}
use Rattle.kmeans.proofs.restart.run_restarts.Given as goal

abbrev pub invariant-loop-number : goal.invariant-loop-number
invariant-loop-number l =
    Trying l.initial.draws l.train.plan (rows_of l.train.rows) (rows_of l.rows) l.restarts l.initial.labels (centroids_of l.train.plan l.initial.centroids) l.initial.best l.labels (centroids_of l.train.plan l.centroids) l.best l.draws l.number
