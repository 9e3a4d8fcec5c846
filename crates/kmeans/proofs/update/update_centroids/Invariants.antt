use Rattle.sums.specs.Rows.{rows_from}
use Rattle.sums.specs.Table.{rows_of}
use Rattle.kmeans.proofs.Updates.{Updating}
use lib.ListN.{length}
use Rattle.kmeans.proofs.update.update_centroids.Given as goal

abbrev pub invariant-loop-j : goal.invariant-loop-j
invariant-loop-j l = Updating l.initial.draws (rows_of l.training) l.pool l.counts (rows_of l.from) (rows_from l.training.dim (length l.counts) l.centroids) l.draws l.used l.j
