use Rattle.std.proofs.Common.{rules}
use Rattle.sums.specs.Refusals.{lowest_from}
use Rattle.labels.specs.Call.{label_refusal}
use Rattle.labels.proofs.call.check.Goals as goal
use Rattle.labels.proofs.call.check.Goals.{else-values-n-via-then-values-n+then-centroids-clusters+then-labels-n+else-distances-n, else-values-n-via-then-values-n+then-centroids-clusters+else-labels-n, else-values-n-via-then-values-n+else-centroids-clusters, else-values-n-via-else-values-n}

pub returns-else-values-n-clause-refused : goal.returns-else-values-n-clause-refused
unfolding label_refusal lowest_from
returns-else-values-n-clause-refused c = elim c.else-values-n.branch [
  | else-values-n-via-then-values-n+then-centroids-clusters+then-labels-n+else-distances-n w ↦ search rules
  | else-values-n-via-then-values-n+then-centroids-clusters+else-labels-n w ↦ search rules
  | else-values-n-via-then-values-n+else-centroids-clusters w ↦ search rules
  | else-values-n-via-else-values-n w ↦ search rules
]
