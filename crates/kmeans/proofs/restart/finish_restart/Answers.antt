use Rattle.labels.proofs.Promises.{label_below, count_most}
use Rattle.sums.proofs.Rows.{rows_length}
use Rattle.sums.specs.Table.{rows_of}
use mathlib.Core.Path.{◌∙◌}
use native.Mathlib.Omega.{arith}
use Rattle.kmeans.proofs.restart.finish_restart.Goals as goal

pub compute_objective-objective-requires : goal.compute_objective-objective-requires
compute_objective-objective-requires c =
    let m = c.args.centroids in
    let b = label_below (rows_of m) (rows_of c.args.rows) (rw rows_length c.requires.0.1.0.0) in
    (c.assign_rows-tally.auto.labels ∙ c.requires.1.1, (c.requires.1.0, rw c.assign_rows-tally.ensures.labelled (rw (rows_length m.dim m.count m.values.now) at b)))

pub overflow_cast-result : goal.overflow_cast-result
overflow_cast-result c =
    let r = c.args.rows in
    omega (arith, c.assign_rows-tally.ensures.counted, count_most (rows_of c.args.centroids) (rows_of r), rows_length r.dim r.count r.values.now, c.requires.0.1.1)
