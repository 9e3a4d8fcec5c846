use Rattle.kmeans.proofs.Alikes.{label_one, label_below_one}
use Rattle.sums.specs.Table.{rows_of}
use mathlib.Core.Path.{sym, ◌∙◌}
use Rattle.kmeans.proofs.alike.label_of.Goals as goal

pub returns : goal.returns
returns c =
    let m = c.args.centroids in
    let e = c.from.ensures ∙ label_one (rows_of m) c.args.row _ (sym c.requires.0.labelled) c.assign_rows.ensures.labelled in
    (e, rw (sym e) at (label_below_one m.dim m.count m.values.now c.args.row.values.now c.requires.1))
