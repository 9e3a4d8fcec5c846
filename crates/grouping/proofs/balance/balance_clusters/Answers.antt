use Rattle.grouping.proofs.Rounds.{whole_front}
use Rattle.grouping.specs.PartsInside.{table_of}
use Rattle.sums.specs.Table.{rows_of}
use mathlib.Core.Path.{◌≡◌, refl}
use Rattle.grouping.proofs.balance.balance_clusters.Goals as goal

pub returns : goal.returns
returns c =
    let a = c.args in
    let r = c.new-rows.ensures in
    let k = c.new-centres.ensures in
    let e : rows_of c.new-rows.result ≡ table_of a.dim a.values.now = rw (r.0, r.1.0, r.1.1) (whole_front a.dim a.values.now _ refl) in
    let f : rows_of c.new-centres.result ≡ table_of a.dim a.centroids.now = rw (k.0, k.1.0, k.1.1) (whole_front a.dim a.centroids.now _ refl) in
    λ ps laid. rw (e, f) at (c.run_rounds.ensures ps laid)
