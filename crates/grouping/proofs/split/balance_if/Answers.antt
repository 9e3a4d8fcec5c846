use Rattle.grouping.proofs.Rounds.{whole_table}
use Rattle.grouping.proofs.Splits.{balanced_above}
use Rattle.grouping.specs.PartsInside.{table_of}
use Rattle.sums.specs.Table.{rows_of}
use lib.Ieee.{of_bits}
use mathlib.Core.Path.{◌≡◌, sym, ap, ◌∙◌}
use Rattle.grouping.proofs.split.balance_if.Goals as goal

pub returns-then-weight : goal.returns-then-weight
unfolding of_bits
returns-then-weight c =
    let a = c.args in
    let same = c.requires.parted.alike in
    let centres : table_of a.rows.dim a.centroids.values.now ≡ rows_of a.centroids
    = ap (λ d. table_of d a.centroids.values.now) (sym same) ∙ whole_table a.centroids (rw same c.requires.wide) in
    λ ps laid. balanced_above _ _ _ _ ps c.if-weight.true (rw (whole_table a.rows c.requires.wide, centres) at (c.balance_clusters.ensures ps laid).0)
