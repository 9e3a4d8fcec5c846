use Rattle.grouping.proofs.Averages.{add_rows}
use Rattle.sums.specs.Table.{rows_of}
use Rattle.sums.specs.Sums.{zero_row}
use Rattle.sums.specs.Rows.{rows_at}
use lib.ListN.{drop}
use mathlib.Core.Path.{◌≡◌}
use Rattle.grouping.proofs.means.compute_centroid.Given as goal

abbrev pub invariant-loop-number : goal.invariant-loop-number
invariant-loop-number l = add_rows l.mean (rows_at (rows_of l.rows) (drop l.number-index l.group)) ≡ add_rows (zero_row l.rows.dim) (rows_at (rows_of l.rows) l.group)
