use Rattle.sums.specs.Tables.{tabulate}
use Rattle.sums.specs.Sums.{norm_of}
use Rattle.sums.specs.Rows.{row_at}
use lib.ListN.{take}
use mathlib.Core.Path.{◌≡◌}
use Rattle.labels.proofs.nearest.compute_norms.Given as goal

abbrev pub invariant-loop-i : goal.invariant-loop-i
invariant-loop-i l = take l.i l.norms ≡ tabulate (λ j. norm_of (row_at l.rows.values.now l.rows.dim j)) l.i
