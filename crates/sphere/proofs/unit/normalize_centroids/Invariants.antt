use Rattle.std.proofs.Common.{◌≡◌, [], ◌++◌, get_or, drop}
use Rattle.sums.specs.Tables.{tabulate}
use Rattle.sums.specs.Rows.{rows_from}
use Rattle.sphere.specs.Unit.{unit_row}
use Rattle.sphere.proofs.unit.normalize_centroids.Given as goal

abbrev pub invariant-loop-c : goal.invariant-loop-c
invariant-loop-c l =
    let rows = rows_from l.dim l.k l.initial.centroids in
    rows_from l.dim l.k l.centroids ≡ tabulate (λ i. unit_row (get_or rows i [])) l.c ++ drop l.c rows
