use Rattle.std.proofs.Common.{◌≡◌, ◌*◌, min}
use Rattle.sums.specs.Tables.{tabulate}
use Rattle.labels.specs.Label.{nearest_from, nothing_yet}
use Rattle.labels.proofs.Searches.{panel_score}
use Rattle.labels.proofs.nearest.find_nearest_pair.Given as goal

abbrev pub invariant-loop-g : goal.invariant-loop-g
invariant-loop-g l =
    let seen = min (16 * l.g) l.k in
    (l.best.first ≡ nearest_from 0 (tabulate (panel_score l.row l.rownorm l.panels l.norms) seen) nothing_yet)
    × (l.best.second ≡ nearest_from 0 (tabulate (panel_score l.second l.secondnorm l.panels l.norms) seen) nothing_yet)
