use Rattle.std.proofs.Common.{◌≡◌, ◌+◌, length, drop, get_or, ap, ◌∙◌, [], arith}
use Rattle.grouping.proofs.Averages.{add_rows, divided_by, rows_more, rows_end}
use Rattle.grouping.proofs.Nearest.{row_named}
use Rattle.sums.specs.Table.{rows_of}
use Rattle.grouping.specs.Groups.{mean_of}
use Rattle.sums.specs.Sums.{add_row}
use Rattle.sums.specs.Rows.{Row, rows_at}
use Rattle.grouping.proofs.means.compute_centroid.Goals as goal

pub loop-number-preserved : goal.loop-number-preserved
loop-number-preserved c =
    let R = rows_of c.args.rows in
    let e : c.add_row.new.sums ≡ add_row c.loop-number.mean (get_or R (get_or c.args.group.now c.loop-number.number-index 0) [])
    = c.add_row.ensures ∙ ap (add_row c.loop-number.mean) (c.row.ensures ∙ row_named c.args.rows c.args.group.now c.requires.1.0 c.loop-number.number-index c.row_place.result (omega arith) c.row_place.ensures.0) in
    ap (λ (m : Row). add_rows m (rows_at R (drop (c.loop-number.number-index + 1) c.args.group.now))) e
    ∙ rows_more R c.args.group.now c.loop-number.mean _ c.loop-number.number-index (omega arith) c.loop-number.invariant

pub returns : goal.returns
unfolding mean_of
returns c =
    let R = rows_of c.args.rows in
    c.divide.ensures ∙ ap (divided_by (length c.args.group.now)) (rows_end R c.args.group.now c.loop-number.mean _ c.loop-number.number-index (omega arith) c.loop-number.invariant)
