use Rattle.std.proofs.Common.{◌*◌, length, drop_of_length-le, ◌∙◌, arith}
use Rattle.std.proofs.lemmas.Result.{err_from_is_err_and}
use Rattle.exports.proofs.Exporting.{label_placed, label_lost}
use Rattle.labels.specs.Call.{label_call, Gives}
use Rattle.words.specs.Bytes.{floats_from}
use Rattle.exports.proofs.bytes.label_inside.Goals as goal
use Rattle.exports.proofs.bytes.label_inside.Goals.{After-label_rows}

-- what `label_rows` ensures, of the bytes
labels : (c : After-label_rows)
    → let a = c.args in
    Gives (label_call a.mode 1 a.dim a.k (floats_from a.dim a.row.now) (floats_from (a.k * a.dim) a.centroids.now) 1 1) 1 c.label_rows.result c.label_rows.new.labels
labels c = rw (c.read_all.ensures, c.read_all-2.ensures, c.requires.v_len.0, c.requires.v_len.1.0, c.requires.v_len.1.1) at c.label_rows.ensures

pub returns-in_err-label_rows : goal.returns-in_err-label_rows
returns-in_err-label_rows c =
    let a = c.args in
    let d = c.requires.dim_nonzero in
    let p = err_from_is_err_and c.from_residual.result c.from_residual.ensures.1 in
    rw (p.1, p.2) (label_lost a.mode a.dim a.k a.row.now a.centroids.now c.label_rows.result c.label_rows.new.labels d.0 d.1.0 d.1.1.0 d.1.1.1 (labels (goal.at.returns-in_err-label_rows c).After-label_rows)
    (length a.res.now) _ _ c.in_err-label_rows.was c.requires.res_len.1)

pub returns : goal.returns
returns c =
    let a = c.args in
    let d = c.requires.dim_nonzero in
    label_placed a.mode a.dim a.k a.row.now a.centroids.now c.label_rows.result c.label_rows.new.labels d.0 d.1.0 d.1.1.0 d.1.1.1 (labels (goal.at.returns c).After-label_rows)
    (length a.res.now) _ _ c.in_ok-label_rows.was (c.put_at.ensures ∙ rw (drop_of_length-le a.res.now {i = 2} (omega (arith, c.requires.res_len.0))))
