use Rattle.std.proofs.Common.{length, sym}
use Rattle.std.proofs.lemmas.Result.{err_from_is_err_and}
use Rattle.words.specs.Bytes.{bytes16}
use Rattle.exports.proofs.Exporting.{label_refused, label_on, gave_refused}
use Rattle.exports.proofs.bytes.label_on.Goals as goal

pub returns-in_err-check_label : goal.returns-in_err-check_label
returns-in_err-check_label c =
    let a = c.args in
    let p = err_from_is_err_and c.from_residual.result c.from_residual.ensures.1 in
    rw (p.1, p.2, label_refused a.mode a.dim a.k a.row.now a.centroids.now (length a.res.now) _ c.in_err-check_label.ensures.refused)
    (gave_refused bytes16 (length a.res.now) _ _ c.requires)

pub returns : goal.returns
returns c =
    let a = c.args in
    rw (label_on a.mode a.dim a.k a.row.now a.centroids.now (length a.res.now) (sym c.in_ok-check_label.ensures.refused)) c.label_inside.ensures
