use Rattle.std.proofs.Common.{length, sym}
use Rattle.std.proofs.lemmas.Result.{err_from_is_err_and}
use Rattle.exports.specs.Exports.{closure_written}
use Rattle.exports.proofs.Exporting.{call_refused, call_on, gave_refused}
use Rattle.exports.proofs.bytes.closure_on.Goals as goal

pub returns-in_err-check_closure : goal.returns-in_err-check_closure
returns-in_err-check_closure c =
    let a = c.args in
    let p = err_from_is_err_and c.from_residual.result c.from_residual.ensures.1 in
    rw (p.1, p.2, call_refused a.epsilon a.max_replicas a.dim a.count a.vector.now a.centroids.now (length a.res.now) _ c.in_err-check_closure.ensures.refused)
    (gave_refused (closure_written a.count) (length a.res.now) _ _ c.requires)

pub returns : goal.returns
returns c =
    let a = c.args in
    rw (call_on a.epsilon a.max_replicas a.dim a.count a.vector.now a.centroids.now (length a.res.now) (sym c.in_ok-check_closure.ensures.refused)) c.closure_inside.ensures
