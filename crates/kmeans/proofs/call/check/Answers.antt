use mathlib.Core.Path.{sym}
use Prim.Native.Nat.{◌<◌}
use Rattle.std.proofs.Common.{rules}
use native.Mathlib.Omega.{arith}
use Rattle.kmeans.proofs.Calls.{ranged, lengthed}
use Rattle.kmeans.proofs.call.check.Goals as goal

pub returns-clause-fits : goal.returns-clause-fits
returns-clause-fits c =
    let a = c.args in
    let r = ranged a.rows a.dim a.k a.config (sym c.if-not-ranges_fit.ensures) in
    let l = lengthed a.rows a.dim a.k a.lent.values a.lent.labels a.lent.centroids a.lent.training (sym c.if-not-lengths_fit.ensures) in
    let some : 0 < a.draws = search (rules, c.if-not-contains.ensures.value, c.if-not-contains.ensures.cases, c.new.ensures) in
    ((((r.some_dim, r.small_dim), ((r.some, r.few), r.few_rows)), (omega (arith, c.if-rows-k.false), (r.few_points, r.some_block))), (l.1.0, (l.0, (l.1.1.0, (l.1.1.1, some)))))
