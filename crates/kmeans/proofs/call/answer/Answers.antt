use Rattle.kmeans.proofs.Calls.{gives_refused, gives_lost, gives_run}
use Rattle.std.proofs.Common.{Err, rules}
use lib.ListN.{length, replicate}
use lib.Ieee.{of_bits}
use mathlib.Core.Path.{◌≡◌, sym, ap, ◌∙◌}
use Prim.Native.Nat.{ℕ}
use Rattle.sums.specs.Sums.{zero32}
use Rattle.sums.specs.Refusals.{blank_cell}
use Rattle.kmeans.proofs.call.answer.Goals as goal

pub returns-in_err-check : goal.returns-in_err-check
returns-in_err-check c =
    let a = c.args in
    let is : c.from_residual.result ≡ Err c.in_err-check.field-0.0 = search rules in
    rw is
    (gives_refused a.mode a.rows a.dim a.k a.config a.draws.now a.values.now (length a.labels.now) (length a.centroids.now) (length a.training.now)
    c.check.result c.in_err-check.field-0.0 _ _ c.in_err-check.was c.check.ensures.refused c.requires.0 c.requires.1)

pub returns-in-Err : goal.returns-in-Err
unfolding of_bits
returns-in-Err c =
    let a = c.args in
    let kept = c.run_kmeans_flat-kept in
    let m = c.new.ensures in
    gives_lost a.mode a.rows a.dim a.k a.config a.draws.now a.values.now (length a.labels.now) (length a.centroids.now) (length a.training.now)
    c.new-draws.result _ kept.result _ _ (sym c.in_ok-check.ensures.refused) c.new-draws.ensures.lent c.new-draws.ensures.start kept.auto.labels kept.auto.centroids (rw (m.0, m.1.0, m.1.1) at kept.ensures)
    c.check-2.result c.in-Err.refusal _ _ c.in-Err.is c.check-2.ensures
    (c.fill.ensures.after (λ y e. e) ∙ ap (λ (n : ℕ). replicate n blank_cell) kept.auto.labels) (c.fill-in-Err.ensures.after (λ y e. e) ∙ ap (λ (n : ℕ). replicate n zero32) kept.auto.centroids)

pub returns : goal.returns
returns c =
    let a = c.args in
    let kept = c.run_kmeans_flat-kept in
    let m = c.new.ensures in
    gives_run a.mode a.rows a.dim a.k a.config a.draws.now a.values.now (length a.labels.now) (length a.centroids.now) (length a.training.now)
    c.new-draws.result _ kept.result _ _ (sym c.in_ok-check.ensures.refused) c.new-draws.ensures.lent c.new-draws.ensures.start kept.auto.labels kept.auto.centroids (rw (m.0, m.1.0, m.1.1) at kept.ensures)
    c.check-2.result _ c.in_default.is c.check-2.ensures
