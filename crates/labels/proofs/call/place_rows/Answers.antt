use Rattle.std.proofs.Common.{ℕ, ◌≡◌, ◌∙◌, length, replicate, ap, arith}
use lib.Ieee.{of_bits}
use Rattle.sums.specs.Rows.{rows_from}
use Rattle.sums.specs.Sums.{zero32}
use Rattle.sums.specs.Refusals.{blank_cell}
use Rattle.sums.proofs.Rows.{rows_length}
use Rattle.labels.specs.Label.{nearests}
use Rattle.labels.specs.Call.{label_refusal}
use Rattle.labels.specs.Inside.{Assigned}
use Rattle.labels.proofs.Calls.{gives_refused, gives_lost, gives_labels}
use Rattle.labels.proofs.Promises.{count_most}
use Rattle.std.proofs.lemmas.Result.{err_from_is_err_and}
use Rattle.labels.proofs.call.place_rows.Goals as goal
use Rattle.labels.proofs.call.place_rows.Goals.{In_ok-check, After-assign_rows-tally}

pub returns-in_err-check : goal.returns-in_err-check
unfolding of_bits
returns-in_err-check c =
    let a = c.args in
    let p = err_from_is_err_and c.from_residual.result c.from_residual.ensures.1 in
    let w = gives_refused a.mode a.rows a.dim a.k a.values.now a.centroids.now (length a.labels.now) (length a.distances.now) c.in_err-check.field-0.0 c.fill.new.self c.fill-2.new.self
    (rw (c.fill.ensures.len, c.fill-2.ensures.len) at c.in_err-check.ensures.refused) (c.fill.ensures.after (λ _ e. e)) (c.fill-2.ensures.after (λ _ e. e)) in
    record { fact = rw (p.1, p.2) w.0; distances_after = w.1 }

-- the test passed, in the words of the lent lengths
passed : (c : In_ok-check) → let a = c.args in 0 ≡ label_refusal a.rows a.dim a.k (length a.values.now) (length a.centroids.now) (length a.labels.now) (length a.distances.now)
passed c = rw (c.fill.ensures.len, c.fill-2.ensures.len) at c.in_ok-check.ensures.refused

-- what the rows are assigned
assigned : (c : After-assign_rows-tally) → let a = c.args in
    Assigned (nearests (rows_from a.dim a.k a.centroids.now) (rows_from a.dim a.rows a.values.now)) c.fill.new.self c.assign_rows-tally.new.labels c.assign_rows-tally.new.distances c.assign_rows-tally.result
assigned c =
    let r = c.new-readings.ensures in
    let s = c.new.ensures in
    rw (r.0, r.1.0, r.1.1, s.0, s.1.0, s.1.1, c.in_ok-check.ensures.fits.1.1.1.0) at c.assign_rows-tally.ensures

pub overflow_cast-unplaced : goal.overflow_cast-unplaced
overflow_cast-unplaced c =
    let a = c.args in
    record {
      fits = omega (
        arith,
        (assigned (goal.at.overflow_cast-unplaced c).After-assign_rows-tally).counted,
        count_most (rows_from a.dim a.k a.centroids.now) (rows_from a.dim a.rows a.values.now),
        rows_length a.dim a.rows a.values.now,
      );
    }

pub returns-in-Err : goal.returns-in-Err
unfolding of_bits
returns-in-Err c =
    let at = goal.at.returns-in-Err c in
    let a = c.args in
    let w = gives_lost a.mode a.rows a.dim a.k a.values.now a.centroids.now (length a.labels.now) (length a.distances.now) _ _ _ _ _ _ c.in-Err.refusal
    (passed at.In_ok-check) (assigned at.After-assign_rows-tally) c.in-Err.ensures
    (c.fill-in-Err.ensures.after (λ _ e. e) ∙ ap (λ (n : ℕ). replicate n blank_cell) (c.assign_rows-tally.auto.labels ∙ c.fill.ensures.len))
    (c.fill-in-Err-2.ensures.after (λ _ e. e) ∙ ap (λ (n : ℕ). replicate n zero32) (c.assign_rows-tally.auto.distances ∙ c.fill-2.ensures.len)) in
    record { fact = w.0; distances_after = w.1 }

pub returns : goal.returns
returns c =
    let at = goal.at.returns c in
    let a = c.args in
    let w = gives_labels a.mode a.rows a.dim a.k a.values.now a.centroids.now (length a.labels.now) (length a.distances.now) _ _ _ _
    (passed at.In_ok-check) c.in_default.ensures (assigned at.After-assign_rows-tally) in
    record { fact = w.0; distances_after = w.1 }
