use Rattle.kmeans.proofs.Rooms.{cells_lent_lem}
use Rattle.kmeans.proofs.Turns.{PoolFor, iteration_stops, iteration_goes}
use Rattle.kmeans.proofs.Summing.{Summed}
use Rattle.kmeans.proofs.Updates.{Updated}
use Rattle.kmeans.specs.Inside.{centroids_of}
use Rattle.kmeans.specs.Steps.{sums_from}
use Rattle.labels.specs.Inside.{Assigned}
use Rattle.labels.specs.Label.{nearests}
use Rattle.labels.proofs.Promises.{label_below}
use Rattle.sums.proofs.Rows.{rows_length}
use Rattle.sums.specs.Rows.{rows_from}
use Rattle.sums.specs.Sums.{zero_row}
use Rattle.sums.specs.Table.{rows_of}
use lib.ListN.{length, take, replicate}
use mathlib.Core.Path.{◌≡◌, ◌∙◌, subst}
use Prim.Native.Nat.{ℕ}
use native.Mathlib.Omega.{arith}
use Rattle.kmeans.proofs.lloyd.run_iteration.Goals as goal
use Rattle.kmeans.proofs.lloyd.run_iteration.Goals.{After-accumulate, After-assign_rows-tally, After-pool_for-held}

-- ---- what each step leaves, with the clusters counted and their values by the plan
labelled : (c : After-assign_rows-tally) → let a = c.args in
    Assigned (nearests (centroids_of a.train.now.plan a.centroids.now) (rows_of a.train.now.rows)) a.labels.now
    c.assign_rows-tally.new.labels c.assign_rows-tally.new.distances c.assign_rows-tally.result
labelled c = let m = c.new-centres.ensures in rw (m.0, m.1.0, m.1.1) at c.assign_rows-tally.ensures

counts_sized : (c : After-accumulate) → length c.accumulate.new.counts ≡ c.args.train.now.plan.k
counts_sized c = c.accumulate.auto.counts ∙ cells_lent_lem c.args.train.now.trainable.planned

summed : (c : After-accumulate) → let t = c.args.train.now in
    Summed t.plan.dim t.plan.k c.assign_rows-tally.new.labels (rows_of t.rows) c.accumulate.new.counts (rows_from t.plan.dim t.plan.k c.accumulate.new.totals)
summed c =
    let t = c.args.train.now in
    let s = rw (cells_lent_lem t.trainable.planned) at c.accumulate.ensures in
    (s.counts_after, subst (λ (d : ℕ). rows_from d t.plan.k c.accumulate.new.totals ≡ sums_from (replicate t.plan.k (zero_row d)) c.assign_rows-tally.new.labels (rows_of t.rows)) t.trainable.as_planned s.totals_after)

-- the positions at hand now
gathered : (c : After-pool_for-held) →
    PoolFor c.all_filled-filled.result c.assign_rows-tally.new.distances c.args.train.now.plan.block c.args.train.now.plan.k c.pool_for-held.result c.pool_for-held.new.at
gathered c = (c.pool_for-held.ensures.upper_bound, rw c.requires.labels_len.1.1.1 at c.pool_for-held.ensures.at_after)

pub accumulate-requires-clause-below : goal.accumulate-requires-clause-below
accumulate-requires-clause-below c =
    let t = c.args.train.now in
    let p = t.trainable.planned in
    let b = label_below (centroids_of t.plan c.args.centroids.now) (rows_of t.rows) (rw rows_length p.some) in
    let l = labelled (goal.at.accumulate-requires-clause-below c).After-assign_rows-tally in
    rw (cells_lent_lem p) (rw l.labelled (rw (rows_length t.plan.dim t.plan.k c.args.centroids.now) at b), omega (arith, c.assign_rows-tally.auto.labels, c.requires.labels_len.0, t.trainable.few_rows))

pub returns-then-repeated : goal.returns-then-repeated
returns-then-repeated c =
    let a = c.args in
    let w = goal.at.returns-then-repeated c in
    iteration_stops _ a.train.now.plan _ _ _ _ _ _ _ _ (labelled w.After-assign_rows-tally) (summed w.After-accumulate) a.before a.again c.all_filled-filled.result c.pool_for-held.result a.at.now c.pool_for-held.new.at
    c.all_filled-filled.ensures (gathered w.After-pool_for-held) (counts_sized w.After-accumulate)
    (c.if-again.true, (c.if-tally.true, rw c.copy_from_slice.ensures.after at (c.refills_repeat-repeated.ensures c.if-repeated.true)))

pub returns : goal.returns
returns c =
    let a = c.args in
    let t = a.train.now in
    let w = goal.at.returns c in
    let m = c.new-sums.ensures in
    let u = rw (m.0, m.1.0, m.1.1, counts_sized w.After-accumulate) at c.update_centroids.ensures in
    let updated : ℕ → Type 0 = λ d. Updated a.draws.now (rows_of t.rows) (take c.pool_for-held.result c.pool_for-held.new.at) c.accumulate.new.counts (rows_from t.plan.dim t.plan.k c.accumulate.new.totals) c.update_centroids.new.draws (rows_from d t.plan.k c.update_centroids.new.centroids) in
    iteration_goes _ t.plan _ _ _ _ _ _ _ _ (labelled w.After-assign_rows-tally) (summed w.After-accumulate) a.before a.again c.all_filled-filled.result c.pool_for-held.result a.at.now c.pool_for-held.new.at
    c.all_filled-filled.ensures (gathered w.After-pool_for-held) (counts_sized w.After-accumulate) _ _ _ (subst updated t.trainable.as_planned u) c.apply_spherical.ensures
