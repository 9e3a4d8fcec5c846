use Rattle.kmeans.proofs.Restarts.{ran}
use Rattle.kmeans.proofs.Selects.{target_enough, target_within}
use Rattle.sums.proofs.Fronts.{Front, front, lent_front}
use Rattle.sums.proofs.Rows.{rows_length}
use lib.Seq.{length-take-le}
use lib.ListN.{length, take, drop}
use native.Mathlib.Nat.{mul-le-mul, mul-le-mul_right}
use mathlib.Core.List.{◌++◌}
use mathlib.Core.Path.{◌≡◌, refl, sym, ◌∙◌}
use Prim.Native.Nat.{◌*◌, ◌≤◌}
use native.Mathlib.Omega.{arith}
use Rattle.kmeans.proofs.restart.run_kmeans_flat.Goals as goal
use Rattle.kmeans.proofs.restart.run_kmeans_flat.Goals.{After-target-aim}

-- how many rows train: at least k, and no more than there are
enough : (c : After-target-aim) → c.args.k ≤ c.target-aim.result
enough c = let a = c.args in rw c.target-aim.ensures (target_enough a.k a.config.max_points_per_centroid a.rows.count)

within : (c : After-target-aim) → c.target-aim.result ≤ c.args.rows.count
within c = let a = c.args in rw c.target-aim.ensures (target_within a.k a.config.max_points_per_centroid a.rows.count c.requires.limits.1.0)

few : (c : After-target-aim) → c.target-aim.result ≤ 4096
few c = omega (arith, within c, c.requires.limits.0.1.1)

-- their cells are lent
fits : (c : After-target-aim) → c.target-aim.result * c.args.rows.dim ≤ length c.args.training.now
fits c = rw c.requires.labels_len.1.1 (mul-le-mul_right c.args.rows.dim (within c))

lent : (c : After-target-aim) → let n = c.target-aim.result * c.args.rows.dim in length (take n c.args.training.now) ≡ n
lent c = length-take-le _ c.args.training.now (fits c)

pub overflow_mul-gathered : goal.overflow_mul-gathered
overflow_mul-gathered c = omega (arith, mul-le-mul (few (goal.at.overflow_mul-gathered c).After-target-aim) c.requires.limits.0.0.1)

pub slice_bounds-gathered-end : goal.slice_bounds-gathered-end
slice_bounds-gathered-end c = fits (goal.at.slice_bounds-gathered-end c).After-target-aim

pub slice_bounds-gathered-end-2 : goal.slice_bounds-gathered-end-2
slice_bounds-gathered-end-2 c = sym (lent (goal.at.slice_bounds-gathered-end-2 c).After-target-aim)

pub choose_training-requires : goal.choose_training-requires
choose_training-requires c = let w = (goal.at.choose_training-requires c).After-target-aim in (lent w, (within w, c.requires.limits.0.1.1))

pub new-chosen-requires : goal.new-chosen-requires
new-chosen-requires c = c.choose_training.auto.training ∙ lent (goal.at.new-chosen-requires c).After-target-aim

pub invariant_of-train : goal.invariant_of-train
invariant_of-train c =
    let w = (goal.at.invariant_of-train c).After-target-aim in
    let q = c.requires.limits in
    let m = c.new-chosen.ensures in
    let n = c.target-aim.result in
    let f : Front n (c.compute_norms.new.norms ++ drop n c.room-norms.result) c.compute_norms.new.norms
    = front refl (c.compute_norms.auto.norms ∙ lent_front n 4096 c.room-norms.result c.room-norms.ensures (few w)) _ in record {
      trainable = record {
        planned = record { some_dim = q.0.0.0; small_dim = q.0.0.1; some = q.0.1.0.0; few = q.0.1.0.1; some_block = q.1.1.1 };
        some_rows = rw m.1.1 (omega (arith, enough w, q.0.1.0.0));
        few_rows = rw m.1.1 (few w);
        as_planned = m.1.0;
        counted = f.long ∙ sym m.1.1;
        normed = f.is ∙ c.compute_norms.ensures;
      };
    }

pub run_restarts-requires : goal.run_restarts-requires
run_restarts-requires c = record {
  centroid_cells = c.requires.labels_len.1.0;
  enough = rw c.new-chosen.ensures.1.1 (enough (goal.at.run_restarts-requires c).After-target-aim);
  few_rows = c.requires.limits.0.1.1;
  as_planned = refl;
  labelled = c.requires.labels_len.0;
}

pub returns : goal.returns
returns c =
    let a = c.args in
    let r = a.rows in
    let m = c.new-chosen.ensures in
    ran _ _ _ a.config a.k r.dim c.target-aim.result r.count _ _ _ _ _ (rows_length r.dim r.count r.values.now) c.target-aim.ensures c.choose_training.ensures (rw (m.0, m.1.0, m.1.1) at c.run_restarts.ensures)
