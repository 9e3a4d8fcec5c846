use lib.Seq.{length-take-le}
use lib.Ieee.{binary32, of_bits}
use lib.ListN.{length, replicate}
use mathlib.Core.Path.{◌≡◌, sym, ap, ◌∙◌}
use Rattle.sums.proofs.Fronts.{lent_front}
use Rattle.sums.proofs.Belows.{below_take}
use Rattle.labels.proofs.Columns.{row_long}
use Rattle.kmeans.proofs.Alikes.{norm_first, below_zeros}
use Rattle.kmeans.proofs.Rooms.{width_fits, cells_lent_lem}
use native.Mathlib.Omega.{arith}
use Rattle.kmeans.proofs.alike.run_alike.Goals as goal

pub run_alike_iterations-requires-clause-alone : goal.run_alike_iterations-requires-clause-alone
run_alike_iterations-requires-clause-alone c =
    let t = c.args.train.now.trainable in
    let p = t.planned in
    let r = c.args.train.now.rows in
    let wide : length c.row.result.now ≡ c.args.train.now.plan.dim = ap length c.row.ensures ∙ (row_long r 0 t.some_rows ∙ t.as_planned) in
    record {
      limits = rw (wide, cells_lent_lem p) ((p.some_dim, p.small_dim), ((p.some, p.few), omega arith));
      sum_cells = rw wide (c.sum_of.auto.sum ∙ length-take-le c.args.train.now.plan.dim (replicate 64 (of_bits binary32 0)) p.small_dim);
      centroid_cells = rw (wide, cells_lent_lem p) c.requires.centroids_len;
      total_cells = rw (wide, cells_lent_lem p) (lent_front _ 4096 c.room-totals.result c.room-totals.ensures (width_fits p));
      normed = rw c.row.ensures (norm_first r.dim r.count r.values.now c.args.train.now.norms.now t.some_rows t.normed);
      first = below_take 1 c.pool_size-held.result (replicate 64 0) (below_zeros 1 64 (omega arith));
    }

pub returns : goal.returns
returns c =
    let t = c.args.train.now.trainable in
    rw (c.row.ensures, ← c.requires.alike) at (c.run_alike_iterations.ensures (record {
      some = t.some_rows;
      summed = rw (c.requires.alike, ← c.row.ensures, t.as_planned) at c.sum_of.ensures;
      first = below_take 1 c.pool_size-held.result (replicate 64 0) (below_zeros 1 64 (omega arith));
      pooled = λ ds l. c.pool_size-held.ensures.1 ds l ∙ sym (length-take-le c.pool_size-held.result (replicate 64 0) (omega (arith, c.pool_size-held.ensures.0, t.planned.few)));
    }))
