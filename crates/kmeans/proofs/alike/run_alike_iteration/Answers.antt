use mathlib.Core.Path.{sym, ◌∙◌}
use lib.ListN.{length}
use Rattle.sums.specs.Rows.{rows_from}
use Rattle.kmeans.proofs.Alikes.{one_of, alike_drawn}
use Rattle.kmeans.proofs.alike.run_alike_iteration.Goals as goal

pub label_of-c-requires : goal.label_of-c-requires
label_of-c-requires c =
    let a = c.requires in
    let o = c.new-alone.ensures in
    let m = c.new.ensures in (
      record {
        some_dim = rw o.1.0 a.limits.0.0;
        small_dim = rw o.1.0 a.limits.0.1;
        few = rw m.1.1 a.limits.1.0.1;
        alike = m.1.0 ∙ sym o.1.0;
        labelled = sym o.1.1;
        measured = sym o.1.1;
        normed = rw (one_of c.new-alone.result o.1.1, o.0) a.normed;
      },
      rw m.1.1 a.limits.1.0.0,
    )

pub returns : goal.returns
returns c = λ block a.
    let o = c.new-alone.ensures in
    let m = c.new.ensures in
    let t = c.new-2.ensures in
    let found = rw (m.0, m.1.0, m.1.1, o.0) at c.label_of-c.ensures in
    let u = rw (one_of c.new-alone.result o.1.1, o.0, o.1.0, t.0, t.1.0, t.1.1, c.put_alone.auto.counts) at c.update_centroids.ensures in
    alike_drawn a (rows_from (length c.args.row.now) (length c.args.counts.now) c.args.centroids.now) c.label_of-c.result found.0 found.1
    c.put_alone.ensures.counts_after (rw c.requires.sum_cells at c.put_alone.ensures.totals_after) u
