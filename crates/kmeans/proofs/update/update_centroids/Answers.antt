use Rattle.sums.proofs.Rows.{room, rows_length, row_at_lem, part_length, part_put}
use Rattle.kmeans.proofs.Updates.{updating_step, updating_end}
use Rattle.sums.specs.Table.{rows_of}
use native.Mathlib.Nat.{le_of_eq}
use lib.ListN.{length, get_or}
use mathlib.Core.List.{[]}
use mathlib.Core.Path.{◌≡◌, sym, ◌∙◌}
use Prim.Native.Nat.{◌*◌, ◌<◌}
use Rattle.kmeans.proofs.update.update_centroids.Goals as goal

pub loop-j-preserved : goal.loop-j-preserved
loop-j-preserved c =
    let f = c.args.from in
    let dim = c.args.training.dim in
    let n = length c.args.counts.now in
    let j = c.loop-j.j in
    let l : j < n = c.loop-j-test.true in
    let used = c.update_cluster-used in
    let q = c.requires.centroids_len in
    let same : length c.loop-j.centroids ≡ n * dim = c.loop-j.auto.centroids ∙ q.0 in
    let size : length used.new.dst ≡ dim = used.auto.dst ∙ part_length (j * dim) dim c.loop-j.centroids (rw same (room j n dim l)) in
    let row : c.row.result.now ≡ get_or (rows_of f) j [] = c.row.ensures ∙ sym (row_at_lem f.dim f.count f.values.now j [] (rw q.1.1 l)) in
    rw (part_put dim n c.loop-j.centroids j used.new.dst l (le_of_eq (sym same)) size)
    (updating_step _ _ _ _ _ (rows_length f.dim f.count f.values.now ∙ q.1.1) (rows_length dim n c.loop-j.centroids) c.loop-j.invariant used.new.draws used.result used.new.dst l
    (rw row at used.ensures.fact, used.ensures.used_value))

pub returns : goal.returns
returns c =
    let f = c.args.from in
    updating_end _ _ _ _ _ (rows_length f.dim f.count f.values.now ∙ c.requires.centroids_len.1.1) (rows_length c.args.training.dim (length c.args.counts.now) c.loop-j.centroids) c.loop-j.invariant c.loop-j-test.false
