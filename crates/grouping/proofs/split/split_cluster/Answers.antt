use Rattle.std.proofs.Common.{◌≡◌, ℕ, ◌≤◌, ◌*◌, List, ◌++◌, length, drop, refl, sym, ◌∙◌, arith}
use native.Mathlib.Nat.{mul-le-mul, mul-le-mul_right}
use Rattle.sums.specs.Rows.{rows_from, rows_at}
use Rattle.sums.specs.Table.{rows_of}
use Rattle.sums.proofs.Fronts.{Front, front}
use Rattle.kmeans.specs.KMeans.{for_grouping}
use Rattle.grouping.specs.Parts.{gathered}
use Rattle.grouping.specs.PartsInside.{Laid}
use Rattle.grouping.proofs.Layouts.{sizes_total}
use Rattle.grouping.proofs.Splits.{Ran, Labelled, labelled, came_back, gather_space, gathered_laid, divided_done, refused_some}
use Rattle.grouping.proofs.split.split_cluster.Goals as goal
use Rattle.grouping.proofs.split.split_cluster.Goals.{After-gather, After-run_kmeans_flat-kept}

few : (r : After-run_kmeans_flat-kept) → length r.args.part.now ≤ 4096
few r = omega (arith, r.requires.sizes_in_bounds.1.0, r.requires.room.limits.1.1)

-- it ran over the group's rows
ran : (r : After-run_kmeans_flat-kept) → let a = r.args in let k = r.run_kmeans_flat-kept in
    Ran (for_grouping a.config.spherical) (length a.sizes.now) a.rows.dim (rows_at (rows_of a.rows) a.part.now) a.draws.now k.new.draws k.result k.new.labels
    (rows_from a.rows.dim (length a.sizes.now) k.new.centroids)
ran r =
    let cells : length r.args.part.now * r.args.rows.dim ≤ length r.args.gathered.now = rw r.requires.room.gathered_cells (mul-le-mul_right r.args.rows.dim r.requires.sizes_in_bounds.1.0) in
    let m = r.new.ensures in
    rw (r.for_grouping.ensures, m.0, m.1.0, m.1.1, (came_back _ _ r.args.gathered.now _ refl cells r.gather_rows.auto.dst).is, r.gather_rows.ensures) at
    r.run_kmeans_flat-kept.ensures

found : (r : After-run_kmeans_flat-kept) → Labelled r.args.rows.count (length r.args.sizes.now) r.args.part.now r.run_kmeans_flat-kept.new.labels
found r =
    labelled (for_grouping r.args.config.spherical) r.args.rows.dim r.run_kmeans_flat-kept.result _ (rows_of r.args.rows) r.args.part.now r.args.draws.now.inside r.args.draws.now.bits
    r.requires.room.limits.1.0.0 r.requires.sizes_in_bounds.0 r.requires.sizes_in_bounds.1.1 (ran r)

-- what the run leaves and the copy of the group, each at the front of its room
labels_hold : (g : After-gather) → let labels = g.run_kmeans_flat-kept.new.labels in Front (length g.args.part.now) (labels ++ drop (length g.args.part.now) g.room-labels.result) labels
labels_hold g = came_back _ 4096 _ _ g.room-labels.ensures (omega (arith, g.requires.sizes_in_bounds.1.0, g.requires.room.limits.1.1)) g.run_kmeans_flat-kept.auto.labels

centroids_hold : (g : After-gather) → let centroids = g.run_kmeans_flat-kept.new.centroids in let width = length g.args.sizes.now * g.args.rows.dim in
    Front width (centroids ++ drop width g.room-centroids.result) centroids
centroids_hold g = came_back _ 4096 _ _ g.room-centroids.ensures (mul-le-mul g.requires.room.limits.1.0.1 g.requires.room.limits.0.1) g.run_kmeans_flat-kept.auto.centroids

-- the rows gathered by the labels
abbrev made : (g : After-gather) → List (List ℕ)
made g = gathered (length g.args.sizes.now) g.args.part.now g.run_kmeans_flat-kept.new.labels

laid : (g : After-gather) → Laid (made g) g.gather.new.part g.gather.new.sizes
laid g =
    let copied : g.copy_from_slice.new.self ≡ g.args.part.now = g.copy_from_slice.ensures.after in
    gathered_laid (length g.args.sizes.now) (front copied refl (drop (length g.args.part.now) g.room-copied.result)).is
    (came_back _ 4096 _ _ g.room-labels.ensures (omega (arith, g.requires.sizes_in_bounds.1.0, g.requires.room.limits.1.1)) g.run_kmeans_flat-kept.auto.labels).is g.gather.ensures

pub returns-then-is_err : goal.returns-then-is_err
returns-then-is_err c =
    let r = (goal.at.returns-then-is_err c).After-run_kmeans_flat-kept in
    divided_done c.args.config.mode c.args.rows.dim c.run_kmeans_flat-kept.result (rows_of c.args.rows) c.args.config.weight c.args.config.spherical _ c.args.draws.now.inside c.args.draws.now.bits (few r) (ran r)
    refl c.check-done.ensures (λ e. absurd (refused_some c.check-done.result (sym c.is_err.ensures.value ∙ c.if-is_err.true) e))

pub gather-requires : goal.gather-requires
gather-requires c =
    let r = (goal.at.gather-requires c).After-run_kmeans_flat-kept in
    let copied : c.copy_from_slice.new.self ≡ c.args.part.now = c.copy_from_slice.ensures.after in
    gather_space (front copied refl (drop (length c.args.part.now) c.room-copied.result)).is (came_back _ 4096 _ _ c.room-labels.ensures (few r) c.run_kmeans_flat-kept.auto.labels).is (found r) (few r)

pub balance_if-requires-clause-parted : goal.balance_if-requires-clause-parted
balance_if-requires-clause-parted c =
    let r = (goal.at.balance_if-requires-clause-parted c).After-run_kmeans_flat-kept in
    let g = (goal.at.balance_if-requires-clause-parted c).After-gather in
    let l = laid g in
    record {
      below = rw l.0 (found r).below;
      centred = c.gather.auto.sizes;
      alike = refl;
      whole = sizes_total (made g) _ _ l.0 l.1;
      few = rw c.gather.auto.part (few r);
    }

pub returns : goal.returns
returns c =
    let r = (goal.at.returns c).After-run_kmeans_flat-kept in
    let g = (goal.at.returns c).After-gather in
    divided_done c.args.config.mode c.args.rows.dim c.run_kmeans_flat-kept.result (rows_of c.args.rows) c.args.config.weight c.args.config.spherical _ c.args.draws.now.inside c.args.draws.now.bits (few r) (ran r)
    refl c.check-done.ensures (λ e. rw ((centroids_hold g).is, c.gather.auto.part, c.gather.auto.sizes) at
    (c.balance_if.ensures (made g) (laid g)))
