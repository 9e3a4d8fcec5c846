use Rattle.replay.proofs.Agreeing.{kmeans_agreed, kmeans_read}
use Rattle.replay.specs.Replay.{kmeans_agrees_of}
use lib.ListN.{length}
use mathlib.Core.Path.{sym, ap, ◌∙◌}
use Prim.Native.Nat.{ℕ, ◌*◌}
use Rattle.replay.proofs.cases.kmeans_inside.Goals as goal

pub kmeans_told-requires : goal.kmeans_told-requires
kmeans_told-requires c = (c.requires.labels_len.0 ∙ ap (λ (n : ℕ). n * 4) (sym c.families_kmeans-number.auto.labels), c.requires.labels_len.1.0 ∙ ap (λ (n : ℕ). n * 4) (sym c.families_kmeans-number.auto.centroids))

pub shape_of-d : goal.shape_of-d
shape_of-d c = c.read_all.auto.out

pub shape_of-v : goal.shape_of-v
shape_of-v c = c.read_all-2.auto.out

pub shape_of-l : goal.shape_of-l
shape_of-l c = c.families_kmeans-number.auto.labels

pub shape_of-c : goal.shape_of-c
shape_of-c c = c.families_kmeans-number.auto.centroids

pub shape_of-training : goal.shape_of-training
shape_of-training c = c.families_kmeans-number.auto.training

pub returns : goal.returns
unfolding kmeans_agrees_of
returns c =
    kmeans_agreed _ c.args.head.bytes.now c.args.labels.now c.args.centroids.now (length c.args.l.now) (length c.args.c.now) c.families_kmeans-number.result _ _ _ _ _ _ c.kmeans_told.ensures c.families_kmeans-number.auto.labels c.families_kmeans-number.auto.centroids
    (kmeans_read c.args.head.bytes.now c.args.draws.now c.args.values.now (length c.args.d.now) (length c.args.v.now) (length c.args.l.now) (length c.args.c.now) _ _ _ _ _ _ _ _ _ _ _ _ _ _ _ _ c.word.ensures c.word-2.ensures c.word-3.ensures c.word-4.ensures c.word-5.ensures c.word-6.ensures c.word-7.ensures c.read_all.ensures c.read_all-2.ensures c.requires.labels_len.1.1 c.families_kmeans-number.ensures.fact)
