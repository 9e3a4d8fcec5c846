use Rattle.replay.proofs.Agreeing.{whole_words, Fourfold, all_fourfold, room}
use Rattle.replay.specs.Replay.{kmeans_agrees}
use lib.Ieee.{binary32, of_bits}
use lib.ListN.{length}
use mathlib.Core.Bool.{true, ◌&&◌}
use mathlib.Core.Path.{◌≡◌, refl, sym, ap, ◌∙◌}
use Prim.Native.Nat.{ℕ, ◌*◌}
use Rattle.replay.proofs.cases.kmeans_agrees.Goals as goal
use Rattle.replay.proofs.cases.kmeans_agrees.Goals.{Else-not-all_whole}

-- every part is a whole number of words
tested : (c : Else-not-all_whole) → let a = c.args in (whole_words (length a.draws.now) && whole_words (length a.values.now) && whole_words (length a.labels.now) && whole_words (length a.centroids.now)) ≡ true
tested c = sym c.all_whole.ensures ∙ c.if-not-all_whole.false

whole : (c : Else-not-all_whole) → let a = c.args in Fourfold (length a.draws.now) (length a.values.now) (length a.labels.now) (length a.centroids.now)
whole c = let a = c.args in all_fourfold (length a.draws.now) (length a.values.now) (length a.labels.now) (length a.centroids.now) (tested c)

pub returns-then-not-all_whole : goal.returns-then-not-all_whole
unfolding kmeans_agrees
returns-then-not-all_whole c = rw (← c.all_whole.ensures, c.if-not-all_whole.true)

pub kmeans_inside-requires : goal.kmeans_inside-requires
kmeans_inside-requires c =
    let w = whole (goal.at.kmeans_inside-requires c).Else-not-all_whole in
    let rd = room {A = ℕ} 0 (length c.args.draws.now) c.requires.draws_len_bound.0 in
    let rv = room (of_bits binary32 0) (length c.args.values.now) c.requires.draws_len_bound.1 in
    let rl = room {A = ℕ} 0 (length c.args.labels.now) c.requires.labels_len_bound.0 in
    let rc = room (of_bits binary32 0) (length c.args.centroids.now) c.requires.labels_len_bound.1 in record { draws_len = ((w.draws_are ∙ ap (λ (n : ℕ). n * 4) (sym rd), w.values_are ∙ ap (λ (n : ℕ). n * 4) (sym rv))); labels_len = ((w.labels_are ∙ ap (λ (n : ℕ). n * 4) (sym rl), (w.centroids_are ∙ ap (λ (n : ℕ). n * 4) (sym rc), refl))) }

pub returns : goal.returns
unfolding kmeans_agrees
returns c =
    let rd = room {A = ℕ} 0 (length c.args.draws.now) c.requires.draws_len_bound.0 in
    let rv = room (of_bits binary32 0) (length c.args.values.now) c.requires.draws_len_bound.1 in
    let rl = room {A = ℕ} 0 (length c.args.labels.now) c.requires.labels_len_bound.0 in
    let rc = room (of_bits binary32 0) (length c.args.centroids.now) c.requires.labels_len_bound.1 in
    rw (tested (goal.at.returns c).Else-not-all_whole) (rw (rd, rv, rl, rc) at c.kmeans_inside.ensures)
