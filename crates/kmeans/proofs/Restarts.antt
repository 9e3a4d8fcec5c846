-- A restart's parts put together, on lists. Assumes nothing.
use Prim.Native.Nat.{ℕ, suc, ◌+◌, ◌-◌, ◌≤◌, ◌<◌}
use mathlib.Core.Path.{◌≡◌, refl, ap, ◌∙◌}
use mathlib.Core.Bool.{true, false, cond}
use mathlib.Core.List.{List}
use native.Mathlib.Numerals.{add-one}
use native.Mathlib.Omega.{arith}
use lib.Dec.{eqb}
use lib.Ieee.{lt}
use lib.ListN.{length, take}
use Rattle.sums.specs.declared.cursor.Draws.{Draws}
use Rattle.sums.specs.Rows.{Row, rows_at}
use Rattle.sums.specs.Tables.{up_to}
use Rattle.sums.specs.Draws.{cursor_at, pick, exchanges_from}
use Rattle.sums.specs.Draws.{Drawn}
use Rattle.kmeans.specs.declared.config.KMeansConfig.{KMeansConfig}
use Rattle.kmeans.specs.declared.config.Plan.{Plan}
use Rattle.kmeans.specs.declared.call.Outcome.{Outcome}
use Rattle.kmeans.specs.declared.restart.Scored.{Scored}
use Rattle.kmeans.specs.Steps.{target, training_if}
use Rattle.kmeans.specs.KMeans.{Run, kmeans, plan_of, first_fit, keep_better, result_of, fit_of, restarts_from, restarts_of}
use Rattle.kmeans.specs.Inside.{Fitted, Restarted, Finished, held_of}

module _ (old new : Draws) (plan : Plan) (training rows : List Row) where
  -- the first restart: it is the one kept so far
  abbrev pub Begun : Outcome → List ℕ → List Row → Type 0
  Begun r labels centroids =
      let fit = fit_of old.list.now plan training in
      Drawn old new (held_of labels centroids r) (λ n. result_of rows 0 (fit n).centroids) (λ n. (fit n).made)

  -- one restart more, kept where its objective is strictly smaller
  abbrev pub Tried : ℕ → Outcome → Outcome → List ℕ → List ℕ → List Row → List Row → Type 0
  Tried number best r labels₀ labels centroids₀ centroids =
      let fit = fit_of old.list.now plan training in
      Drawn old new (held_of labels centroids r) (λ n. keep_better (result_of rows number (fit n).centroids) (held_of labels₀ centroids₀ best)) (λ n. (fit n).made)

  -- all restarts
  abbrev pub Restarts : ℕ → Outcome → List ℕ → List Row → Type 0
  Restarts restarts r labels centroids =
      let after : ℕ → Run = restarts_of old.list.now plan training rows (restarts - 1) in
      Drawn old new (held_of labels centroids r) (λ n. (after n).result) (λ n. (after n).made)

-- the whole run
abbrev pub Ran : Draws → Draws → KMeansConfig → ℕ → ℕ → List Row → Outcome → List ℕ → List Row → Type 0
Ran old new config k dim rows r labels centroids =
    Drawn old new (held_of labels centroids r) (λ n. (kmeans old.list.now n config k dim rows).result) (λ n. (kmeans old.list.now n config k dim rows).made)

-- ---- one restart: the first centroids picked, and all the iterations
pub restarted : (old next new : Draws) (plan : Plan) (m : ℕ) (training centroids₀ centroids : List Row) (places : List ℕ)
    → m ≡ length training → Drawn old next places (λ n. exchanges_from old.list.now m n 0 plan.k (up_to m)) (λ n. n + plan.k)
    → centroids₀ ≡ rows_at training (take plan.k places) → Fitted next new plan training centroids₀ centroids → Restarted old new plan training centroids
unfolding fit_of first_fit pick
restarted old next new plan m training centroids₀ centroids places e p g f = record {
  kept = f.kept ∙ p.kept;
  steps = λ n q.
      let w = p.steps n q in
      let x : centroids₀ ≡ rows_at training (take plan.k (exchanges_from old.list.now (length training) n 0 plan.k (up_to (length training)))) = g ∙ rw (w.0, e) in
      rw x at (rw p.kept at (f.steps (n + plan.k) (rw p.kept w.1)));
}

-- ---- the whole run: the rows that train, and all restarts over them
pub ran : (old next new : Draws) (config : KMeansConfig) (k dim aim m : ℕ) (training rows : List Row) (r : Outcome) (labels : List ℕ) (centroids : List Row)
    → length rows ≡ m → aim ≡ target k config.max_points_per_centroid m
    → Drawn old next training (λ n. rows_at rows (training_if (eqb aim m) old.list.now n aim m)) (λ n. n + cond (eqb aim m) 0 aim)
    → Restarts next new (plan_of config k dim) training rows config.nredo r labels centroids → Ran old new config k dim rows r labels centroids
unfolding kmeans
ran old next new config k dim aim m training rows r labels centroids e t s f = record {
  kept = f.kept ∙ s.kept;
  steps = λ n p. let w = s.steps n p in rw (e, ← t, ← w.0) (rw s.kept at (f.steps (n + cond (eqb aim m) 0 aim) (rw s.kept w.1)));
}

module _ (old new : Draws) (plan : Plan) (training rows : List Row) where
  -- ---- the first restart
  pub begun : (labels : List ℕ) (centroids : List Row) (scored : Scored) → Restarted old new plan training centroids → Finished rows centroids labels scored
      → Begun old new plan training rows (record { objective = scored.objective; restart = 0; unplaced = scored.unplaced }) labels centroids
  unfolding result_of
  begun labels centroids scored s f = record {
    kept = s.kept;
    steps = λ n p. let w = s.steps n p in (rw (← w.0, ← f.1.0, ← f.1.1, ← f.0), w.1);
  }

  -- ---- one restart more
  module _ (number : ℕ) (best : Outcome) (labels₀ labels : List ℕ) (centroids₀ centroids : List Row) (scored : Scored)
      (s : Restarted old new plan training centroids) (f : Finished rows centroids labels scored) where
    pub tried_better : lt scored.objective best.objective ≡ true
        → Tried old new plan training rows number best (record { objective = scored.objective; restart = number; unplaced = scored.unplaced }) labels₀ labels centroids₀ centroids
    unfolding keep_better result_of
    tried_better h = record {
      kept = s.kept;
      steps = λ n p. let w = s.steps n p in (rw (← w.0, ← f.1.0, h, ← f.1.1, ← f.0), w.1);
    }

    pub tried_kept : lt scored.objective best.objective ≡ false → Tried old new plan training rows number best best labels₀ labels₀ centroids₀ centroids₀
    unfolding keep_better result_of
    tried_kept h = record {
      kept = s.kept;
      steps = λ n p. let w = s.steps n p in (rw (← w.0, ← f.1.0, h), w.1);
    }

-- ---- the restarts in turn
module _ (old : Draws) (plan : Plan) (training rows : List Row) (restarts : ℕ) (labels₀ : List ℕ) (centroids₀ : List Row) (best₀ : Outcome) where
  -- after m draws for the first restart, the restarts from `number` on are left
  pub record Left (m : ℕ) (labels : List ℕ) (centroids : List Row) (best : Outcome) (now : Draws) (number : ℕ) : Type 0 where
    pub made : ℕ
    pub place : now.cursor ≡ cursor_at old.list.now made
    pub done : restarts_from old.list.now plan training rows (restarts - number) number (record { result = held_of labels centroids best; made = made })
        ≡ restarts_from old.list.now plan training rows (restarts - 1) 1 (record { result = held_of labels₀ centroids₀ best₀; made = m })

  pub record Trying (labels : List ℕ) (centroids : List Row) (best : Outcome) (now : Draws) (number : ℕ) : Type 0 where
    pub kept : now.list.now ≡ old.list.now
    pub left : (m : ℕ) → old.cursor ≡ cursor_at old.list.now m → Left m labels centroids best now number

  pub trying_start : Trying labels₀ centroids₀ best₀ old 1
  trying_start = record { kept = refl; left = λ m p. record { made = m; place = p; done = refl } }

  module _ {labels : List ℕ} {centroids : List Row} {best : Outcome} {now : Draws} {number : ℕ} (h : Trying labels centroids best now number) where
    pub trying_step : (labels' : List ℕ) (centroids' : List Row) (r : Outcome) (new : Draws) → number < restarts
        → Tried now new plan training rows number best r labels labels' centroids centroids' → Trying labels' centroids' r new (number + 1)
    unfolding restarts_from
    trying_step labels' centroids' r new l t = record {
      kept = t.kept ∙ h.kept;
      left = λ m p.
          let was = h.left m p in
          let w = rw h.kept at (t.steps was.made (rw h.kept was.place)) in
          let z : restarts - number ≡ suc (restarts - suc number) = omega arith in
          record { made = (fit_of old.list.now plan training was.made).made; place = w.1; done = rw (add-one number, w.0) (rw z at was.done) };
    }

    pub trying_end : (first : Draws) → restarts ≤ number → Begun first old plan training rows best₀ labels₀ centroids₀
        → Restarts first now plan training rows restarts best labels centroids
    unfolding restarts_from restarts_of
    trying_end first l b = record {
      kept = h.kept ∙ b.kept;
      steps = λ n p.
          let w = b.steps n p in
          let was = h.left (fit_of first.list.now plan training n).made (rw b.kept w.1) in
          let z : restarts - number ≡ 0 = omega arith in
          let x : record { result = held_of labels centroids best; made = was.made } ≡ restarts_of first.list.now plan training rows (restarts - 1) n = rw z at (rw w.0 at (rw b.kept at was.done)) in
          (ap (λ (y : Run). y.result) x, rw b.kept at was.place ∙ ap (λ (y : Run). cursor_at first.list.now y.made) x);
    }
