-- How many centroids and labels there are, step by step, and which; and where they lie with `spherical` on. Assumes nothing.
use mathlib.Core.Path.{◌≡◌, refl, ◌∙◌}
use mathlib.Core.Bool.{Bool, true, false, cond}
use mathlib.Core.List.{List, map}
use Prim.Native.Nat.{ℕ, zero, suc, ◌-◌, ◌≤◌, ◌<◌}
use native.Mathlib.Omega.{arith}
use lib.Dec.{eqb}
use lib.Ieee.{lt}
use lib.ListN.{length, length-map}
use Rattle.sums.specs.Rows.{Row, rows_at}
use Rattle.sums.specs.Cells.{Below}
use Rattle.sums.specs.Draws.{pick}
use Rattle.sphere.specs.Unit.{unit_row, sphered}
use Rattle.labels.specs.Label.{nearests}
use Rattle.labels.proofs.Promises.{label_count, label_below, count_most}
use Rattle.kmeans.specs.declared.config.KMeansConfig.{KMeansConfig}
use Rattle.kmeans.specs.declared.config.Plan.{Plan}
use Rattle.kmeans.specs.Steps.{Fit, target, training_if, update, iterate}
use Rattle.kmeans.specs.KMeans.{Result, Run, plan_of, first_fit, result_of, keep_better, fit_of, restarts_from, restarts_of, kmeans}
use Rattle.sums.proofs.Picks.{pick_length}
use Rattle.kmeans.proofs.Sizes.{iterate_length}
use Rattle.kmeans.proofs.Selects.{training_length, target_enough, target_within}

first_length : (draws : List ℕ) (k : ℕ) (training : List Row) (n : ℕ) → k ≤ length training → length (first_fit draws k training n).centroids ≡ k
unfolding first_fit
first_length draws k training n h = length-map (pick draws n k (length training)) _ ∙ pick_length draws (length training) n k h

-- ---- what every result has
pub record Clustered (k : ℕ) (rows : List Row) (r : Result) : Type 0 where
  pub labelled : length r.labels ≡ length rows
  pub centred : length r.centroids ≡ k
  pub below : 0 < k → Below k r.labels

clustered : (k : ℕ) (rows : List Row) (number : ℕ) (centroids : List Row) → length centroids ≡ k → Clustered k rows (result_of rows number centroids)
unfolding result_of
clustered k rows number centroids e = record {
  labelled = label_count centroids rows;
  centred = e;
  below = λ h. rw e at (label_below centroids rows (rw e h));
}

-- ---- what holds of every restart's result holds of the one kept
module _ (draws : List ℕ) (plan : Plan) (training rows : List Row) (P : Result → Type 0) (each : (number n : ℕ) → P (result_of rows number (fit_of draws plan training n).centroids)) where
  kept_each : (new old : Result) → P new → P old → P (keep_better new old)
  unfolding keep_better
  kept_each new old p q = go (lt new.objective old.objective)
    where
      go : (t : Bool) → P (cond t new old)
      go true = p
      go false = q

  from_each : (left number : ℕ) (run : Run) → P run.result → P (restarts_from draws plan training rows left number run).result
  unfolding restarts_from
  from_each zero number run c = c
  from_each (suc left) number run c = from_each left (suc number) _ (kept_each _ _ (each number run.made) c)

  of_each : (others n : ℕ) → P (restarts_of draws plan training rows others n).result
  unfolding restarts_of
  of_each others n = from_each others 1 _ (each 0 n)

module _ (draws : List ℕ) (plan : Plan) (training rows : List Row) (h : plan.k ≤ length training) where
  fit_length : (n : ℕ) → length (fit_of draws plan training n).centroids ≡ plan.k
  unfolding fit_of
  fit_length n = iterate_length draws plan.k plan.dim _ training plan.spherical plan.iterations _ (first_length draws plan.k training n h)

  of_clustered : (others n : ℕ) → Clustered plan.k rows (restarts_of draws plan training rows others n).result
  of_clustered others n = of_each draws plan training rows (Clustered plan.k rows) (λ number m. clustered plan.k rows number _ (fit_length m)) others n

pub kmeans_clustered : (draws : List ℕ) (n : ℕ) (config : KMeansConfig) (k dim : ℕ) (rows : List Row) → k ≤ length rows → Clustered k rows (kmeans draws n config k dim rows).result
unfolding kmeans
kmeans_clustered draws n config k dim rows h =
    let aim = target k config.max_points_per_centroid (length rows) in
    let numbers = training_if (eqb aim (length rows)) draws n aim (length rows) in
    let long : length (rows_at rows numbers) ≡ aim
    = length-map numbers _ ∙ training_length draws n aim (length rows) (target_within k config.max_points_per_centroid (length rows) h) in
    of_clustered draws (plan_of config k dim) (rows_at rows numbers) rows (rw long (target_enough k config.max_points_per_centroid (length rows))) (config.nredo - 1) _

-- ---- no result has more unplaced rows than there are rows
few_result : (rows : List Row) (number : ℕ) (centroids : List Row) → (result_of rows number centroids).unplaced ≤ length rows
unfolding result_of
few_result rows number centroids = count_most centroids rows

pub kmeans_few : (draws : List ℕ) (n : ℕ) (config : KMeansConfig) (k dim : ℕ) (rows : List Row) → (kmeans draws n config k dim rows).result.unplaced ≤ length rows
unfolding kmeans
kmeans_few draws n config k dim rows = of_each draws (plan_of config k dim) _ rows (λ (r : Result). r.unplaced ≤ length rows) (λ number m. few_result rows number _) (config.nredo - 1) _

-- ---- with the setting on every centroid is one that was brought to length one
abbrev pub Sphered : List Row → Type 0
Sphered centroids = (updated : List Row) × (centroids ≡ map unit_row updated)

iterate_sphered : (draws : List ℕ) (k dim block : ℕ) (training : List Row) (left : ℕ) (fit : Fit) → Sphered (iterate true draws k dim block training (suc left) fit).centroids
unfolding iterate sphered
iterate_sphered draws k dim block training zero fit = ((update draws k dim block training fit.made (nearests fit.centroids training)).centroids, refl)
iterate_sphered draws k dim block training (suc left) fit = iterate_sphered draws k dim block training left _

fit_sphered : (draws : List ℕ) (plan : Plan) (training : List Row) (n : ℕ) → plan.spherical ≡ true → 0 < plan.iterations → Sphered (fit_of draws plan training n).centroids
unfolding fit_of
fit_sphered draws plan training n on some =
    let e : plan.iterations ≡ suc (plan.iterations - 1) = omega arith in
    rw (on, e) (iterate_sphered draws plan.k plan.dim plan.block training (plan.iterations - 1) (first_fit draws plan.k training n))

result_sphered : (rows : List Row) (number : ℕ) (centroids : List Row) → Sphered centroids → Sphered (result_of rows number centroids).centroids
unfolding result_of
result_sphered rows number centroids s = s

pub kmeans_sphered : (draws : List ℕ) (n : ℕ) (config : KMeansConfig) (k dim : ℕ) (rows : List Row) → config.spherical ≡ true → 0 < config.niter
    → Sphered (kmeans draws n config k dim rows).result.centroids
unfolding kmeans
kmeans_sphered draws n config k dim rows on some =
    of_each draws (plan_of config k dim) _ rows (λ (r : Result). Sphered r.centroids) (λ number m. result_sphered rows number _ (fit_sphered draws (plan_of config k dim) _ m on some)) (config.nredo - 1) _
