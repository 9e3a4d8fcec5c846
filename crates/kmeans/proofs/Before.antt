-- The k-means of before 02 (iv), whose iterations know of no setting, and what stands on them: what an answer with the setting off is compared with.
-- Assumes nothing.
use mathlib.Core.Path.{◌≡◌, refl, ap, ◌∙◌}
use mathlib.Core.Bool.{false, cond}
use mathlib.Core.List.{List}
use Prim.Native.Nat.{ℕ, zero, suc, ◌+◌, ◌-◌}
use lib.Dec.{eqb}
use lib.Ieee.{Float}
use lib.ListN.{length}
use Rattle.sums.specs.Rows.{Row, rows_from, rows_at}
use Rattle.sums.specs.Refusals.{Answer, accepted, unless}
use Rattle.sphere.proofs.Units.{sphered_off}
use Rattle.labels.specs.declared.mode.Mode.{Mode}
use Rattle.labels.specs.Label.{nearests}
use Rattle.labels.specs.Mode.{unplaced_refusal}
use Rattle.kmeans.specs.declared.config.KMeansConfig.{KMeansConfig}
use Rattle.kmeans.specs.declared.config.Plan.{Plan}
use Rattle.kmeans.specs.Steps.{Fit, target, training_if, update, on_sphere, iterate}
use Rattle.kmeans.specs.KMeans.{Result, Run, first_fit, plan_of, fit_of, result_of, keep_better, restarts_from, restarts_of, kmeans}
use Rattle.kmeans.specs.Call.{kmeans_refusal, kmeans_call}

-- the iterations left: each hands on what its update gave
unfoldable pub iterate_before : List ℕ → ℕ → ℕ → ℕ → List Row → ℕ → Fit → Fit
iterate_before draws k dim block training zero fit = fit
iterate_before draws k dim block training (suc left) fit =
    iterate_before draws k dim block training left (update draws k dim block training fit.made (nearests fit.centroids training))

-- one restart after n draws
unfoldable pub fit_before : List ℕ → Plan → List Row → ℕ → Fit
fit_before draws plan training n = iterate_before draws plan.k plan.dim plan.block training plan.iterations (first_fit draws plan.k training n)

module _ (draws : List ℕ) (plan : Plan) (training rows : List Row) where
  -- the restarts left, the next of which has the number given
  unfoldable pub left_before : ℕ → ℕ → Run → Run
  left_before zero number run = run
  left_before (suc left) number run =
      let fit = fit_before draws plan training run.made in
      left_before left (suc number) (record { result = keep_better (result_of rows number fit.centroids) run.result; made = fit.made })

  -- the first restart, after n draws, and then the others
  unfoldable pub restarts_before : ℕ → ℕ → Run
  restarts_before others n =
      let fit = fit_before draws plan training n in
      left_before others 1 (record { result = result_of rows 0 fit.centroids; made = fit.made })

-- all five steps
unfoldable pub kmeans_before : List ℕ → ℕ → KMeansConfig → ℕ → ℕ → List Row → Run
kmeans_before draws n config k dim rows =
    let aim = target k config.max_points_per_centroid (length rows) in
    let all = eqb aim (length rows) in
    let training = rows_at rows (training_if all draws n aim (length rows)) in
    restarts_before draws (plan_of config k dim) training rows (config.nredo - 1) (n + cond all 0 aim)

-- the call
unfoldable pub call_before : Mode → ℕ → ℕ → ℕ → KMeansConfig → List ℕ → List Float → List ℕ → Answer Result
call_before mode rows dim k config draws values lent =
    let kept = (kmeans_before draws 0 config k dim (rows_from dim rows values)).result in
    unless (kmeans_refusal rows dim k config (length draws) (length values) lent) (unless (unplaced_refusal mode kept.unplaced) (accepted kept))

-- ---- off, all of it is what it was
module _ (draws : List ℕ) (k dim block : ℕ) (training : List Row) where
  pub iterate_off : (left : ℕ) (fit : Fit) → iterate false draws k dim block training left fit ≡ iterate_before draws k dim block training left fit
  unfolding iterate iterate_before
  iterate_off zero fit = refl
  iterate_off (suc left) fit =
      let u : Fit = update draws k dim block training fit.made (nearests fit.centroids training) in
      ap (iterate false draws k dim block training left) (same_off u) ∙ iterate_off left u
    where
      same_off : (f : Fit) → on_sphere false f ≡ f
      same_off f = rw (sphered_off f.centroids)

module _ (draws : List ℕ) (plan : Plan) (off : plan.spherical ≡ false) (training rows : List Row) where
  fit_off : (n : ℕ) → fit_of draws plan training n ≡ fit_before draws plan training n
  unfolding fit_of fit_before
  fit_off n = rw off (iterate_off draws plan.k plan.dim plan.block training plan.iterations (first_fit draws plan.k training n))

  left_off : (left number : ℕ) (run : Run) → restarts_from draws plan training rows left number run ≡ left_before draws plan training rows left number run
  unfolding restarts_from left_before
  left_off zero number run = refl
  left_off (suc left) number run = rw (fit_off run.made) (left_off left (suc number) _)

  restarts_off : (others n : ℕ) → restarts_of draws plan training rows others n ≡ restarts_before draws plan training rows others n
  unfolding restarts_of restarts_before
  restarts_off others n = rw (fit_off n) (left_off others 1 _)

module _ (config : KMeansConfig) (off : config.spherical ≡ false) (draws : List ℕ) where
  pub kmeans_off : (n k dim : ℕ) (rows : List Row) → kmeans draws n config k dim rows ≡ kmeans_before draws n config k dim rows
  unfolding kmeans kmeans_before
  kmeans_off n k dim rows = restarts_off draws (plan_of config k dim) off _ rows _ _

  pub call_off : (mode : Mode) (rows dim k : ℕ) (values : List Float) (lent : List ℕ)
      → kmeans_call mode rows dim k config draws values lent ≡ call_before mode rows dim k config draws values lent
  unfolding kmeans_call call_before
  call_off mode rows dim k values lent = rw (kmeans_off 0 k dim (rows_from dim rows values))
