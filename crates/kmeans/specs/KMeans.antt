-- 01, 'K-means', steps 2 and 5 and all five together, over the rows as a list. Draws are counted from the start of the call.
use Rattle.std.specs.Prelude.{Bool, false, cond, List, ℕ, zero, suc, ◌+◌, ◌-◌, eqb, length, Float}
use Rattle.std.specs.Float.Ieee.{lt}
use Rattle.sums.specs.Rows.{Row, rows_at}
use Rattle.sums.specs.Sums.{zero32}
use Rattle.sums.specs.Draws.{pick}
use Rattle.labels.specs.Label.{nearests, labels_of, unplaced_of}
use Rattle.kmeans.specs.Steps.{target, training_if, Fit, iterate, objective_from}
use Rattle.kmeans.specs.declared.config.KMeansConfig.{KMeansConfig}
use Rattle.kmeans.specs.declared.config.Plan.{Plan}

-- the source's defaults, and grouping's, which passes on whether centroids are brought to length one (01, 'Ranges and refusal numbers'; 02 (iv))
abbrev pub usual : KMeansConfig
usual = record { niter = 25; nredo = 1; spherical = false; max_points_per_centroid = 256; decode_block_size = 32768 }

abbrev pub for_grouping : Bool → KMeansConfig
for_grouping spherical = record { niter = 100; nredo = 1; spherical = spherical; max_points_per_centroid = 256; decode_block_size = 32768 }

-- ---- step 2: one restart

-- what a restart gives: with its number, how many rows its final labelling leaves unplaced (02 (ii))
abbrev pub Result : Type 0
Result = record { labels : List ℕ; centroids : List Row; objective : Float; restart : ℕ; unplaced : ℕ }

-- k training positions picked as centroids, in picked order
unfoldable pub first_fit : List ℕ → ℕ → List Row → ℕ → Fit
first_fit draws k training n = record { centroids = rows_at training (pick draws n k (length training)); made = n + k }

-- what the steps know of the settings
abbrev pub plan_of : KMeansConfig → ℕ → ℕ → Plan
plan_of config k dim = record { dim = dim; k = k; iterations = config.niter; block = config.decode_block_size; spherical = config.spherical }

-- one restart after n draws: first centroids, and all the iterations
unfoldable pub fit_of : List ℕ → Plan → List Row → ℕ → Fit
fit_of draws plan training n = iterate plan.spherical draws plan.k plan.dim plan.block training plan.iterations (first_fit draws plan.k training n)

-- all rows labelled by the centroids of the restart given, and the objective
unfoldable pub result_of : List Row → ℕ → List Row → Result
result_of rows number centroids =
    let found = nearests centroids rows in
    let labels = labels_of found in
    record { labels = labels; centroids = centroids; objective = objective_from zero32 centroids labels rows; restart = number; unplaced = unplaced_of found }

-- ---- step 5: the restart kept, and the draws made

abbrev pub Run : Type 0
Run = record { result : Result; made : ℕ }

-- the earlier one stays until a later one has a strictly smaller objective
unfoldable pub keep_better : Result → Result → Result
keep_better new old = cond (lt new.objective old.objective) new old

module _ (draws : List ℕ) (plan : Plan) (training rows : List Row) where
  -- the restarts left, the next of which has the number given
  unfoldable pub restarts_from : ℕ → ℕ → Run → Run
  restarts_from zero number run = run
  restarts_from (suc left) number run =
      let fit = fit_of draws plan training run.made in
      restarts_from left (suc number)
      (record { result = keep_better (result_of rows number fit.centroids) run.result; made = fit.made })

  -- the first restart, after n draws, and then the others
  unfoldable pub restarts_of : ℕ → ℕ → Run
  restarts_of others n =
      let fit = fit_of draws plan training n in
      restarts_from others 1 (record { result = result_of rows 0 fit.centroids; made = fit.made })

-- K-means after n draws of the call, of rows of dim values, all five steps
unfoldable pub kmeans : List ℕ → ℕ → KMeansConfig → ℕ → ℕ → List Row → Run
kmeans draws n config k dim rows =
    let aim = target k config.max_points_per_centroid (length rows) in
    let all = eqb aim (length rows) in
    let training = rows_at rows (training_if all draws n aim (length rows)) in
    restarts_of draws (plan_of config k dim) training rows (config.nredo - 1) (n + cond all 0 aim)
