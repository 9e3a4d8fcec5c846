-- What the functions inside say of their slices.
use Rattle.std.specs.Prelude.{◌≡◌, Bool, true, false, ◌&&◌, List, [], ◌∷◌, ℕ, zero, suc, ◌*◌, ◌≤◌, ◌<◌, eqb, length, take, replicate, Float}
use Rattle.sums.specs.Rows.{Row, rows_from}
use Rattle.sums.specs.Sums.{zero32, zero_row}
use Rattle.sums.specs.Cells.{Below}
use Rattle.sums.specs.declared.cursor.Draws.{Draws}
use Rattle.sums.specs.declared.readings.Rows.{Rows}
use Rattle.sums.specs.Table.{rows_of}
use Rattle.sums.specs.Draws.{Drawn}
use Rattle.labels.specs.Inside.{norms_of}
use Rattle.labels.specs.Label.{nearests, labels_of, unplaced_of}
use Rattle.labels.specs.Pool.{pool}
use Rattle.kmeans.specs.declared.config.Plan.{Plan}
use Rattle.kmeans.specs.declared.lloyd.Iterated.{Iterated}
use Rattle.kmeans.specs.declared.call.Outcome.{Outcome}
use Rattle.kmeans.specs.declared.restart.Scored.{Scored}
use Rattle.kmeans.specs.Steps.{Fit, counts_from, sums_from, refit, update, on_sphere, iterate, objective_from}
use Rattle.kmeans.specs.KMeans.{Result, fit_of}

-- the values of a row, the clusters and the rows are within 01's ranges
abbrev pub Limits : ℕ → ℕ → ℕ → Type 0
Limits dim k rows = ((0 < dim) × (dim ≤ 64)) × (((0 < k) × (k ≤ 64)) × (rows ≤ 4096))

-- the centroids
abbrev pub centroids_of : Plan → List Float → List Row
centroids_of plan centroids = rows_from plan.dim plan.k centroids

-- a plan within 01's ranges
pub record Planned (plan : Plan) : Type 0 where
  pub some_dim : 0 < plan.dim
  pub small_dim : plan.dim ≤ 64
  pub some : 0 < plan.k
  pub few : plan.k ≤ 64
  pub some_block : 0 < plan.block

-- what iterations work on: training rows, as long as the plan says, with their norms
pub record Trainable (plan : Plan) (rows : Rows) (norms : List Float) : Type 0 where
  pub planned : Planned plan
  pub some_rows : 0 < rows.count
  pub few_rows : rows.count ≤ 4096
  pub as_planned : rows.dim ≡ plan.dim
  pub counted : length norms ≡ rows.count
  pub normed : norms ≡ norms_of (rows_of rows)

-- what restarts ask beyond that: rows enough for the clusters, room for the centroids, and all rows, which are labelled
pub record Restartable (plan : Plan) (training rows : Rows) (labels centroids : ℕ) : Type 0 where
  pub centroid_cells : centroids ≡ plan.k * plan.dim
  pub enough : plan.k ≤ training.count
  pub few_rows : rows.count ≤ 4096
  pub as_planned : rows.dim ≡ plan.dim
  pub labelled : labels ≡ rows.count

-- what empty clusters are filled from: training rows, and some of their positions in the pool
abbrev pub Sources : Rows → List ℕ → Type 0
Sources training pool = ((0 < training.count) × (training.count ≤ 65536)) × Below training.count pool

-- every empty cluster finds a position in both lists, one after the other, and the same in both: then refills need no draw, and are the same
unfoldable pub repeats : List ℕ → List ℕ → List ℕ → Bool
repeats [] new old = true
repeats (suc c ∷ counts) new old = repeats counts new old
repeats (zero ∷ counts) [] old = false
repeats (zero ∷ counts) (p ∷ new) [] = false
repeats (zero ∷ counts) (p ∷ new) (q ∷ old) = eqb p q && repeats counts new old

-- One iteration (01, 'K-means' step 3), after what the one before told: the update that the labels and the positions at hand lead to was made, at length one where that is on (02 (iv)); or
-- it stopped, since the labels and the refills are those of the one before.
pub record Iteration (old new : Draws) (plan : Plan) (training centroids₀ centroids : List Row) (labels₀ labels at₀ at : List ℕ) (before r : Iterated) (again : Bool) : Type 0 where
  pub labelled : labels ≡ labels_of (nearests centroids₀ training)
  pub held_fits : r.held ≤ length at
  pub leads : (n : ℕ) → update old.list.now plan.k plan.dim plan.block training n (nearests centroids₀ training)
      ≡ refit old.list.now plan.k plan.dim training n (take r.held at) labels
  pub goes : r.settled ≡ false → let after : ℕ → Fit = λ n. on_sphere plan.spherical (refit old.list.now plan.k plan.dim training n (take r.held at) labels) in
      Drawn old new centroids (λ n. (after n).centroids) (λ n. (after n).made)
  pub stops : r.settled ≡ true → (again ≡ true) × ((labels ≡ labels₀) × (repeats (counts_from (replicate plan.k 0) labels) (take r.held at) (take before.held at₀) ≡ true))
  pub stays : r.settled ≡ true → (centroids ≡ centroids₀) × ((new.list.now ≡ old.list.now) × (new.cursor ≡ old.cursor))

-- all the iterations asked for were made (01, 'K-means' step 3), from these centroids and this state of the draws: what both are then
abbrev pub Fitted : Draws → Draws → Plan → List Row → List Row → List Row → Type 0
Fitted old new plan training centroids₀ centroids =
    let after : ℕ → Fit = λ n. iterate plan.spherical old.list.now plan.k plan.dim plan.block training plan.iterations (record { centroids = centroids₀; made = n }) in
    Drawn old new centroids (λ n. (after n).centroids) (λ n. (after n).made)

-- one row, its norm and its sum, positions to fill empty clusters from, and room for k clusters
pub record Alone (row : Row) (norm : List Float) (sum : Row) (spare : List ℕ) (k centroids totals : ℕ) : Type 0 where
  pub limits : Limits (length row) k 1
  pub sum_cells : length sum ≡ length row
  pub centroid_cells : centroids ≡ k * length row
  pub total_cells : totals ≡ k * length row
  pub normed : norm ≡ norms_of (row ∷ [])
  pub first : Below 1 spare

-- what stands for `count` rows that are all one row: their sum, and a position for each of the first k of their pool
pub record Alike (k dim block count : ℕ) (row sum : Row) (spare : List ℕ) : Type 0 where
  pub some : 0 < count
  pub summed : sums_from (zero_row dim ∷ []) (replicate count 0) (replicate count row) ≡ sum ∷ []
  pub first : Below 1 spare
  pub pooled : (distances : List Float) → length distances ≡ count → length (take k (pool block distances)) ≡ length spare

-- a restart was made (01, 'K-means' steps 2 and 3): what the centroids and the draws are then
abbrev pub Restarted : Draws → Draws → Plan → List Row → List Row → Type 0
Restarted old new plan training centroids = Drawn old new centroids (λ n. (fit_of old.list.now plan training n).centroids) (λ n. (fit_of old.list.now plan training n).made)

-- all rows labelled by the centroids, their objective (01, 'K-means' step 4), and how many are unplaced
abbrev pub Finished : List Row → List Row → List ℕ → Scored → Type 0
Finished rows centroids labels r =
    let found = nearests centroids rows in
    (labels ≡ labels_of found) × ((r.objective ≡ objective_from zero32 centroids (labels_of found) rows) × (r.unplaced ≡ unplaced_of found))

-- the result that the code holds, as the definitions have it
abbrev pub held_of : List ℕ → List Row → Outcome → Result
held_of labels centroids kept = record { labels = labels; centroids = centroids; objective = kept.objective; restart = kept.restart; unplaced = kept.unplaced }
