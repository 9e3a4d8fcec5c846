-- What the functions inside say of their slices.
use Rattle.std.specs.Prelude.{◌≡◌, Option, List, map, ℕ, ◌+◌, ◌*◌, ◌/◌, ◌%◌, ◌≤◌, ◌<◌, length, get_or, take, Float}
use Rattle.std.specs.Float.{nan}
use Rattle.sums.specs.Rows.{Row, row_at}
use Rattle.sums.specs.Sums.{norm_of, dot_of}
use Rattle.sums.specs.Tables.{tabulate}
use Rattle.sums.specs.Cells.{Below}
use Rattle.sums.specs.Refusals.{same_all}
use Rattle.sums.specs.Table.{rows_of}
use Rattle.sums.specs.declared.readings.Rows.{Rows}
use Rattle.labels.specs.Label.{score_from, nearest_from, nothing_yet, placement, labels_of, distances_of, unplaced_of}
use Rattle.labels.specs.declared.nearest.Nearest.{Nearest}
use Rattle.labels.specs.declared.nearest.Tally.{Tally}
use Rattle.labels.specs.Panels.{column_of}

-- the norms of n rows
abbrev pub norms_of : List Row → List Float
norms_of rows = map norm_of rows

-- the best after `count` clusters from `from` on, of whose dots with the row these are the first
abbrev pub scanned : Float → List Float → List Float → ℕ → ℕ → Nearest → Nearest
scanned rownorm norms dots from count best = nearest_from from (tabulate (λ j. score_from rownorm (get_or norms (from + j) nan) (get_or dots j nan)) count) best

-- a row's nearest by the panels, from the row and its norm: cluster c is column c % 16 of panel c / 16
unfoldable pub by_panels : Row → Float → List Float → List Float → Nearest
by_panels row rownorm panels norms = let column : ℕ → Row = λ c. column_of (row_at panels (16 * length row) (c / 16)) (length row) (c % 16) in
    nearest_from 0 (tabulate (λ c. score_from rownorm (get_or norms c nan) (dot_of row (column c))) (length norms)) nothing_yet

-- what the panels answer for row i
abbrev pub placed_by : Rows → List Float → List Float → List Float → ℕ → Option Nearest
placed_by rows rownorms panels norms i = placement (by_panels (row_at rows.values.now rows.dim i) (get_or rownorms i nan) panels norms)

-- all rows have their answers in the cells; whether every label is the one that stood there, and how many rows are unplaced
pub record Assigned (found : List (Option Nearest)) (labels₀ labels : List ℕ) (distances : List Float) (r : Tally) : Type 0 where
  pub labelled : labels ≡ labels_of found
  pub measured : distances ≡ distances_of found
  pub same : r.same ≡ same_all labels₀ labels
  pub counted : r.unplaced ≡ unplaced_of found

-- what `assign_rows` asks: few and short centroids, rows as long as they are, a label and a distance for each row, and the rows' norms worked out
pub record Assignable (rows centroids : Rows) (rownorms : List Float) (labels distances : ℕ) : Type 0 where
  pub some_dim : 0 < rows.dim
  pub small_dim : rows.dim ≤ 64
  pub few : centroids.count ≤ 64
  pub alike : centroids.dim ≡ rows.dim
  pub labelled : labels ≡ rows.count
  pub measured : distances ≡ rows.count
  pub normed : rownorms ≡ norms_of (rows_of rows)

-- a pool of at most cap positions in front of `at`, `count` of them so far, with their distances
abbrev pub Holds : List Float → List ℕ → ℕ → ℕ → Type 0
Holds distances at count cap = (0 < cap) × ((count ≤ cap) × ((cap ≤ length at) × Below (length distances) (take count at)))
