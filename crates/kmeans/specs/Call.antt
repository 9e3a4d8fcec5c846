-- K-means on what a caller lends (01, 'Ranges and refusal numbers'). Lengths stand for the lent slices.
use Rattle.std.specs.Prelude.{◌≡◌, Bool, ◌&&◌, ℕ, ◌*◌, leb, length, Float, Result as Returned}
use mathlib.Core.List.{List, [], ◌∷◌, flatten}
use Rattle.sums.specs.Rows.{rows_from}
use Rattle.sums.specs.Sums.{zero32}
use Rattle.sums.specs.Refusals.{Answer, accepted, within, same_all, lowest, unless, on_accepted, cells_of, blank_cell}
use Rattle.sums.specs.Refused.{told}
use Rattle.sums.specs.declared.refusals.Refusal.{Refusal}
use Rattle.labels.specs.declared.mode.Mode.{Mode}
use Rattle.labels.specs.Mode.{unplaced_refusal}
use Rattle.kmeans.specs.declared.config.KMeansConfig.{KMeansConfig}
use Rattle.kmeans.specs.declared.call.Outcome.{Outcome}
use Rattle.kmeans.specs.KMeans.{Result, kmeans}

-- the lengths of what is lent: the labels and the centroids; then the work slice, in docs/BUFFERS.md's order
abbrev pub lengths_of : ℕ → ℕ → ℕ → List ℕ
lengths_of rows dim k = rows ∷ k * dim ∷ rows * dim ∷ []

unfoldable pub ranges_fit : ℕ → ℕ → ℕ → KMeansConfig → Bool
ranges_fit rows dim k config =
    within 1 4096 rows && within 1 64 dim && within 1 64 k && within 1 100 config.niter && within 1 16 config.nredo
    && within 0 4096 config.max_points_per_centroid && within 1 32768 config.decode_block_size

unfoldable pub lengths_fit : ℕ → ℕ → ℕ → ℕ → List ℕ → Bool
lengths_fit rows dim k values lent = same_all (values ∷ lent) (rows * dim ∷ lengths_of rows dim k)

-- 1: a number out of range; 2: a slice is not as long as they say; 3: k above rows; 4: no draws, or more than 4,096
unfoldable pub kmeans_refusal : ℕ → ℕ → ℕ → KMeansConfig → ℕ → ℕ → List ℕ → ℕ
kmeans_refusal rows dim k config draws values lent =
    lowest (ranges_fit rows dim k config ∷ lengths_fit rows dim k values lent ∷ leb k rows ∷ within 1 4096 draws ∷ [])

-- 9, after 1 to 4, where the mode is strict and the restart kept leaves a row unplaced, whatever the others left (02 (iii))
unfoldable pub kmeans_call : Mode → ℕ → ℕ → ℕ → KMeansConfig → List ℕ → List Float → List ℕ → Answer Result
kmeans_call mode rows dim k config draws values lent =
    let kept = (kmeans draws 0 config k dim (rows_from dim rows values)).result in
    unless (kmeans_refusal rows dim k config (length draws) (length values) lent) (unless (unplaced_refusal mode kept.unplaced) (accepted kept))

-- what an acceptance tells, in 01's terms: the objective, the number of the restart kept and its unplaced rows
abbrev pub figures : Outcome → Float × ℕ × ℕ
figures outcome = (outcome.objective, outcome.restart, outcome.unplaced)

-- a call's whole result: the answer, and both result slices
pub record Gives (answer : Answer Result) (label_cells centroid_cells : ℕ) (r : Returned Outcome Refusal) (labels : List ℕ) (centroids : List Float) : Type 0 where
  pub result : told figures r ≡ on_accepted (λ (a : Result). (a.objective, a.restart, a.unplaced)) answer
  pub labelled : labels ≡ cells_of blank_cell label_cells (λ (a : Result). a.labels) answer
  pub centred : centroids ≡ cells_of zero32 centroid_cells (λ (a : Result). flatten a.centroids) answer
