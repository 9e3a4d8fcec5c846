-- 01, 'What is ported': the functions that the bench host calls, on numbers and little-endian bytes. Lengths are counts of bytes.
use Rattle.std.specs.Prelude.{◌≡◌, Bool, not, ◌&&◌, ℕ, ◌+◌, ◌*◌, eqb, length, replicate, Float, Option}
use mathlib.Core.List.{List, [], ◌∷◌, ◌++◌, flat_map, flatten}
use Rattle.sums.specs.Rows.{Row, rows_from}
use Rattle.sums.specs.Sums.{zero32}
use Rattle.sums.specs.Refusals.{Answer, accepted, refused, within, lowest, unless, padded, cells_of, blank_cell}
use Rattle.words.specs.Bytes.{floats_from, bytes16}
use Rattle.labels.specs.declared.mode.Mode.{Mode}
use Rattle.labels.specs.declared.nearest.Nearest.{Nearest}
use Rattle.labels.specs.Mode.{unplaced_refusal}
use Rattle.labels.specs.Label.{nearest, label_in, labels_of, unplaced_of}
use Rattle.closure.specs.Call.{closure_call}
use Rattle.kmeans.specs.declared.config.KMeansConfig.{KMeansConfig}
use Rattle.kmeans.specs.KMeans.{Result}
use Rattle.grouping.specs.declared.config.GroupingConfig.{GroupingConfig}
use Rattle.grouping.specs.Groups.{Groups, ends_from, mean_of}
use Rattle.results.specs.Grouping.{Stored}

-- what is returned: 0, or the refusal's number
unfoldable pub code_of : {A : Type 0} → Answer A → ℕ
code_of (accepted a) = 0
code_of (refused number) = number

-- what comes with an acceptance, and what stands for it after a refusal
unfoldable pub figure_of : {A B : Type 0} → B → (A → B) → Answer A → B
figure_of blank figure (accepted a) = figure a
figure_of blank figure (refused number) = blank

-- an exported function's whole result: its number, and the n result bytes, which are what is written, and 255 throughout after a refusal
abbrev pub Gave : {A : Type 0} → Answer A → ℕ → (A → List ℕ) → ℕ → List ℕ → Type 0
Gave answer n written r result = (r ≡ code_of answer) × (result ≡ figure_of (replicate n 255) written answer)

-- ---- the label of one row
-- 1: a number out of range; 2: bytes that are not as many as the numbers say
unfoldable pub label_refusal : ℕ → ℕ → ℕ → ℕ → ℕ → ℕ
label_refusal dim k row centroids result =
    lowest ((within 1 64 dim && within 1 64 k) ∷ (eqb row (dim * 4) && eqb centroids (k * dim * 4) && eqb result 2) ∷ [])

-- the answer of the search, for the row and the centroids that the bytes hold
unfoldable pub placement_of : ℕ → ℕ → List ℕ → List ℕ → Option Nearest
placement_of dim k row centroids = nearest (rows_from dim k (floats_from (k * dim) centroids)) (floats_from dim row)

-- its label, or 9 where the row is unplaced and the mode is strict (02 (iii)); in the old way an unplaced row's is 0
unfoldable pub label_by : Mode → Option Nearest → Answer ℕ
label_by mode found = unless (unplaced_refusal mode (unplaced_of (found ∷ []))) (accepted (label_in found))

-- the whole call: the label, or the refusal's number
unfoldable pub label_call : Mode → ℕ → ℕ → List ℕ → List ℕ → ℕ → Answer ℕ
label_call mode dim k row centroids result = unless (label_refusal dim k (length row) (length centroids) result) (label_by mode (placement_of dim k row centroids))

-- ---- closure
-- refusals 1 and 2 as for a label; the result has two bytes for each centroid and two more
unfoldable pub closure_refusal : ℕ → ℕ → ℕ → ℕ → ℕ → ℕ
closure_refusal dim count vector centroids result =
    lowest ((within 1 64 dim && within 0 64 count) ∷ (eqb vector (dim * 4) && eqb centroids (count * dim * 4) && eqb result (count * 2 + 2)) ∷ [])

-- the whole call: closure's own answer on the floats that the bytes hold, where neither number refuses it
unfoldable pub closure_bytes_call : Float → ℕ → ℕ → ℕ → List ℕ → List ℕ → ℕ → Answer (List ℕ)
closure_bytes_call epsilon replicas dim count vector centroids result =
    unless (closure_refusal dim count (length vector) (length centroids) result)
    (closure_call epsilon replicas dim count (floats_from dim vector) (floats_from (count * dim) centroids) count)

-- the cells, and then how many are listed
unfoldable pub closure_written : ℕ → List ℕ → List ℕ
closure_written count indices = flat_map bytes16 (padded blank_cell count indices) ++ bytes16 (length indices)

-- ---- labelling, k-means and grouping over typed slices
-- a labelling's whole result: its number, the n label cells, and the unplaced rows, 0 after a refusal
abbrev pub LabelsGave : Answer (List (Option Nearest)) → ℕ → ℕ → List ℕ → ℕ → Type 0
LabelsGave answer n r cells unplaced = (r ≡ code_of answer) × ((cells ≡ cells_of blank_cell n labels_of answer) × (unplaced ≡ figure_of 0 unplaced_of answer))

-- a setting as a number: 0 is off, and every other number is on (02 (iv))
abbrev pub on_by : ℕ → Bool
on_by number = not (eqb number 0)

-- k-means' settings by their five numbers
abbrev pub config_of : ℕ → ℕ → ℕ → ℕ → ℕ → KMeansConfig
config_of iterations restarts points block spherical =
    record { niter = iterations; nredo = restarts; spherical = on_by spherical; max_points_per_centroid = points; decode_block_size = block }

-- k-means' whole result: its number, both result slices, and its figures, which are +0.0, 0 and 0 after a refusal
abbrev pub KMeansGave : Answer Result → ℕ → ℕ → ℕ → List ℕ → List Float → Float → ℕ → ℕ → Type 0
KMeansGave answer label_cells centroid_cells r labels centroids objective restart unplaced =
    (r ≡ code_of answer)
    × ((labels ≡ cells_of blank_cell label_cells (λ (a : Result). a.labels) answer)
    × ((centroids ≡ cells_of zero32 centroid_cells (λ (a : Result). flatten a.centroids) answer)
    × ((objective ≡ figure_of zero32 (λ (a : Result). a.objective) answer)
    × ((restart ≡ figure_of 0 (λ (a : Result). a.restart) answer) × (unplaced ≡ figure_of 0 (λ (a : Result). a.unplaced) answer)))))

-- grouping's settings by its mode and its five numbers
abbrev pub settings_of : Mode → ℕ → ℕ → Float → ℕ → ℕ → GroupingConfig
settings_of mode limit branching weight budget spherical =
    record { limit = limit; branching = branching; weight = weight; budget = budget; spherical = on_by spherical; mode = mode }

-- grouping's whole result: its number, the three result slices, and its counts, 0 after a refusal
abbrev pub GroupGave : Answer Groups → ℕ → List Row → ℕ → ℕ → ℕ → ℕ → List ℕ → List ℕ → List Float → ℕ → ℕ → ℕ → Type 0
GroupGave answer dim rows order_room end_room mean_room r order ends means groups splits unplaced =
    (r ≡ code_of answer)
    × ((order ≡ cells_of blank_cell order_room (λ (g : Groups). flatten g.groups) answer)
    × ((ends ≡ cells_of blank_cell end_room (λ (g : Groups). ends_from 0 g.groups) answer)
    × ((means ≡ cells_of zero32 mean_room (λ (g : Groups). flat_map (mean_of dim rows) g.groups) answer)
    × ((groups ≡ figure_of 0 (λ (g : Groups). length g.groups) answer) × ((splits ≡ figure_of 0 (λ (g : Groups). g.splits) answer)
    × (unplaced ≡ figure_of 0 (λ (g : Groups). g.unplaced) answer))))))

-- ---- the result file (02 (vi))
-- the writer's whole result: its number, and the n bytes, which are the file, and zeros after a refusal
abbrev pub WriteGave : Answer (List ℕ) → ℕ → ℕ → List ℕ → Type 0
WriteGave answer n r file = (r ≡ code_of answer) × (file ≡ cells_of 0 n (λ (bytes : List ℕ). bytes) answer)

-- a reading's number, and rows, dim and groups, 0 after a refusal
abbrev pub NumbersGave : Answer Stored → ℕ → ℕ → ℕ → ℕ → Type 0
NumbersGave answer r rows dim groups =
    (r ≡ code_of answer)
    × ((rows ≡ figure_of 0 (λ (g : Stored). g.rows) answer)
    × ((dim ≡ figure_of 0 (λ (g : Stored). g.dim) answer) × (groups ≡ figure_of 0 (λ (g : Stored). g.groups) answer)))

-- the reader's whole result: these, and the three result slices, means as their bits
abbrev pub ReadGave : Answer Stored → ℕ → ℕ → ℕ → ℕ → List ℕ → List ℕ → List ℕ → ℕ → ℕ → ℕ → Type 0
ReadGave answer order_room end_room mean_room r order ends means rows dim groups =
    NumbersGave answer r rows dim groups
    × ((order ≡ cells_of blank_cell order_room (λ (g : Stored). g.order) answer)
    × ((ends ≡ cells_of blank_cell end_room (λ (g : Stored). g.ends) answer) × (means ≡ cells_of 0 mean_room (λ (g : Stored). g.means) answer)))
