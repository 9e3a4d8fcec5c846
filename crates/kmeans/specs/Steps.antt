-- 01, 'K-means', steps 1, 3 and 4, over the rows as a list: which rows train, one iteration, the objective. Draws are counted from the start of the call.
use Rattle.std.specs.Prelude.{Bool, true, false, List, [], ◌∷◌, map, ℕ, zero, suc, ◌*◌, ◌%◌, min, max, length, get_or, set, replicate, Float}
use Rattle.std.specs.Float.{binary32, binary64}
use Rattle.std.specs.Float.Ieee.{add, mul, div}
use Rattle.sums.specs.Tables.{up_to}
use Rattle.sums.specs.Rows.{Row}
use Rattle.sums.specs.Sums.{one32, count32, spread_of, add_row, zero_row}
use Rattle.sums.specs.Ordering.{ascending}
use Rattle.sums.specs.Draws.{drawn, pick}
use Rattle.sphere.specs.Unit.{sphered}
use Rattle.std.specs.Prelude.{Option}
use Rattle.labels.specs.declared.nearest.Nearest.{Nearest}
use Rattle.labels.specs.Label.{nearests, labels_of, distances_of}
use Rattle.labels.specs.Pool.{pool}

-- ---- step 1: the rows that train

-- at least k of them, and of k times the points per centroid as many as there are
unfoldable pub target : ℕ → ℕ → ℕ → ℕ
target k per_centroid rows = max k (min rows (k * per_centroid))

-- the row numbers of the training rows after n draws: all, or as many picked, one draw each, and put in ascending order
unfoldable pub training_if : Bool → List ℕ → ℕ → ℕ → ℕ → List ℕ
training_if true draws n aim rows = up_to rows
training_if false draws n aim rows = ascending (pick draws n aim rows)

-- ---- step 3: one iteration

-- the labels left: each adds one to its cluster's count
unfoldable pub counts_from : List ℕ → List ℕ → List ℕ
counts_from counts [] = counts
counts_from counts (l ∷ labels) = counts_from (set counts l (suc (get_or counts l 0))) labels

-- the rows left, with their labels: each is added to its cluster's sums
unfoldable pub sums_from : List Row → List ℕ → List Row → List Row
sums_from sums [] rows = sums
sums_from sums (l ∷ labels) [] = sums
sums_from sums (l ∷ labels) (r ∷ rows) = sums_from (set sums l (add_row (get_or sums l []) r)) labels rows

-- each sum times the inverse of the count
unfoldable pub times_inverse : ℕ → Row → Row
times_inverse count sums = let inverse = div binary32 one32 (count32 count) in map (λ s. mul binary32 s inverse) sums

-- The clusters left, after n draws: one with rows is their mean; one without is the next row of the pool, and with the pool used up a drawn training row.
unfoldable pub update_from : List ℕ → List Row → ℕ → List ℕ → List ℕ → List Row → List Row
update_from draws training n pool [] sums = []
update_from draws training n pool (c ∷ counts) [] = []
update_from draws training n pool (suc c ∷ counts) (s ∷ sums) = times_inverse (suc c) s ∷ update_from draws training n pool counts sums
update_from draws training n (p ∷ pool) (zero ∷ counts) (s ∷ sums) = get_or training p [] ∷ update_from draws training n pool counts sums
update_from draws training n [] (zero ∷ counts) (s ∷ sums) =
    get_or training (drawn draws n % length training) [] ∷ update_from draws training (suc n) [] counts sums

-- how many draws were made after those clusters
unfoldable pub draws_after : ℕ → List ℕ → List ℕ → ℕ
draws_after n pool [] = n
draws_after n pool (suc c ∷ counts) = draws_after n pool counts
draws_after n (p ∷ pool) (zero ∷ counts) = draws_after n pool counts
draws_after n [] (zero ∷ counts) = draws_after (suc n) [] counts

-- what an iteration hands to the next: the centroids, and the draws made
abbrev pub Fit : Type 0
Fit = record { centroids : List Row; made : ℕ }

-- the centroids after these labels, empty clusters being filled from the positions given; the sums run through all blocks
abbrev pub refit : List ℕ → ℕ → ℕ → List Row → ℕ → List ℕ → List ℕ → Fit
refit draws k dim training n far labels =
    let counts = counts_from (replicate k 0) labels in
    record { centroids = update_from draws training n far counts (sums_from (replicate k (zero_row dim)) labels training); made = draws_after n far counts }

-- the centroids after the labels found; the pool alone knows blocks
unfoldable pub update : List ℕ → ℕ → ℕ → ℕ → List Row → ℕ → List (Option Nearest) → Fit
update draws k dim block training n found = refit draws k dim training n (pool block (distances_of found)) (labels_of found)

-- what an iteration hands on: every centroid of its update, refilled ones too, brought to length one where the setting is on (02 (iv))
abbrev pub on_sphere : Bool → Fit → Fit
on_sphere spherical fit = record { centroids = sphered spherical fit.centroids; made = fit.made }

-- the iterations left; none is left out
unfoldable pub iterate : Bool → List ℕ → ℕ → ℕ → ℕ → List Row → ℕ → Fit → Fit
iterate spherical draws k dim block training zero fit = fit
iterate spherical draws k dim block training (suc left) fit =
    iterate spherical draws k dim block training left (on_sphere spherical (update draws k dim block training fit.made (nearests fit.centroids training)))

-- ---- step 4: the objective

-- the total so far with the rows left, each with its label, added one by one
unfoldable pub objective_from : Float → List Row → List ℕ → List Row → Float
objective_from total centroids [] rows = total
objective_from total centroids (l ∷ labels) [] = total
objective_from total centroids (l ∷ labels) (r ∷ rows) =
    objective_from (add binary64 total (spread_of r (get_or centroids l []))) centroids labels rows
