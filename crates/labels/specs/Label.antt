-- 01, 'Sums in stated order', score and label: a row against the centroids; and 02 (ii), what its search answers. Only this one row is read, so other
-- rows never change its label.
use Rattle.std.specs.Prelude.{cond, Option, Some, None, List, [], ◌∷◌, map, ℕ, suc, Float}
use Rattle.std.specs.Float.{binary32}
use Rattle.std.specs.Float.Ieee.{add, sub, mul, lt}
use Rattle.sums.specs.Rows.{Row}
use Rattle.sums.specs.Sums.{zero32, two32, infinity, norm_of, dot_of}
use Rattle.labels.specs.declared.nearest.Nearest.{Nearest}

-- from the two norms and the dot: the norms added, twice the dot taken away; what is below zero becomes +0.0, and a NaN stays
unfoldable pub score_from : Float → Float → Float → Float
score_from rownorm norm dot =
    let raw = sub binary32 (add binary32 rownorm norm) (mul binary32 two32 dot) in
    cond (lt raw zero32) zero32 raw

unfoldable pub score : Row → Row → Float
score row centroid = score_from (norm_of row) (norm_of centroid) (dot_of row centroid)

-- a score strictly below the best takes its place
unfoldable pub better : ℕ → Float → Nearest → Nearest
better cluster s best = cond (lt s best.distance) (record { label = cluster; distance = s }) best

-- the scores left, the first of them the cluster's, against the best so far
unfoldable pub nearest_from : ℕ → List Float → Nearest → Nearest
nearest_from cluster [] best = best
nearest_from cluster (s ∷ scores) best = nearest_from (suc cluster) scores (better cluster s best)

-- cluster 0 at infinity: where the search starts, and where it ends if no score is below infinity
abbrev pub nothing_yet : Nearest
nothing_yet = record { label = 0; distance = infinity }

-- a row's search through all clusters
unfoldable pub search : List Row → Row → Nearest
search centroids row = nearest_from 0 (map (score row) centroids) nothing_yet

-- what a search answers: the cluster found, with its score; or nothing, where no score is below infinity (02 (ii))
unfoldable pub placement : Nearest → Option Nearest
placement best = cond (lt best.distance infinity) (Some best) None

-- a row's answer
unfoldable pub nearest : List Row → Row → Option Nearest
nearest centroids row = placement (search centroids row)

-- labelling: one answer a row
unfoldable pub nearests : List Row → List Row → List (Option Nearest)
nearests centroids rows = map (nearest centroids) rows

-- each answer in 01's terms: its label and its distance, 0 and infinity where the row is unplaced
abbrev pub label_in : Option Nearest → ℕ
label_in (Some best) = best.label
label_in None = 0

abbrev pub distance_in : Option Nearest → Float
distance_in (Some best) = best.distance
distance_in None = infinity

abbrev pub labels_of : List (Option Nearest) → List ℕ
labels_of found = map label_in found

abbrev pub distances_of : List (Option Nearest) → List Float
distances_of found = map distance_in found

-- how many rows are unplaced (02 (ii))
unfoldable pub unplaced_of : List (Option Nearest) → ℕ
unplaced_of [] = 0
unplaced_of (Some best ∷ found) = unplaced_of found
unplaced_of (None ∷ found) = suc (unplaced_of found)
