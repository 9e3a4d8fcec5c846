-- 01, 'Closure': which families a row is offered. Positions stand for their centroids.
use Rattle.std.specs.Prelude.{Bool, false, ◌&&◌, ◌||◌, not, List, [], ◌∷◌, map, ℕ, ltb, length, get_or, take, Float}
use Rattle.std.specs.Float.{nan, binary32}
use Rattle.std.specs.Float.Ieee.{add, mul, lt, le, is_nan}
use Rattle.sums.specs.Rows.{Row}
use Rattle.sums.specs.Sums.{one32, apart_of}
use Rattle.sums.specs.Tables.{up_to}
use Rattle.sums.specs.Ordering.{order, keep}
use Rattle.closure.specs.declared.reach.Reach.{Reach}

-- of two positions the one with the smaller distance comes first, and of two alike the earlier
unfoldable pub nearer : List Float → ℕ → ℕ → Bool
nearer distances a b =
    lt (get_or distances a nan) (get_or distances b nan) || (not (lt (get_or distances b nan) (get_or distances a nan)) && ltb a b)

-- epsilon with the factor 1.0 + epsilon and the threshold, the closest distance times the factor and once more times it
unfoldable pub reach_of : Float → Float → Reach
reach_of epsilon closest =
    let factor = add binary32 one32 epsilon in
    record { epsilon = epsilon; factor = factor; threshold = mul binary32 (mul binary32 closest factor) factor }

abbrev pub in_reach : Reach → List Float → ℕ → Bool
in_reach reach distances i = le (get_or distances i nan) reach.threshold

-- of the first few in order those at or below the threshold that the closest sets
unfoldable pub listed : Float → ℕ → List Float → List ℕ → List ℕ
listed epsilon replicas distances [] = []
listed epsilon replicas distances (closest ∷ others) =
    keep (in_reach (reach_of epsilon (get_or distances closest nan)) distances) (take replicas (closest ∷ others))

-- squared distances, one a centroid
abbrev pub distances : Row → List Row → List Float
distances row centroids = map (apart_of row) centroids

-- the indices listed
unfoldable pub closure : Float → ℕ → Row → List Row → List ℕ
closure epsilon replicas row centroids =
    let ds = distances row centroids in
    listed epsilon replicas ds (order (nearer ds) (up_to (length ds)))

unfoldable pub any_nan : List Float → Bool
any_nan [] = false
any_nan (d ∷ ds) = is_nan d || any_nan ds

-- refusal 5: two or more distances, and one of them a NaN
unfoldable pub unordered : List Float → Bool
unordered ds = ltb 1 (length ds) && any_nan ds
