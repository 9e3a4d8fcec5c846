-- 01, 'Balancing': parts are the clusters' row numbers, in their order.
use Rattle.std.specs.Prelude.{Bool, cond, List, [], ◌∷◌, ◌++◌, ℕ, zero, suc, ◌/◌, ltb, length, get_or, set, take, drop, Float}
use Rattle.std.specs.Float.{binary32}
use Rattle.std.specs.Float.Ieee.{add, mul, lt, to_unsigned}
use Rattle.sums.specs.Rows.{Row}
use Rattle.sums.specs.Sums.{one32, count32, apart_of}
use Rattle.grouping.specs.Parts.{sizes_of}

-- the share of a part: rows div parts, empty ones counted
abbrev pub share : ℕ → ℕ → ℕ
share rows k = rows / k

-- the allowance, the share times (1.0 + weight) in 32 bits, cut to a whole number of 64 bits, as the source has it: an infinity is above every size
unfoldable pub allowed : ℕ → Float → ℕ
allowed share weight = to_unsigned 64 (mul binary32 (count32 share) (add binary32 one32 weight))

-- the number of the first that passes, and of all where none does
unfoldable pub seek : (ℕ → Bool) → List ℕ → ℕ
seek test [] = 0
seek test (x ∷ xs) = cond (test x) 0 (suc (seek test xs))

-- a row's place in its part, and its squared distance
abbrev pub Closest : Type 0
Closest = record { place : ℕ; apart : Float }

-- the rows left, the first of them at the place given: one strictly closer takes the place of the best
unfoldable pub closest_from : List Row → Row → ℕ → List ℕ → Closest → Closest
closest_from rows centroid place [] best = best
closest_from rows centroid place (r ∷ part) best =
    let apart = apart_of (get_or rows r []) centroid in
    closest_from rows centroid (suc place) part (cond (lt apart best.apart) (record { place = place; apart = apart }) best)

-- the place of the row that is moved toward the centroid: the search starts with the first row, which stays where its distance is a NaN
unfoldable pub closest_of : List Row → Row → List ℕ → ℕ
closest_of rows centroid [] = 0
closest_of rows centroid (r ∷ part) = (closest_from rows centroid 1 part (record { place = 0; apart = apart_of (get_or rows r []) centroid })).place

-- row j of part g leaves its place, later ones move up, and it goes to the end of part r
abbrev pub moved : ℕ → ℕ → ℕ → List (List ℕ) → List (List ℕ)
moved g r j parts =
    let from = get_or parts g [] in
    set (set parts g (take j from ++ drop (suc j) from)) r (get_or parts r [] ++ (get_or from j 0 ∷ []))

-- the first part above the allowance, and the first below the share; as many as there are parts where there is none
abbrev pub giver : ℕ → List (List ℕ) → ℕ
giver most parts = seek (λ n. ltb most n) (sizes_of parts)

abbrev pub taker : ℕ → List (List ℕ) → ℕ
taker share parts = seek (λ n. ltb n share) (sizes_of parts)

module _ (which : ℕ → List ℕ → ℕ) (share most : ℕ) where
  -- one round; `which r part` is the place in the giver's part of the row that goes to part r
  abbrev pub round : List (List ℕ) → List (List ℕ)
  round parts = moved (giver most parts) (taker share parts) (which (taker share parts) (get_or parts (giver most parts) [])) parts

  -- the rounds left: they end at the first with nobody to give or to take
  unfoldable pub balanced : ℕ → List (List ℕ) → List (List ℕ)
  balanced zero parts = parts
  balanced (suc left) parts =
      cond (ltb (giver most parts) (length parts)) (cond (ltb (taker share parts) (length parts)) (balanced left (round parts)) parts) parts

  -- how many rows move in them
  unfoldable pub moves : ℕ → List (List ℕ) → ℕ
  moves zero parts = 0
  moves (suc left) parts =
      cond (ltb (giver most parts) (length parts)) (cond (ltb (taker share parts) (length parts)) (suc (moves left (round parts))) 0) 0

-- toward the receiver's k-means centroid
abbrev pub toward : List Row → List Row → ℕ → List ℕ → ℕ
toward rows centroids r part = closest_of rows (get_or centroids r []) part

-- at most ten rounds
abbrev pub balance : List Row → List Row → ℕ → Float → List (List ℕ) → List (List ℕ)
balance rows centroids share weight parts = balanced (toward rows centroids) share (allowed share weight) 10 parts
