-- Document 01, 'Slips that look right': each slip as a definition of its own, and an example on which it gives another answer than the product's definition.
use mathlib.Core.Path.{◌≡◌, refl, ap}
use mathlib.Core.Bool.{false, cond}
use mathlib.Core.List.{List, [], ◌∷◌, ◌++◌, map, flat_map, foldl}
use Prim.Native.Nat.{ℕ, zero, suc}
use native.Mathlib.Omega.{arith}
use lib.Dec.{ltb}
use lib.IntN.{pos, negsuc}
use lib.ListN.{length, get_or, set, take, replicate}
use lib.Ieee.{Float, fin, nan, binary64, add, sub, mul, le}
use Rattle.sums.specs.Tables.{up_to}
use Rattle.sums.specs.Rows.{Row, rows_at}
use Rattle.sums.specs.Sums.{zero32, one32, count32, sum_from, apart_of, add_row, zero_row}
use Rattle.sums.specs.Ordering.{place}
use Rattle.sums.specs.Refusals.{Answer, accepted, refused}
use Rattle.labels.specs.declared.mode.Mode.TheVariants.{Strict}
use Rattle.labels.specs.Label.{nearest_from, nothing_yet, nearest, label_in}
use Rattle.labels.specs.Pool.{farther, pool}
use Rattle.kmeans.specs.Steps.{times_inverse, iterate}
use Rattle.kmeans.specs.KMeans.{Result, kmeans}
use Rattle.grouping.specs.Balance.{share, allowed, closest_of, moved, giver, taker, balance}
use Rattle.grouping.specs.Groups.{Groups, parts_of, made_by, lost_by, waits, after, front, back, split_from, grouping, mean_of}
use Rattle.worked.specs.Table.{half, grouped}
use Rattle.worked.proofs.Opened.{opened}
use Rattle.worked.proofs.Settled.{ruled, four, P1-parts, P1-lost}

-- scoring by squared differences instead of the norm formula
abbrev by_squares : List Row → Row → ℕ
by_squares centroids row = (nearest_from 0 (map (apart_of row) centroids) nothing_yet).label

-- widening before the subtraction in the objective
abbrev widened : Float → Float → Float
widened x y = let gap = sub binary64 x y in mul binary64 gap gap

unfoldable pub widened_from : Float → List Row → List ℕ → List Row → Float
widened_from total centroids [] rows = total
widened_from total centroids (l ∷ labels) [] = total
widened_from total centroids (l ∷ labels) (r ∷ rows) =
    widened_from (add binary64 total (sum_from binary64 widened zero32 r (get_or centroids l []))) centroids labels rows

-- the inverse where grouping divides
abbrev by_inverse : ℕ → List Row → List ℕ → Row
by_inverse dim rows group = times_inverse (length group) (foldl add_row (zero_row dim) (rows_at rows group))

-- balancing toward the mean of the moved rows: the receiver's centroid is the mean of what it holds after a move
unfoldable pub mean_balanced : ℕ → List Row → ℕ → ℕ → ℕ → List Row → List (List ℕ) → List (List ℕ)
mean_balanced dim rows share most zero centroids parts = parts
mean_balanced dim rows share most (suc left) centroids parts =
    let g = giver most parts in
    let r = taker share parts in
    let next = moved g r (closest_of rows (get_or centroids r []) (get_or parts g [])) parts in
    let later = mean_balanced dim rows share most left (set centroids r (mean_of dim rows (get_or next r []))) next in
    cond (ltb g (length parts)) (cond (ltb r (length parts)) later parts) parts

-- finishing waiting groups in first-come order: parts wait behind the others
module _ (parts : ℕ → List ℕ → List (List ℕ)) (made lost : ℕ → List ℕ → ℕ) (limit branching : ℕ) where
  unfoldable pub queued_from : ℕ → ℕ → List (List ℕ) → Answer Groups
  queued_from zero n [] = accepted (record { groups = []; splits = 0; unplaced = 0 })
  queued_from zero n (g ∷ waiting) = cond (ltb (length g) branching) (refused 6) (refused 7)
  queued_from (suc left) n [] = accepted (record { groups = []; splits = 0; unplaced = 0 })
  queued_from (suc left) n (g ∷ waiting) =
      let then = waiting ++ flat_map (λ (p : List ℕ). waits p []) (parts n g) in
      let rest = queued_from left (made n g) (back limit then) in
      cond (ltb (length g) branching) (refused 6) (after (front limit then) 1 (lost n g) rest)

-- letting an equal later row into a full pool of eight
abbrev entered : List Float → ℕ → List ℕ → List ℕ
entered distances r kept =
    cond (ltb (length kept) 8) (place (farther distances) r kept)
    (cond (le (get_or distances (get_or kept 7 0) nan) (get_or distances r nan)) (place (farther distances) r (take 7 kept)) kept)

unfoldable pub entered_from : List Float → List ℕ → List ℕ → List ℕ
entered_from distances kept [] = kept
entered_from distances kept (r ∷ rows) = entered_from distances (entered distances r kept) rows

-- what the definition gives, what the slip gives, and that these are two answers
pub record Told {A : Type 0} (ours slipped a b : A) : Type 0 where
  pub gives : ours ≡ a
  pub slips : slipped ≡ b
  pub apart : a ≡ b → ⊥

-- rows of one reading
abbrev singles : List ℕ → List Row
singles ns = map (λ n. count32 n ∷ []) ns

-- k-means of the readings 1 and 2^26 by one centroid, which comes out at 2^25
abbrev far : List Row
far = (one32 ∷ []) ∷ (fin false 1 (pos 26) ∷ []) ∷ []

abbrev fit : Result
fit = (kmeans (0 ∷ []) 0 (record { niter = 1; nredo = 1; spherical = false; max_points_per_centroid = 256; decode_block_size = 32768 }) 1 1 far).result

abbrev six : List Row
six = singles (0 ∷ 9 ∷ 14 ∷ 5 ∷ 0 ∷ 0 ∷ [])

pub record Slips : Type 0 where
  -- the squared differences are 1 and 0, and both scores are 0
  pub squares : Told (label_in (nearest (singles (4096 ∷ 4097 ∷ [])) (count32 4097 ∷ []))) (by_squares (singles (4096 ∷ 4097 ∷ [])) (count32 4097 ∷ [])) 0 1
  -- 1 - 2^25 is -2^25 in 32 bits
  pub widening : Told fit.objective (widened_from zero32 fit.centroids fit.labels far) (fin false 1 (pos 51)) (fin false 2251799746576385 (pos 0))
  -- 5 divided by 3, and 5 times a third
  pub inverse : Told (mean_of 1 (singles (1 ∷ 2 ∷ 2 ∷ [])) (up_to 3)) (by_inverse 1 (singles (1 ∷ 2 ∷ 2 ∷ [])) (up_to 3)) (fin false 13981013 (negsuc 22) ∷ []) (fin false 6990507 (negsuc 21) ∷ [])
  -- 9 goes first; then 14 is the nearest to 10, and 5 to 9
  pub balancing : Told (balance six (singles (0 ∷ 10 ∷ [])) (share 6 2) half (up_to 6 ∷ [] ∷ [])) (mean_balanced 1 six (share 6 2) (allowed (share 6 2) half) 10 (singles (0 ∷ 10 ∷ [])) (up_to 6 ∷ [] ∷ []))
      ((0 ∷ 3 ∷ 4 ∷ 5 ∷ []) ∷ (1 ∷ 2 ∷ []) ∷ []) ((0 ∷ 2 ∷ 4 ∷ 5 ∷ []) ∷ (1 ∷ 3 ∷ []) ∷ [])
  -- P1: the part put to wait last is finished first
  pub finishing : Told (grouping Strict (ruled four zero32) 2 4) (queued_from (parts_of (ruled four zero32)) (made_by (ruled four zero32)) (lost_by (ruled four zero32)) 2 2 4 0 (up_to 4 ∷ []))
      (grouped ((2 ∷ 3 ∷ []) ∷ (0 ∷ 1 ∷ []) ∷ []) 1) (grouped ((0 ∷ 1 ∷ []) ∷ (2 ∷ 3 ∷ []) ∷ []) 1)
  -- nine rows equally far: the ninth stays out
  pub pooling : Told (pool 32768 (replicate 9 one32)) (entered_from (replicate 9 one32) [] (up_to 9)) (up_to 8) (up_to 7 ++ (8 ∷ []))

-- the row that stands first in the row order
abbrev first : Answer Groups → ℕ
first (accepted g) = get_or (get_or g.groups 0 []) 0 0
first (refused number) = 0

pub slips-told : Slips
unfolding opened iterate split_from widened_from mean_balanced queued_from entered_from
slips-told = record {
  squares = record { gives = refl; slips = refl; apart = λ e. omega arith };
  widening = record { gives = refl; slips = refl; apart = λ e. let z : ◌≡◌ {A = ℕ} 0 1 = cc in omega arith };
  inverse = record { gives = refl; slips = refl; apart = λ e. let z : ◌≡◌ {A = ℕ} 13981013 6990507 = cc in omega arith };
  balancing = record { gives = refl; slips = refl; apart = λ e. let z : ◌≡◌ {A = ℕ} 0 1 = cc in omega arith };
  finishing = record { gives = rw (P1-parts, P1-lost); slips = rw (P1-parts, P1-lost); apart = λ e. let z : ◌≡◌ {A = ℕ} 2 0 = ap first e in omega arith };
  pooling = record { gives = refl; slips = refl; apart = λ e. let z : ◌≡◌ {A = ℕ} 0 1 = cc in omega arith };
}
