-- What balancing promises of every part, and that no row is lost or doubled. Assumes nothing.
use mathlib.Core.Path.{◌≡◌}
use mathlib.Core.List.{List, []}
use mathlib.Core.Bool.{true}
use Prim.Native.Nat.{ℕ, zero, suc, ◌+◌, ◌≤◌, ◌<◌, min}
use native.Mathlib.Nat.{div-le_self}
use native.Mathlib.Omega.{arith}
use lib.Dec.{eqb}
use lib.ListN.{length, get_or}
use lib.Ieee.{Float, lt}
use Rattle.sums.specs.Rows.{Row}
use Rattle.sums.specs.Sums.{zero32}
use Rattle.sums.specs.Cells.{Below}
use Rattle.sums.proofs.Tables.{length_tab}
use Rattle.sums.proofs.Weighs.{one, count_of, Same}
use Rattle.sums.proofs.Counts.{Distinct}
use Rattle.grouping.specs.Parts.{having, gathered, sizes_of, flat}
use Rattle.grouping.specs.Balance.{share, allowed, toward, balanced, moves, balance}
use Rattle.grouping.proofs.Rounds.{Balanced}
use Rattle.grouping.proofs.Gathers.{gathered_weigh}
use Rattle.grouping.proofs.Nearest.{toward_in}
use Rattle.grouping.proofs.Allowances.{share_allowed}
use Rattle.grouping.proofs.Fair.{over_by, short_by, balanced_fair, balanced_length, balanced_same, balanced_over, balanced_short, moves_exactly}
use Rattle.grouping.proofs.Changed.{changed, count_part, parts_changed}

-- What is promised of the parts before and after, and of how many rows moved.
pub record Promise (share most : ℕ) (old new : List (List ℕ)) (moved : ℕ) : Type 0 where
  -- a part under the share loses no row, and ends no higher than the share
  pub under : (i : ℕ) → length (get_or old i []) < share
      → ((x : ℕ) → count_of x (get_or old i []) ≤ count_of x (get_or new i [])) × (length (get_or new i []) ≤ share)
  -- a part over the allowance gains no row, and ends no lower than the allowance
  pub over : (i : ℕ) → most < length (get_or old i [])
      → ((x : ℕ) → count_of x (get_or new i []) ≤ count_of x (get_or old i [])) × (most ≤ length (get_or new i []))
  -- every other part keeps its rows, in their order
  pub rest : (i : ℕ) → share ≤ length (get_or old i []) → length (get_or old i []) ≤ most → get_or new i [] ≡ get_or old i []
  -- exactly so many rows move: ten, or all that the parts have over the allowance, or all that they lack to the share, whichever is least
  pub count : moved ≡ min 10 (min (over_by most (sizes_of old)) (short_by share (sizes_of old)))
  -- what the parts have over the allowance goes down by as many, and so does what they lack to the share
  pub over_left : over_by most (sizes_of new) + moved ≡ over_by most (sizes_of old)
  pub short_left : short_by share (sizes_of new) + moved ≡ short_by share (sizes_of old)
  -- and as many row numbers stand in another part than before, where none stands twice
  pub numbers : Distinct (flat old) → changed old new ≡ moved
  -- no row is lost, doubled or made up
  pub rows : Same (flat new) (flat old)
  -- there are as many parts as before
  pub parts : length new ≡ length old

-- Balancing keeps the promise, whichever row of a part it moves, where the share is at most the allowance.
pub balanced_promise : (which : ℕ → List ℕ → ℕ) → ((r : ℕ) (part : List ℕ) → 0 < length part → which r part < length part) → (share most : ℕ) → share ≤ most
    → (parts : List (List ℕ)) → Promise share most parts (balanced which share most 10 parts) (moves which share most 10 parts)
balanced_promise which inside share most fair parts =
    record {
      under = λ i h. let f = (balanced_fair which inside share most fair 10 parts i).low (omega arith) in ((λ x. f.2 (λ y. one (eqb y x))), f.1);
      over = λ i h. let f = (balanced_fair which inside share most fair 10 parts i).high (omega arith) in ((λ x. f.2 (λ y. one (eqb y x))), f.0);
      rest = λ i h k. (balanced_fair which inside share most fair 10 parts i).rest h k;
      count = moves_exactly which inside share most fair 10 parts;
      over_left = balanced_over which inside share most fair 10 parts;
      short_left = balanced_short which inside share most fair 10 parts;
      numbers = λ once.
          let new = balanced which share most 10 parts in
          let alone : (i x : ℕ) → count_of x (get_or new i []) ≤ 1
          = λ i x. omega (arith, count_part x i new, balanced_same which inside share most fair 10 parts (λ y. one (eqb y x)), once x) in
          let c = parts_changed share most fair parts new (balanced_length which inside share most fair 10 parts) (balanced_fair which inside share most fair 10 parts) alone in
          omega (arith, c, balanced_short which inside share most fair 10 parts);
      rows = balanced_same which inside share most fair 10 parts;
      parts = balanced_length which inside share most fair 10 parts;
    }

-- The share is at most the allowance, for every weight above zero.
pub allowed_least : (share : ℕ) (weight : Float) → share ≤ 4096 → lt zero32 weight ≡ true → share ≤ allowed share weight
allowed_least zero weight few above = omega arith
allowed_least (suc n) weight few above = (share_allowed (suc n) weight (omega arith) few above).1

-- Balancing toward the receiver's centroid, with the allowance that the weight gives, keeps the promise.
pub balance_promise : (rows centroids : List Row) (share : ℕ) (weight : Float) (parts : List (List ℕ)) → share ≤ 4096 → lt zero32 weight ≡ true
    → Promise share (allowed share weight) parts (balance rows centroids share weight parts) (moves (toward rows centroids) share (allowed share weight) 10 parts)
balance_promise rows centroids share weight parts few above =
    balanced_promise (toward rows centroids) (toward_in rows centroids) share (allowed share weight) (allowed_least share weight few above) parts

-- So does the code: `moved` is what `balance_clusters` gives back for a stretch of n rows in k parts, and the parts are those that it leaves in its slices.
pub clusters_promise : (rows centroids : List Row) (n k : ℕ) (weight : Float) (parts : List (List ℕ)) {part sizes : List ℕ} {moved : ℕ}
    → n ≤ 4096 → lt zero32 weight ≡ true → Balanced rows centroids (share n k) weight parts part sizes moved
    → Promise (share n k) (allowed (share n k) weight) parts (balance rows centroids (share n k) weight parts) moved
clusters_promise rows centroids n k weight parts few above b =
    rw b.1 (balance_promise rows centroids (share n k) weight parts (omega (arith, div-le_self n k)) above)

-- Rows gathered by labels that are all below k: no row is lost, doubled or made up.
pub gathered_same : (k : ℕ) (rows labels : List ℕ) → length rows ≡ length labels → Below k labels → Same (flat (gathered k rows labels)) rows
gathered_same k rows labels e h f = gathered_weigh f k rows labels e h

-- They are k parts.
pub gathered_parts : (k : ℕ) (rows labels : List ℕ) → length (gathered k rows labels) ≡ k
gathered_parts k rows labels = length_tab (λ c. having c rows labels) k
