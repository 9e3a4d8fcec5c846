-- What is promised of the pool (01, 'K-means' step 3), of the definitions that the code is proved against. Assumes nothing.
use Prim.Native.Nat.{ℕ, zero, suc, ◌+◌, ◌-◌, ◌≤◌, ◌<◌}
use mathlib.Core.Path.{◌≡◌, refl, sym, ◌∙◌}
use mathlib.Core.Bool.{Bool, true, false}
use mathlib.Core.List.{List, [], ◌∷◌, ◌++◌, map}
use native.Mathlib.Omega.{arith}
use lib.Dec.{eqb}
use lib.Ieee.{Float, nan, eq}
use lib.ListN.{length, get_or, take, drop, length-append, length-map, length-drop}
use lib.Seq.{take_at, take-nil}
use Rattle.sums.specs.Ordering.{place, order_from, order}
use Rattle.sums.specs.Cells.{Below}
use Rattle.sums.specs.Tables.{up_to}
use Rattle.sums.proofs.Tables.{up_length}
use Rattle.sums.proofs.Orders.{InOrder, order_in_order, take_in_order, place_take, order_length}
use Rattle.sums.proofs.Weighs.{one}
use Rattle.labels.specs.Pool.{farther, block_pool, block_pools, pool}
use Rattle.labels.specs.Inside.{Holds}
use Rattle.sums.proofs.Counts.{Distinct, weigh_take, weigh_order}
use Rattle.sums.proofs.Fronts.{length_cut}
use Rattle.sums.proofs.Belows.{below_nil, below_more, below_order}
use Rattle.sums.proofs.Floats.{eq_not_lt}
use Rattle.labels.proofs.Farther.{Known, farther_asym, before_not, behind_all}
use Rattle.labels.proofs.Blocks.{below_blocks, blocks_distinct}

-- ---- in order
-- Of two neighbours in the joined pool the second never comes before the first.
pub pool_in_order : (block cap : ℕ) (ds : List Float) → InOrder (farther ds) (take cap (pool block ds))
unfolding pool
pool_in_order block cap ds = take_in_order (farther ds) cap _ (order_in_order (farther ds) (farther_asym ds) [] _ tt)

-- So too in the pool of one block.
pub block_in_order : (ds : List Float) → InOrder (farther ds) (block_pool ds)
unfolding block_pool
block_in_order ds =
    take_in_order (farther ds) 8 (order (farther ds) (up_to (length ds))) (order_in_order (farther ds) (farther_asym ds) [] (up_to (length ds)) tt)

-- ---- bounded
-- A block gives eight positions, or all if it has fewer rows.
pub block_size : (ds : List Float) → length (block_pool ds) ≡ 8 - (8 - length ds)
unfolding block_pool
block_size ds = length_cut 8 (order (farther ds) (up_to (length ds))) ∙ rw (order_length (farther ds) [] (up_to (length ds)), up_length (length ds)) (omega arith)

blocks_length : (fuel block start : ℕ) (ds es : List Float) → length ds ≡ length es → length (block_pools fuel block start ds) ≡ length (block_pools fuel block start es)
unfolding block_pools
blocks_length zero block start ds es e = refl
blocks_length (suc fuel) block start ds es e =
    let first : length (take block ds) ≡ length (take block es) = length_cut block ds ∙ rw e (sym (length_cut block es)) in
    let later : length (block_pools fuel block (start + block) (drop block ds)) ≡ length (block_pools fuel block (start + block) (drop block es))
    = blocks_length fuel block (start + block) (drop block ds) (drop block es) (length-drop block ds ∙ rw e (sym (length-drop block es))) in
    omega (arith, first, later, both ds, both es)
  where
    both : (l : List Float) → length (map (λ p. start + p) (block_pool (take block l)) ++ block_pools fuel block (start + block) (drop block l)) ≡ 8 - (8 - length (take block l)) + length (block_pools fuel block (start + block) (drop block l))
    both l = length-append (map (λ p. start + p) (block_pool (take block l))) (block_pools fuel block (start + block) (drop block l)) ∙ rw (length-map (block_pool (take block l)) (λ p. start + p), block_size (take block l))

-- How many positions the joined pool has follows from the number of distances alone.
pub pool_length : (block : ℕ) (ds es : List Float) → length ds ≡ length es → length (pool block ds) ≡ length (pool block es)
unfolding pool
pool_length block ds es e =
    let same : length (block_pools (length ds) block 0 ds) ≡ length (block_pools (length es) block 0 es) = blocks_length (length ds) block 0 ds es e ∙ rw e in
    rw (order_length (farther ds) [] (block_pools (length ds) block 0 ds), order_length (farther es) [] (block_pools (length es) block 0 es), same)

-- A pool that is cut holds no more than its bound.
pub pool_bounded : (block cap : ℕ) (ds : List Float) → length (take cap (pool block ds)) ≤ cap
pool_bounded block cap ds = omega (arith, length_cut cap (pool block ds))

-- ---- keeping as many as the bound at each turn
-- one after the other is placed, and only the first n are kept each time
abbrev pub kept_from : {A : Type 0} → (A → A → Bool) → ℕ → List A → List A → List A
kept_from before n held [] = held
kept_from before n held (x ∷ xs) = kept_from before n (take n (place before x held)) xs

-- Whoever keeps the first n at each turn has the first n of the whole order at the end, for any test.
pub kept_are_first : {A : Type 0} (before : A → A → Bool) (n : ℕ) (held xs : List A) → kept_from before n (take n held) xs ≡ take n (order_from before held xs)
unfolding order_from
kept_are_first before n held [] = refl
kept_are_first before n held (x ∷ xs) = rw (place_take before n x held) (kept_are_first before n (place before x held) xs)

-- Keeping eight at each turn gives a block's pool.
pub eight_at_each_turn : (ds : List Float) → kept_from (farther ds) 8 [] (up_to (length ds)) ≡ block_pool ds
unfolding block_pool
eight_at_each_turn ds = kept_are_first (farther ds) 8 [] (up_to (length ds))

-- Keeping cap at each turn over the blocks' pools gives the first cap of the joined pool.
pub cap_at_each_turn : (block cap : ℕ) (ds : List Float) → kept_from (farther ds) cap [] (block_pools (length ds) block 0 ds) ≡ take cap (pool block ds)
unfolding pool
cap_at_each_turn block cap ds = rw (take-nil cap) at (kept_are_first (farther ds) cap [] (block_pools (length ds) block 0 ds))

-- ---- an equal later row
module _ (ds : List Float) (known : Known ds) (front : List ℕ) (p q : ℕ) (b : Below (length ds) (front ++ (q ∷ []))) (h : InOrder (farther ds) (front ++ (q ∷ []))) (i : p < length ds) where
  -- A row that does not come before the last of a full pool leaves the pool as it was.
  pub later_stays_out : farther ds p q ≡ false → take (length front + 1) (place (farther ds) p (front ++ (q ∷ []))) ≡ front ++ (q ∷ [])
  later_stays_out e = rw (behind_all ds known p q i e front b h) (take_at (front ++ (q ∷ [])) (p ∷ []) (length front + 1) (length-append front (q ∷ [])))

  -- A row whose distance equals that of the last of a full pool, and that comes later than it, leaves the pool as it was.
  pub equal_later_stays_out : eq (get_or ds p nan) (get_or ds q nan) ≡ true → q < p → take (length front + 1) (place (farther ds) p (front ++ (q ∷ []))) ≡ front ++ (q ∷ [])
  equal_later_stays_out e l = later_stays_out (before_not ds p q (eq_not_lt (get_or ds p nan) (get_or ds q nan) e) (λ _. omega arith))

-- The same of `insert_candidate`, by its contract: the cells of a full pool hold after the call what they held before it.
pub equal_later_is_not_inserted : (ds : List Float) → Known ds → (at at' : List ℕ) (cap r p q : ℕ) (front : List ℕ) → Holds ds at cap cap → take cap at ≡ front ++ (q ∷ []) → length front + 1 ≡ cap
    → InOrder (farther ds) (take cap at) → p < length ds → eq (get_or ds p nan) (get_or ds q nan) ≡ true → q < p
    → take r at' ≡ take cap (order_from (farther ds) (take cap at) (p ∷ [])) → take r at' ≡ take cap at
unfolding order_from
equal_later_is_not_inserted ds known at at' cap r p q front h w f o i e l d =
    d ∙ rw (w, ← f) (equal_later_stays_out ds known front p q (rw w at h.1.1.1) (rw w at o) i e l)

-- ---- training positions
-- Every position of the joined pool is below the number of training rows.
pub pool_below : (block : ℕ) (ds : List Float) → Below (length ds) (pool block ds)
unfolding pool
pool_below block ds =
    below_order (farther ds) (length ds) [] (block_pools (length ds) block 0 ds) (below_nil (length ds))
    (below_more (0 + length ds) (length ds) (block_pools (length ds) block 0 ds) (omega arith) (below_blocks (length ds) block 0 ds))

-- ---- distinct
-- No position stands in the joined pool twice, so that no row is given to two clusters.
pub pool_distinct : (block cap : ℕ) (ds : List Float) → Distinct (take cap (pool block ds))
unfolding pool
pool_distinct block cap ds x =
    let f : ℕ → ℕ = λ y. one (eqb y x) in
    let all = block_pools (length ds) block 0 ds in
    omega (arith, weigh_take f cap (order (farther ds) all), weigh_order (farther ds) f [] all, blocks_distinct (length ds) block 0 ds x)
