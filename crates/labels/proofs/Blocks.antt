-- The blocks' pools as they are defined: their positions lie inside, and no position stands twice. Assumes nothing.
use Prim.Native.Nat.{ℕ, zero, suc, ◌+◌, ◌<◌}
use mathlib.Core.Path.{◌≡◌, refl}
use mathlib.Core.List.{List, [], ◌++◌, map}
use native.Mathlib.Decide.{dec_le}
use native.Mathlib.Omega.{arith}
use lib.Dec.{eqb}
use lib.Ieee.{Float}
use lib.ListN.{length, take, drop, length-drop, drop_of_length-le}
use lib.Seq.{take-nil, drop-nil}
use Rattle.sums.specs.Tables.{up_to}
use Rattle.sums.specs.Cells.{Below}
use Rattle.sums.specs.Ordering.{order_from, order}
use Rattle.sums.proofs.Picks.{below_up}
use Rattle.sums.proofs.Weighs.{count_of, one, weigh_append}
use Rattle.labels.specs.Pool.{farther, block_pool, block_pools}
use Rattle.sums.proofs.Fronts.{length_cut}
use Rattle.sums.proofs.Belows.{below_nil, below_more, below_take, below_append, below_moved, below_order}
use Rattle.sums.proofs.Counts.{weigh_take, weigh_order, count_below, count_up_lem, count_under, Distinct, moved_distinct}

-- ---- one block, and none
pub below_block : (ds : List Float) → Below (length ds) (block_pool ds)
unfolding block_pool
below_block ds = below_take (length ds) 8 (order_from (farther ds) [] (up_to (length ds))) (below_order (farther ds) (length ds) [] (up_to (length ds)) (below_nil (length ds)) (below_up (length ds)))

-- past the last row the pools are empty
pub blocks_none : (fuel block start : ℕ) → block_pools fuel block start [] ≡ []
unfolding block_pools block_pool order_from
blocks_none zero block start = refl
blocks_none (suc fuel) block start = rw (take-nil block, drop-nil block, blocks_none fuel block (start + block))

-- ---- inside the training rows
pub below_blocks : (fuel block start : ℕ) (ds : List Float) → Below (start + length ds) (block_pools fuel block start ds)
unfolding block_pools
below_blocks zero block start ds = below_nil (start + length ds)
below_blocks (suc fuel) block start ds =
    let rows = take block ds in
    below_append (start + length ds) (map (λ p. start + p) (block_pool rows)) (block_pools fuel block (start + block) (drop block ds))
    (below_more (start + length rows) (start + length ds) (map (λ p. start + p) (block_pool rows)) (omega (arith, length_cut block ds)) (below_moved (length rows) start (block_pool rows) (below_block rows)))
    (elim (dec_le block (length ds)) [
      | yes q ↦ below_more (start + block + length (drop block ds)) (start + length ds) (block_pools fuel block (start + block) (drop block ds)) (omega (arith, length-drop block ds)) (below_blocks fuel block (start + block) (drop block ds))
      | no q ↦ rw (drop_of_length-le ds {i = block} (omega arith), blocks_none fuel block (start + block)) (below_nil (start + length ds))
    ])

-- ---- distinct
block_distinct : (ds : List Float) → Distinct (block_pool ds)
unfolding block_pool
block_distinct ds x =
    let f : ℕ → ℕ = λ y. one (eqb y x) in
    omega (arith, weigh_take f 8 (order (farther ds) (up_to (length ds))), weigh_order (farther ds) f [] (up_to (length ds)), count_up_lem x (length ds))

-- no position before `start` stands in the pools from `start` on
blocks_after : (fuel block start x : ℕ) (ds : List Float) → x < start → count_of x (block_pools fuel block start ds) ≡ 0
unfolding block_pools
blocks_after zero block start x ds h = refl
blocks_after (suc fuel) block start x ds h =
    let here = map (λ p. start + p) (block_pool (take block ds)) in
    let later = block_pools fuel block (start + block) (drop block ds) in
    omega (arith, weigh_append (λ y. one (eqb y x)) here later, count_under start x (block_pool (take block ds)) h, blocks_after fuel block (start + block) x (drop block ds) (omega arith))

pub blocks_distinct : (fuel block start : ℕ) (ds : List Float) → Distinct (block_pools fuel block start ds)
unfolding block_pools
blocks_distinct zero block start ds x = omega arith
blocks_distinct (suc fuel) block start ds x =
    let rows = take block ds in
    let here = map (λ p. start + p) (block_pool rows) in
    let later = block_pools fuel block (start + block) (drop block ds) in
    let both : count_of x (here ++ later) ≡ count_of x here + count_of x later = weigh_append (λ y. one (eqb y x)) here later in
    elim (dec_le (start + block) x) [
      | yes q ↦ omega (arith, both, count_below (start + length rows) x here (below_moved (length rows) start (block_pool rows) (below_block rows)) (omega (arith, length_cut block ds)), blocks_distinct fuel block (start + block) (drop block ds) x)
      | no q ↦ omega (arith, both, blocks_after fuel block (start + block) x (drop block ds) (omega arith), moved_distinct start (block_pool rows) (block_distinct rows) x)
    ]
