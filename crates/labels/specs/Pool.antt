-- 01, 'K-means' step 3: the pool of far rows that empty clusters are refilled from. Positions stand for their rows.
use Rattle.std.specs.Prelude.{Bool, ◌&&◌, ◌||◌, not, List, [], ◌++◌, map, ℕ, zero, suc, ◌+◌, ltb, length, get_or, take, drop, Float}
use Rattle.std.specs.Float.{nan}
use Rattle.std.specs.Float.Ieee.{lt}
use Rattle.sums.specs.Tables.{up_to}
use Rattle.sums.specs.Ordering.{order}

-- of two positions the one with the larger distance comes first, and of two alike the earlier
unfoldable pub farther : List Float → ℕ → ℕ → Bool
farther distances a b = lt (get_or distances b nan) (get_or distances a nan) || (not (lt (get_or distances a nan) (get_or distances b nan)) && ltb a b)

-- the first eight of a block, or all if fewer, as positions inside the block
unfoldable pub block_pool : List Float → List ℕ
block_pool distances = take 8 (order (farther distances) (up_to (length distances)))

-- the pools of the blocks from training position `start` on, each position turned into a training position; fuel for as many blocks
unfoldable pub block_pools : ℕ → ℕ → ℕ → List Float → List ℕ
block_pools zero block start distances = []
block_pools (suc fuel) block start distances =
    map (λ p. start + p) (block_pool (take block distances)) ++ block_pools fuel block (start + block) (drop block distances)

-- the joined pool, in the same order
unfoldable pub pool : ℕ → List Float → List ℕ
pool block distances = order (farther distances) (block_pools (length distances) block 0 distances)
