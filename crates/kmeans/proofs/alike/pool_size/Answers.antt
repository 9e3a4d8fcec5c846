use Prim.Native.Nat.{min}
use mathlib.Core.Path.{◌≡◌, sym, ap, ◌∙◌}
use native.Mathlib.Nat.{le_trans}
use lib.Seq.{length-take-le}
use lib.ListN.{length, take, length-take}
use Rattle.labels.proofs.PoolPromises.{pool_length}
use Rattle.labels.specs.Pool.{pool}
use Rattle.sums.proofs.Fronts.{lent_front}
use Rattle.kmeans.proofs.alike.pool_size.Goals as goal
use Rattle.kmeans.proofs.alike.pool_size.Goals.{After-room-distances}

-- the parts lent are as long as the numbers say
rows_lent : (c : After-room-distances) → length (take c.args.rows c.room-distances.result) ≡ c.args.rows
rows_lent c = lent_front c.args.rows 4096 c.room-distances.result c.room-distances.ensures c.requires.1.0

pub returns : goal.returns
returns c =
    let h = c.gather_pool.ensures.at_after.1.1 in
    let k = c.args.k in
    let block = c.args.block in
    let lent = take c.args.rows c.room-distances.result in
    let size = sym (length-take-le c.gather_pool.result c.gather_pool.new.at (le_trans h.0 h.1.0)) ∙ ap length c.gather_pool.ensures.at_after.0 in
    (h.0, λ ds e. length-take k (pool block ds) ∙ (ap (min k) (pool_length block ds lent (e ∙ sym (rows_lent (goal.at.returns c).After-room-distances))) ∙ (sym (length-take k (pool block lent)) ∙ sym size)))
