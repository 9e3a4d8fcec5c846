-- What a plan asks of local arrays: as much of them as it calls for is there to be lent. Assumes nothing.
use mathlib.Core.Path.{◌≡◌}
use Prim.Native.Nat.{ℕ, ◌*◌, ◌≤◌}
use native.Mathlib.Nat.{mul-le-mul}
use lib.ListN.{length, take, replicate}
use lib.Seq.{length-take-le}
use Rattle.kmeans.specs.declared.config.Plan.{Plan}
use Rattle.kmeans.specs.Inside.{Planned}

module _ {plan : Plan} (p : Planned plan) where
  pub width_fits : plan.k * plan.dim ≤ 4096
  width_fits = mul-le-mul p.few p.small_dim

  -- a cell for each cluster
  pub cells_lent_lem : length {A = ℕ} (take plan.k (replicate 64 0)) ≡ plan.k
  cells_lent_lem = length-take-le plan.k (replicate 64 0) p.few
