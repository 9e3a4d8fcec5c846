use Prim.Native.Nat.{ℕ}
use mathlib.Core.Path.{◌≡◌}
use lib.ListN.{replicate}
use Rattle.kmeans.proofs.Turns.{Onward}
use Rattle.kmeans.specs.Inside.{Alike, centroids_of}
use Rattle.sums.specs.Draws.{cursor_at}
use Rattle.kmeans.proofs.alike.run_alike_iterations.Given as goal

abbrev pub invariant-loop : goal.invariant-loop
invariant-loop l =
    Alike l.plan.k l.plan.dim l.plan.block l.count l.row l.sum l.spare
    → (l.draws.list.now ≡ l.initial.draws.list.now)
    × ((n : ℕ) → l.initial.draws.cursor ≡ cursor_at l.initial.draws.list.now n
    → Onward l.initial.draws l.plan (replicate l.count l.row) (centroids_of l.plan l.initial.centroids) n (centroids_of l.plan l.centroids) l.draws l.counter)
