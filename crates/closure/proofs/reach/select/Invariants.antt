use Prim.Native.Nat.{◌≤◌}
use lib.ListN.{length}
use Rattle.closure.proofs.Laws.{Turn}
use Rattle.closure.proofs.reach.select.Given as goal

abbrev pub invariant-loop-p : goal.invariant-loop-p
invariant-loop-p l = (l.n ≤ l.p-index) × Turn l.reach l.distances l.at (length l.initial.cells) l.p-index l.n l.cells
