use Prim.Native.Nat.{◌≤◌, ◌<◌, ◌*◌, ◌-◌}
use Rattle.sphere.proofs.root.whole_root.Given as goal

abbrev pub invariant-loop-low : goal.invariant-loop-low
invariant-loop-low l = ((16777216 ≤ l.low) × ((l.low < l.high) × (l.high ≤ 33554432))) × ((l.low * l.low ≤ l.w) × (l.w < l.high * l.high))

abbrev pub decreases-loop-low : goal.decreases-loop-low
decreases-loop-low l = l.high - l.low
