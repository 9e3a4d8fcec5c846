use lib.ListN.{take}
use mathlib.Core.Path.{◌≡◌}
use Rattle.kmeans.proofs.alike.same_floats.Given as goal

abbrev pub invariant-loop-j : goal.invariant-loop-j
invariant-loop-j l = take l.j l.a ≡ take l.j l.b
