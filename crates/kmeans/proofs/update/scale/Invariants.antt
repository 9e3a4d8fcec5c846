use mathlib.Core.Path.{◌≡◌}
use lib.ListN.{take, get_or}
use lib.Ieee.{nan, binary32, mul}
use Rattle.sums.specs.Tables.{tabulate}
use Rattle.kmeans.proofs.update.scale.Given as goal

abbrev pub invariant-loop-i : goal.invariant-loop-i
invariant-loop-i l = take l.i l.dst ≡ tabulate (λ n. mul binary32 (get_or l.from n nan) l.inverse) l.i
