use Rattle.sums.specs.Sums.{add_row}
use Rattle.std.proofs.Common.{◌≡◌, ◌++◌, take, drop}
use Rattle.sums.proofs.math.add_row.Given as goal

abbrev pub invariant-loop-i : goal.invariant-loop-i
invariant-loop-i l = take l.i l.sums ++ add_row (drop l.i l.sums) (drop l.i l.row) ≡ add_row l.initial.sums l.row
