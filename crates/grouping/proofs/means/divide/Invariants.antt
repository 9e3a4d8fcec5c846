use Rattle.std.proofs.Common.{◌≡◌, ◌++◌, take, drop}
use Rattle.grouping.proofs.Averages.{divided_by}
use Rattle.grouping.proofs.means.divide.Given as goal

abbrev pub invariant-loop-s : goal.invariant-loop-s
invariant-loop-s l = l.s-items ≡ divided_by l.count (take l.s-index l.initial.s-items) ++ drop l.s-index l.initial.s-items
