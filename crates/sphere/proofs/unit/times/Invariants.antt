use Rattle.std.proofs.Common.{◌≡◌, ◌++◌, take, drop}
use Rattle.sphere.specs.Unit.{times_all}
use Rattle.sphere.proofs.unit.times.Given as goal

abbrev pub invariant-loop-x : goal.invariant-loop-x
invariant-loop-x l = take l.x-index l.row ++ times_all l.factor (drop l.x-index l.row) ≡ times_all l.factor l.initial.row
