use Rattle.sums.specs.Sums.{sum_from, product, norm_of}
use Rattle.std.specs.Float.{binary32}
use Rattle.std.proofs.Common.{◌≡◌, drop}
use Rattle.sums.proofs.math.norm.Given as goal

abbrev pub invariant-loop-x : goal.invariant-loop-x
invariant-loop-x l = sum_from binary32 product l.sum (drop l.x-index l.v) (drop l.x-index l.v) ≡ norm_of l.v
