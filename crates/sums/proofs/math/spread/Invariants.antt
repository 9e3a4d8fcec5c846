use Rattle.sums.specs.Sums.{sum_from, wide_square, spread_of}
use Rattle.std.specs.Float.{binary64}
use Rattle.std.proofs.Common.{◌≡◌, length}
use Rattle.sums.proofs.math.spread.Given as goal

abbrev pub invariant-loop-x : goal.invariant-loop-x
invariant-loop-x l =
    let xs = l.x-iterator.a.rest.now in
    let ys = l.x-iterator.b.rest.now in
    (length xs ≡ length ys) × (sum_from binary64 wide_square l.sum xs ys ≡ spread_of l.point l.centroid)
