use Rattle.sums.specs.Sums.{sum_from, square, apart_of}
use Rattle.std.specs.Float.{binary32}
use Rattle.std.proofs.Common.{◌≡◌, length}
use Rattle.sums.proofs.math.l2_distance_sqr.Given as goal

abbrev pub invariant-loop-x : goal.invariant-loop-x
invariant-loop-x l =
    let xs = l.x-iterator.a.rest.now in
    let ys = l.x-iterator.b.rest.now in
    (length xs ≡ length ys) × (sum_from binary32 square l.sum xs ys ≡ apart_of l.a l.b)
