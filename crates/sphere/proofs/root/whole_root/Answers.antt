use Rattle.sphere.proofs.Squares.{whole_root_lem, whole_one}
use Rattle.sphere.specs.Root.{whole_root}
use native.Mathlib.Nat.{mul-le-mul}
use mathlib.Core.Path.{◌≡◌}
use Prim.Native.Nat.{◌≤◌, ◌+◌, ◌/◌}
use native.Mathlib.Omega.{arith}
use Rattle.sphere.proofs.root.whole_root.Goals as goal

pub overflow_mul-middle : goal.overflow_mul-middle
overflow_mul-middle c =
    let m : (c.loop-low.low + c.loop-low.high) / 2 ≤ 33554432 = omega arith in
    omega (arith, mul-le-mul m m)

pub returns : goal.returns
returns c =
    let w = c.args.w in
    let e : c.loop-low.high ≡ c.loop-low.low + 1 = omega arith in
    whole_one c.loop-low.low (whole_root 25 w) w (c.loop-low.invariant.1.0, rw e at c.loop-low.invariant.1.1) (whole_root_lem 25 w (omega arith))
