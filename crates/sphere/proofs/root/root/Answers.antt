use Rattle.sphere.proofs.Cases.{root_below, root_self, root_above, root_odd, odd_some, above_known, small_bits, large_bits}
use lib.Ieee.{binary32, fits, to_bits, of_bits, div}
use lib.Dec.{T}
use mathlib.Core.Path.{sym, subst, ◌∙◌}
use Prim.Native.Nat.{◌+◌, ◌-◌, ◌/◌, ◌%◌}
use native.Mathlib.Omega.{arith}
use Rattle.sphere.proofs.root.root.Goals as goal
use Rattle.sphere.proofs.root.root.Goals.{Start}

-- what owning an `f32` tells: the format holds it
held : (c : Start) → T (fits binary32 c.args.x)
held c = subst T (sym c.well_formed.0.1) tt

pub returns-then-x : goal.returns-then-x
unfolding div of_bits
returns-then-x c = root_below c.args.x c.if-x.true

pub float_to_bits-bits : goal.float_to_bits-bits
unfolding of_bits
float_to_bits-bits c = above_known c.args.x c.if-x-2.true

pub returns-then-bits-ge2139095040 : goal.returns-then-bits-ge2139095040
unfolding of_bits
returns-then-bits-ge2139095040 c = root_above c.args.x (held (goal.at.returns-then-bits-ge2139095040 c).Start) c.if-x-2.true (omega (arith, c.if-bits-ge2139095040.true))

pub root_units-requires : goal.root_units-requires
unfolding of_bits
root_units-requires c =
    let x = c.args.x in
    let s = odd_some x (to_bits binary32 x) 0 (small_bits x (held (goal.at.root_units-requires c).Start) c.if-bits-lt8388608.true) c.if-x-2.true in
    (s, (omega arith, omega arith))

pub returns-then-bits-lt8388608 : goal.returns-then-bits-lt8388608
unfolding of_bits
returns-then-bits-lt8388608 c =
    let x = c.args.x in
    c.root_units.ensures ∙ sym (root_odd x (to_bits binary32 x) 0 (small_bits x (held (goal.at.returns-then-bits-lt8388608 c).Start) c.if-bits-lt8388608.true) c.if-x-2.true)

pub returns-then-x-2 : goal.returns-then-x-2
unfolding of_bits
returns-then-x-2 c =
    let x = c.args.x in
    let b = to_bits binary32 x in
    c.root_units-then-x-2.ensures ∙ sym (root_odd x (b % 8388608 + 8388608) (b / 8388608 - 1) (large_bits x (held (goal.at.returns-then-x-2 c).Start) c.if-bits-lt8388608.false c.if-bits-ge2139095040.false) c.if-x-2.true)

pub returns : goal.returns
unfolding of_bits
returns c = root_self c.args.x c.if-x.false c.if-x-2.false
