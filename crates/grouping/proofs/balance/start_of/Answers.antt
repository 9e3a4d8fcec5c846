use Rattle.std.proofs.Common.{◌≡◌, ℕ, ◌+◌, ◌-◌, List, length, take, drop, ap, ◌∙◌, arith, add-one, take_all, length-drop, drop_of_length-le}
use Rattle.grouping.specs.PartsInside.{total}
use Rattle.grouping.proofs.Layouts.{total_drop, total_at, total-none}
use Rattle.grouping.proofs.balance.start_of.Goals as goal

-- the sizes that are lent
lent : (sizes : List ℕ) (c : ℕ) → take (length sizes - (c + 1)) (drop (c + 1) sizes) ≡ drop (c + 1) sizes
lent sizes c = take_all (length sizes - (c + 1)) (drop (c + 1) sizes) (omega (arith, length-drop (c + 1) sizes))

pub loop-size-init : goal.loop-size-init
loop-size-init c = (omega (arith, ap total (lent c.args.sizes.now c.args.c)), omega (arith, total_drop (c.args.c + 1) c.args.sizes.now))

pub loop-size-preserved : goal.loop-size-preserved
loop-size-preserved c =
    let s = take (length c.args.sizes.now - (c.args.c + 1)) (drop (c.args.c + 1) c.args.sizes.now) in
    rw (add-one c.loop-size.size-index) (omega (arith, total_at c.loop-size.size-index s c.loop-size-test.true), c.loop-size.invariant.1)

pub returns : goal.returns
returns c =
    let s = take (length c.args.sizes.now - (c.args.c + 1)) (drop (c.args.c + 1) c.args.sizes.now) in
    let z : total (drop c.loop-size.size-index s) ≡ 0 = ap total (drop_of_length-le s {i = c.loop-size.size-index} (omega arith)) ∙ total-none in
    omega (arith, z)
