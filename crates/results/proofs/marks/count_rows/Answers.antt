use Rattle.std.proofs.Common.{◌<◌, length, get_or, refl, arith}
use borrow.Author.Tests.{lt-ltb, le-ltb}
use lib.Dec.{ltb}
use Rattle.results.proofs.Tests.{pass_on, pass_not, pass_end, mark_few, mark_more, mark_none}
use Rattle.results.proofs.marks.count_rows.Goals as goal

pub loop-listed-init : goal.loop-listed-init
loop-listed-init c = record { below = refl; counted = mark_none (length c.args.seen.now) c.args.order.now c.args.seen.now c.requires.0 }

pub returns-then-seen-row-clause-value : goal.returns-then-seen-row-clause-value
returns-then-seen-row-clause-value c =
    pass_not (λ x. ltb x (length c.args.seen.now)) c.args.order.now c.loop-listed.listed-index _ c.loop-listed-test.true (le-ltb _ _ (omega (arith, c.if-seen-row.true, c.loop-listed.auto.seen))) c.loop-listed.invariant.below

pub overflow_add-seen : goal.overflow_add-seen
overflow_add-seen c = omega (arith, mark_few (length c.args.seen.now) c.args.order.now c.loop-listed.seen c.loop-listed.listed-index c.loop-listed.invariant.counted (get_or c.args.order.now c.loop-listed.listed-index 0) (omega (arith, c.if-seen-row.false, c.loop-listed.auto.seen)), c.loop-listed-test.true, c.requires.1)

pub loop-listed-preserved : goal.loop-listed-preserved
loop-listed-preserved c =
    let inside : get_or c.args.order.now c.loop-listed.listed-index 0 < length c.args.seen.now = omega (arith, c.if-seen-row.false, c.loop-listed.auto.seen) in
    record {
      below = pass_on (λ x. ltb x (length c.args.seen.now)) c.args.order.now c.loop-listed.listed-index _ c.loop-listed-test.true (lt-ltb _ _ inside) c.loop-listed.invariant.below;
      counted = mark_more (length c.args.seen.now) c.args.order.now c.loop-listed.seen c.loop-listed.listed-index c.loop-listed.invariant.counted _ refl c.loop-listed-test.true inside;
    }

pub returns-clause-value : goal.returns-clause-value
returns-clause-value c = pass_end (λ x. ltb x (length c.args.seen.now)) c.args.order.now c.loop-listed.listed-index _ c.loop-listed-test.false c.loop-listed.invariant.below
