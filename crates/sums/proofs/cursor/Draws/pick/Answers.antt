use Rattle.sums.proofs.Picks.{picking_begin, picking_step, picking_end}
use Rattle.std.proofs.Common.{length, refl, arith}
use Rattle.sums.proofs.cursor.Draws.pick.Goals as goal

pub loop-i-init : goal.loop-i-init
loop-i-init c = (refl, picking_begin c.args.self.now c.args.count (length c.args.places.now) c.count_up.new.cells c.count_up.ensures)

pub loop-i-preserved : goal.loop-i-preserved
loop-i-preserved c = (refl, rw c.swap.ensures.after (picking_step c.loop-i.invariant.1 c.draw-number.result _ _ c.loop-i-test.true (omega (arith, c.requires, c.count_up.auto)) refl c.draw-number.ensures))

pub returns-clause-fact : goal.returns-clause-fact
returns-clause-fact c = rw c.count_up.auto.cells at (picking_end c.loop-i.invariant.1 (omega arith)).1
