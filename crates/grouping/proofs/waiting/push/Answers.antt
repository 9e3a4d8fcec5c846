use Rattle.grouping.proofs.Stacks.{pushing_end, pushing_less, pushing_none, pushing_room, pushing_some}
use native.Mathlib.Omega.{arith}
use Rattle.grouping.proofs.waiting.push.Goals as goal
use Rattle.grouping.proofs.waiting.push.Goals.{then-size-gt0, else-size-gt0}

pub bounds-waiting-t : goal.bounds-waiting-t
bounds-waiting-t c = pushing_room c.loop-size.invariant (omega arith) c.requires.0 (omega arith)

pub overflow_sub-e : goal.overflow_sub-e
overflow_sub-e c = omega (arith, pushing_less c.loop-size.invariant (omega arith))

pub loop-size-preserved : goal.loop-size-preserved
loop-size-preserved c =
    elim c.if-size-gt0.branch [
      | then-size-gt0 w ↦ rw (w.waiting-is, w.t-is, w.e-is, w.from-e.ensures) (pushing_some c.loop-size.invariant (omega arith) c.requires.0 (omega arith))
      | else-size-gt0 w ↦ rw (w.waiting-is, w.t-is, w.e-is) (pushing_none c.loop-size.invariant (omega arith) (omega arith))
    ]

pub returns : goal.returns
returns c = pushing_end c.loop-size.invariant (omega arith) (omega arith)
