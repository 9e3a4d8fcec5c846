use Rattle.grouping.proofs.Gathers.{picking_end, picking_skip, picking_room, picking_take}
use native.Mathlib.Omega.{arith}
use Rattle.grouping.proofs.gather.rows_with_label.Goals as goal
use Rattle.grouping.proofs.gather.rows_with_label.Goals.{then-from-c, else-from-c}

pub bounds-dst-n : goal.bounds-dst-n
bounds-dst-n c = picking_room c.requires.0 c.loop-i.invariant c.requires.1 (omega arith) (omega arith)

pub loop-i-preserved : goal.loop-i-preserved
loop-i-preserved c =
    elim c.if-from-c.branch [
      | then-from-c w ↦ rw (w.dst-is, w.n-is) (picking_take c.requires.0 c.loop-i.invariant c.requires.1 (omega arith) (omega arith))
      | else-from-c w ↦ rw (w.dst-is, w.n-is) (picking_skip c.requires.0 c.loop-i.invariant (omega arith) (omega arith))
    ]

pub returns : goal.returns
returns c = picking_end c.requires.0 c.loop-i.invariant (omega arith)
