use Rattle.grouping.proofs.Gathers.{Picking}
use Rattle.grouping.proofs.gather.rows_with_label.Given as goal

abbrev pub invariant-loop-i : goal.invariant-loop-i
invariant-loop-i l = Picking l.c l.rows l.labels l.initial.dst l.dst l.n l.i
