use Rattle.kmeans.proofs.Summing.{Summing}
use Rattle.kmeans.proofs.lloyd.accumulate.Given as goal

abbrev pub invariant-loop-i : goal.invariant-loop-i
invariant-loop-i l = Summing l.training l.labels l.initial.counts l.initial.totals l.counts l.totals l.i
