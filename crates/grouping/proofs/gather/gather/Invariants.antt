use Rattle.grouping.proofs.Gathers.{Gathering}
use lib.ListN.{length}
use Rattle.grouping.proofs.gather.gather.Given as goal

abbrev pub invariant-loop-c : goal.invariant-loop-c
invariant-loop-c l = Gathering (length l.initial.sizes) l.rows l.labels l.part l.sizes l.c l.at
