use Rattle.grouping.proofs.Averages.{Filling}
use Rattle.grouping.proofs.means.fill_means.Given as goal

abbrev pub invariant-loop-g : goal.invariant-loop-g
invariant-loop-g l = Filling l.rows l.order l.ends l.groups l.initial.means l.means l.start l.g
