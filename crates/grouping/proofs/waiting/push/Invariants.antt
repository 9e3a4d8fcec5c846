use Rattle.grouping.proofs.Stacks.{Pushing}
use Rattle.grouping.proofs.waiting.push.Given as goal

abbrev pub invariant-loop-size : goal.invariant-loop-size
invariant-loop-size l = Pushing l.top l.end l.sizes l.initial.waiting l.waiting l.t l.e l.size-index
