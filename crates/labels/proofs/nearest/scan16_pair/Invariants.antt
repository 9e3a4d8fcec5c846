use mathlib.Core.Path.{◌≡◌}
use Rattle.labels.proofs.Searches.{Scanned}
use Rattle.labels.proofs.nearest.scan16_pair.Given as goal

abbrev pub invariant-loop-j : goal.invariant-loop-j
invariant-loop-j l = (l.a ≡ Scanned l.initial.a l.rownorm l.first l.norms l.from l.j) × (l.b ≡ Scanned l.initial.b l.secondnorm l.second l.norms l.from l.j)
