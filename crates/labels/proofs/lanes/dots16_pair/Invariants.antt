use mathlib.Core.Path.{◌≡◌}
use Rattle.labels.proofs.Columns.{parts_of}
use Rattle.labels.proofs.lanes.dots16_pair.Given as goal

abbrev pub invariant-loop-i : goal.invariant-loop-i
invariant-loop-i l = (l.a ≡ parts_of l.first l.panel l.i) × (l.b ≡ parts_of l.second l.panel l.i)
