use Rattle.std.proofs.Common.{◌≡◌, drop}
use Rattle.results.specs.Grouping.{rising}
use Rattle.results.proofs.marks.rises.Given as goal

abbrev pub invariant-loop-end : goal.invariant-loop-end
invariant-loop-end l = rising l.start (drop l.end-index l.ends) l.rows ≡ rising 0 l.ends l.rows
