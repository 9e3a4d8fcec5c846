use mathlib.Core.Path.{◌≡◌}
use mathlib.Core.Bool.{true}
use lib.ListN.{drop}
use Rattle.kmeans.specs.Inside.{repeats}
use Rattle.kmeans.proofs.lloyd.refills_repeat.Given as goal

abbrev pub invariant-loop-count : goal.invariant-loop-count
invariant-loop-count l = repeats (drop l.count-index l.counts) (drop l.used l.new) (drop l.used l.old) ≡ true → repeats l.counts l.new l.old ≡ true
