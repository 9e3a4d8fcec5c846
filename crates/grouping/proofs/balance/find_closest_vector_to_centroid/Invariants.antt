use Rattle.grouping.proofs.Nearest.{Searching}
use Rattle.sums.specs.Table.{rows_of}
use Rattle.grouping.proofs.balance.find_closest_vector_to_centroid.Given as goal

abbrev pub invariant-loop-i : goal.invariant-loop-i
invariant-loop-i l = Searching (rows_of l.rows) l.centroid l.part l.best l.place l.i
