use Rattle.std.proofs.Common.{arith}
use Rattle.std.proofs.lemmas.List.{get_or_default}
use Rattle.std.proofs.lemmas.List.Edits.{map_over_more}
use lib.Ieee.{binary32, div}
use Rattle.sums.specs.Sums.{count32}
use Rattle.grouping.proofs.means.divide.Goals as goal

pub loop-s-preserved : goal.loop-s-preserved
loop-s-preserved c = map_over_more (λ s. div binary32 s (count32 c.args.count)) c.args.sums.now c.loop-s.s-items c.loop-s.s-index _ (omega arith) c.loop-s.invariant (get_or_default c.loop-s.s-items c.loop-s.s-index _ _ (omega arith))
