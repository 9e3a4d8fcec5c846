use lib.Ieee.{of_bits}
use Rattle.labels.specs.Label.{placement}
use Rattle.labels.proofs.nearest.placement_of.Goals as goal

pub returns-then-best : goal.returns-then-best
unfolding of_bits placement
returns-then-best c = rw c.if-best.true

pub returns-else-best : goal.returns-else-best
unfolding of_bits placement
returns-else-best c = rw c.if-best.false
