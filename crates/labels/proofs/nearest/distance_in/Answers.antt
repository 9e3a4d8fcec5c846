use lib.Ieee.{of_bits}
use Rattle.labels.proofs.nearest.distance_in.Goals as goal

pub returns-in-None : goal.returns-in-None
unfolding of_bits
returns-in-None c = rw c.in-None.is
