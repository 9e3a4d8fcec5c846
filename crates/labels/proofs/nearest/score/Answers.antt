use Rattle.labels.specs.Label.{score_from}
use lib.Ieee.{of_bits}
use Rattle.labels.proofs.nearest.score.Goals as goal

pub returns-then-raw : goal.returns-then-raw
unfolding of_bits score_from
returns-then-raw c = rw c.if-raw.true

pub returns : goal.returns
unfolding of_bits score_from
returns c = rw c.if-raw.false
