use Rattle.std.proofs.Common.{◌*◌}
use Rattle.labels.specs.Inside.{placed_by}
use Rattle.labels.proofs.Assigns.{Assigning}
use Rattle.labels.proofs.nearest.assign_by_panels.Given as goal

-- two rows a pair
abbrev pub invariant-loop-pair : goal.invariant-loop-pair
invariant-loop-pair l = Assigning (placed_by l.rows l.rownorms l.panels l.norms) l.initial.labels l.labels l.distances l.tally (2 * l.pair)
