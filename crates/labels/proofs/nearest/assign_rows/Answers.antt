use Rattle.std.proofs.Common.{arith}
use Rattle.labels.proofs.nearest.assign_rows.Goals as goal

-- the panels fit by the very test that was made
pub assign_with-requires-clause-panels_fit : goal.assign_with-requires-clause-panels_fit
assign_with-requires-clause-panels_fit c = (assumption, omega arith)
