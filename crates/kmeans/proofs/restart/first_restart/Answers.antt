use Rattle.kmeans.proofs.Restarts.{begun}
use Rattle.kmeans.proofs.restart.first_restart.Goals as goal

pub returns : goal.returns
returns c = let m = c.new.ensures in begun _ _ _ _ _ _ _ _ c.run_restart.ensures (rw (m.0, m.1.0, m.1.1) at c.finish_restart-scored.ensures)
