use Rattle.kmeans.proofs.Restarts.{tried_better, tried_kept}
use Rattle.kmeans.proofs.restart.try_restart.Goals as goal

pub returns-then-scored-best : goal.returns-then-scored-best
returns-then-scored-best c =
    let m = c.new.ensures in
    rw (c.copy_from_slice.ensures.after, c.copy_from_slice-then-scored-best.ensures.after)
    (tried_better _ _ _ _ _ _ c.args.best _ _ _ _ _ c.run_restart.ensures (rw (m.0, m.1.0, m.1.1) at c.finish_restart-scored.ensures) c.if-scored-best.true)

pub returns : goal.returns
returns c =
    let m = c.new.ensures in
    tried_kept _ _ _ _ _ _ c.args.best _ _ _ _ _ c.run_restart.ensures (rw (m.0, m.1.0, m.1.1) at c.finish_restart-scored.ensures) c.if-scored-best.false
