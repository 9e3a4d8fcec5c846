use Rattle.kmeans.proofs.Restarts.{trying_step, trying_end}
use Rattle.kmeans.proofs.restart.run_restarts.Goals as goal

pub loop-number-preserved : goal.loop-number-preserved
loop-number-preserved c =
    trying_step _ _ _ _ _ _ _ _ c.loop-number.invariant _ _ c.try_restart-best.result _ c.loop-number-test.true c.try_restart-best.ensures

pub returns : goal.returns
returns c = trying_end _ _ _ _ _ _ _ _ c.loop-number.invariant _ c.loop-number-test.false c.first_restart-best.ensures
