use Rattle.kmeans.proofs.Turns.{running_step, running_stop, running_end}
use Rattle.kmeans.proofs.lloyd.run_iterations.Goals as goal

pub returns-then-state : goal.returns-then-state
returns-then-state c = running_stop _ _ _ _ c.loop-i.invariant _ _ _ c.run_iteration-state.result _ c.loop-i-test.true c.run_iteration-state.ensures c.if-state.true

pub loop-i-preserved : goal.loop-i-preserved
loop-i-preserved c = running_step _ _ _ _ c.loop-i.invariant _ _ _ c.run_iteration-state.result _ c.loop-i-test.true c.run_iteration-state.ensures c.if-state.false

pub returns : goal.returns
returns c = running_end _ _ _ _ c.loop-i.invariant c.loop-i-test.false
