use mathlib.Core.Path.{◌∙◌}
use Rattle.kmeans.proofs.Turns.{handed, onward_step, onward_end}
use Rattle.kmeans.proofs.alike.run_alike_iterations.Goals as goal

pub loop-preserved : goal.loop-preserved
loop-preserved c =
    let made = rw (c.loop.auto.counts ∙ c.requires.row_len.1, c.requires.row_len.0) at c.run_alike_iteration.ensures in
    λ a. let was = c.loop.invariant a in let d = made c.args.plan.block a in
    (d.kept ∙ was.0, λ n p. onward_step _ _ _ _ (was.1 n p) c.loop-test.true was.0 (handed c.args.plan.spherical d c.apply_spherical.ensures))

pub returns : goal.returns
returns c = λ a. let was = c.loop.invariant a in record { kept = was.0; steps = λ n p. onward_end _ _ _ _ (was.1 n p) c.loop-test.false }
