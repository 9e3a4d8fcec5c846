use Rattle.kmeans.proofs.Turns.{repeats_filled, repeats_empty, repeats_end}
use native.Mathlib.Omega.{arith}
use Rattle.kmeans.proofs.lloyd.refills_repeat.Goals as goal
use Rattle.kmeans.proofs.lloyd.refills_repeat.Goals.{then-count-eq0+else-new-used+else-old-used+else-new-used-2, else-count-eq0}

pub loop-count-preserved : goal.loop-count-preserved
loop-count-preserved c =
    let a = c.args in
    let l = c.loop-count in λ r.
    l.invariant
    (elim c.if-count-eq0.branch [
      | then-count-eq0+else-new-used+else-old-used+else-new-used-2 w ↦
          repeats_empty a.counts.now a.new.now a.old.now l.count-index l.used c.loop-count-test.true w.if-count-eq0.true w.if-new-used.false w.if-old-used.false w.if-new-used-2.false (rw w.used-is at r)
      | else-count-eq0 w ↦
          repeats_filled a.counts.now a.new.now a.old.now l.count-index l.used c.loop-count-test.true (omega (arith, w.if-count-eq0.false)) (rw w.used-is at r)
    ])

pub returns : goal.returns
returns c = λ e. c.loop-count.invariant (repeats_end _ _ _ _ c.loop-count-test.false)
