use Rattle.labels.proofs.Columns.{lane_at}
use Rattle.sums.proofs.Tables.{over_read, over_more, over_done}
use lib.Ieee.{nan}
use lib.ListN.{length}
use mathlib.Core.Path.{◌≡◌, ◌∙◌}
use native.Mathlib.Omega.{arith}
use Rattle.labels.proofs.lanes.lane16.Goals as goal

pub loop-j-preserved : goal.loop-j-preserved
loop-j-preserved c =
    let a = c.args in
    let f = lane_at a.acc.now a.x a.panel.now a.at in
    let n : length a.acc.now ≡ 16 = c.requires.0 in
    rw c.loop-j.invariant (over_more f a.acc.now c.loop-j.j _ (omega arith) (rw (over_read f a.acc.now c.loop-j.j nan (omega arith))))

pub returns : goal.returns
returns c =
    let a = c.args in
    let n : length a.acc.now ≡ 16 = c.requires.0 in
    let e : c.loop-j.j ≡ 16 = omega arith in
    (rw e at c.loop-j.invariant) ∙ over_done (lane_at a.acc.now a.x a.panel.now a.at) a.acc.now 16 (omega arith)
