use Rattle.labels.proofs.Columns.{in_panel, line_is}
use Rattle.sums.proofs.Fronts.{fill_part}
use mathlib.Core.Path.{◌≡◌, ◌∙◌}
use Prim.Native.Nat.{◌+◌, ◌*◌}
use native.Mathlib.Omega.{arith}
use Rattle.labels.proofs.lanes.fill_panel.Goals as goal

pub loop-d-preserved : goal.loop-d-preserved
loop-d-preserved c =
    let a = c.args in
    let e : 16 * (c.loop-d.d + 1) ≡ 16 * c.loop-d.d + 16 = omega arith in
    rw e (fill_part (in_panel a.centroids a.first) (16 * c.loop-d.d) 16 c.loop-d.panel _ (omega arith) c.loop-d.invariant (c.fill_line.ensures ∙ line_is a.centroids a.first c.loop-d.d))
