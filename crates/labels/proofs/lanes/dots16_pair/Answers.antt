use mathlib.Core.Path.{◌≡◌, ◌∙◌}
use lib.ListN.{length}
use lib.Ieee.{of_bits}
use Rattle.labels.proofs.Columns.{parts_none, parts_more, parts_done}
use native.Mathlib.Omega.{arith}
use Rattle.labels.proofs.lanes.dots16_pair.Goals as goal

pub loop-i-init : goal.loop-i-init
unfolding of_bits
loop-i-init c = (parts_none _ _, parts_none _ _)

pub loop-i-preserved : goal.loop-i-preserved
loop-i-preserved c =
    let a = c.args in (
      parts_more a.first.now a.panel.now _ _ c.loop-i.i (omega arith) c.loop-i.invariant.0 c.lane16.ensures,
      parts_more a.second.now a.panel.now _ _ c.loop-i.i (omega arith) c.loop-i.invariant.1 c.lane16-in-loop-i.ensures,
    )

pub returns : goal.returns
returns c =
    let a = c.args in
    let e : c.loop-i.i ≡ length a.first.now = omega arith in
    let f : c.loop-i.i ≡ length a.second.now = omega arith in
    ((rw e at c.loop-i.invariant.0) ∙ parts_done a.first.now a.panel.now, (rw f at c.loop-i.invariant.1) ∙ parts_done a.second.now a.panel.now)
