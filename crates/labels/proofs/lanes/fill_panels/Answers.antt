use Rattle.labels.proofs.Columns.{in_panels, panel_is}
use Rattle.sums.proofs.Fronts.{fill_part}
use Rattle.labels.specs.Panels.{panels_of}
use Rattle.sums.proofs.Rows.{room}
use Rattle.sums.proofs.Tables.{fill_done}
use lib.ListN.{length}
use native.Mathlib.Numerals.{add-one}
use native.Mathlib.Nat.{suc-mul}
use mathlib.Core.Path.{◌≡◌, ◌∙◌}
use Prim.Native.Nat.{◌+◌, ◌*◌}
use native.Mathlib.Omega.{arith}
use Rattle.labels.proofs.lanes.fill_panels.Goals as goal

pub loop-g-preserved : goal.loop-g-preserved
loop-g-preserved c =
    let a = c.args in
    let wide = 16 * a.centroids.dim in
    let e : (c.loop-g.g + 1) * wide ≡ c.loop-g.g * wide + wide = rw (add-one, suc-mul) in
    rw e (fill_part (in_panels a.centroids) (c.loop-g.g * wide) wide c.loop-g.panels _ (omega (arith, room c.loop-g.g a.count wide (omega arith))) c.loop-g.invariant (c.fill_panel.ensures ∙ panel_is a.centroids c.loop-g.g))

pub returns : goal.returns
unfolding panels_of
returns c =
    let a = c.args in
    let e : c.loop-g.g ≡ a.count = omega arith in
    let n : length a.panels.now ≡ c.loop-g.g * (16 * a.centroids.dim) = c.requires.1.1.1 ∙ rw e in
    rw n (fill_done _ c.loop-g.panels (c.loop-g.g * (16 * a.centroids.dim)) (omega arith) c.loop-g.invariant)
