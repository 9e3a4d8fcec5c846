use Rattle.std.proofs.Common.{◌+◌, ◌*◌, ◌/◌, ◌≤◌, length, refl, ap, ◌∙◌}
use native.Mathlib.Nat.{le_of_eq}
use Rattle.sums.proofs.Fronts.{front, lent_front}
use Rattle.labels.specs.Panels.{panels_of}
use Rattle.labels.proofs.Columns.{panels_length}
use Rattle.labels.proofs.Searches.{norms_length}
use Rattle.labels.proofs.Assigns.{by_centroids}
use Rattle.labels.proofs.nearest.assign_with.Goals as goal

pub returns : goal.returns
returns g c =
    let r = c.args.centroids in
    let a = c.requires.assignable in
    let cells = (r.count + 15) / 16 * (16 * c.args.rows.dim) in
    let wide : (r.count + 15) / 16 * (16 * r.dim) ≤ cells = rw a.alike (le_of_eq refl) in
    let room = lent_front cells g.row.N c.room-panels.result c.room-panels.ensures c.requires.panels_fit.0 in
    by_centroids c.args.rows r c.args.rownorms.now (length c.args.labels.now) (length c.args.distances.now) a cells wide _ _ _ _ refl
    (front (c.fill_panels.ensures ∙ ap (panels_of r) room) (panels_length r cells) _).is
    (front c.compute_norms.ensures (norms_length r) _).is
    c.assign_by_panels.ensures
