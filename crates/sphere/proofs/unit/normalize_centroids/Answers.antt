use Rattle.sphere.specs.Unit.{unit_row}
use Rattle.sums.proofs.Rows.{room, rows_length, part_length, part_row, part_put}
use Rattle.sums.proofs.Tables.{map_index, over_read, over_more, over_done}
use Rattle.sums.specs.Rows.{Row, rows_from}
use lib.ListN.{length, get_or}
use native.Mathlib.Nat.{le_of_eq}
use mathlib.Core.List.{[]}
use mathlib.Core.Path.{◌≡◌, sym, ap, ◌∙◌}
use Prim.Native.Nat.{ℕ, ◌≤◌, ◌<◌, ◌+◌, ◌*◌}
use native.Mathlib.Omega.{arith}
use Rattle.sphere.proofs.unit.normalize_centroids.Goals as goal
use Rattle.sphere.proofs.unit.normalize_centroids.Goals.{In-loop-c}

-- row c lies inside
inside : (c : In-loop-c) → let a = c.args in c.loop-c.c * a.dim + a.dim ≤ length c.loop-c.centroids
inside c =
    rw (c.loop-c.auto.centroids, c.requires) (room c.loop-c.c c.args.k c.args.dim c.loop-c-test.true)

pub loop-c-preserved : goal.loop-c-preserved
loop-c-preserved c =
    let a = c.args in
    let x = c.loop-c.c in
    let l : x < a.k = c.loop-c-test.true in
    let rows₀ = rows_from a.dim a.k a.centroids.now in
    let f : ℕ → Row = λ i. unit_row (get_or rows₀ i []) in
    let size : length c.normalize.new.row ≡ a.dim = c.normalize.auto.row ∙ part_length (x * a.dim) a.dim c.loop-c.centroids (inside (goal.at.loop-c-preserved c).In-loop-c) in
    let fit : a.k * a.dim ≤ length c.loop-c.centroids = le_of_eq (sym c.requires ∙ sym c.loop-c.auto.centroids) in
    let more : x < length rows₀ = rw rows_length l in
    let v : c.normalize.new.row ≡ f x = c.normalize.ensures ∙ ap unit_row (part_row a.dim a.k c.loop-c.centroids x l ∙ rw c.loop-c.invariant (over_read f rows₀ x [] more)) in
    part_put a.dim a.k c.loop-c.centroids x c.normalize.new.row l fit size ∙ rw c.loop-c.invariant (over_more f rows₀ x c.normalize.new.row more v)

pub returns : goal.returns
returns c =
    let a = c.args in
    let rows₀ = rows_from a.dim a.k a.centroids.now in
    let f : ℕ → Row = λ i. unit_row (get_or rows₀ i []) in
    let e : c.loop-c.c ≡ length rows₀ = rw rows_length (omega arith) in
    c.loop-c.invariant ∙ over_done f rows₀ c.loop-c.c (le_of_eq (sym e)) ∙ rw e (sym (map_index unit_row rows₀ []))
