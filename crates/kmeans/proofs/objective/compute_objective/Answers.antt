use mathlib.Core.List.{[]}
use lib.ListN.{length, drop_of_length-le}
use lib.Seq.{drop-cons}
use native.Mathlib.Numerals.{add-one}
use Prim.Native.Nat.{◌<◌}
use Rattle.sums.specs.Table.{rows_of}
use Rattle.sums.proofs.Rows.{row_at_lem, rows_length}
use Rattle.kmeans.specs.Steps.{objective_from}
use Rattle.kmeans.proofs.objective.compute_objective.Goals as goal

pub loop-i-preserved : goal.loop-i-preserved
unfolding objective_from
loop-i-preserved c =
    let r = c.args.rows in
    let m = c.args.centroids in
    let i = c.loop-i.i in
    let li : i < r.count = rw (← c.requires.0) c.loop-i-test.true in
    let lr : i < length (rows_of r) = rw rows_length li in
    rw (
      add-one i,
      c.spread-total.ensures,
      c.row.ensures,
      c.row-in-loop-i.ensures,
      c.from.ensures,
      ← row_at_lem r.dim r.count r.values.now i [] li,
      ← row_at_lem m.dim m.count m.values.now _ [] (c.requires.1.1 i c.loop-i-test.true),
    )
    (rw (drop-cons c.args.labels.now i 0 c.loop-i-test.true, drop-cons (rows_of r) i [] lr) at c.loop-i.invariant)

pub returns : goal.returns
unfolding objective_from
returns c = rw (drop_of_length-le c.args.labels.now {i = c.loop-i.i} c.loop-i-test.false) at c.loop-i.invariant
