use Prim.Native.Nat.{◌%◌}
use mathlib.Core.Path.{◌≡◌, sym, ◌∙◌}
use mathlib.Core.List.{[]}
use lib.ListN.{get_or}
use native.Mathlib.Nat.{mod-lt}
use Rattle.sums.specs.Table.{rows_of}
use Rattle.sums.proofs.Rows.{row_at_lem, rows_length}
use Rattle.labels.proofs.Columns.{row_long}
use Rattle.kmeans.proofs.Updates.{turned_scaled, turned_pool, turned_drawn}
use native.Mathlib.Omega.{arith}
use Rattle.kmeans.proofs.update.update_cluster.Goals as goal

pub returns-then-count-gt0-clause-fact : goal.returns-then-count-gt0-clause-fact
returns-then-count-gt0-clause-fact c = (turned_scaled c.args.draws.now c.args.draws.now _ c.args.pool.now _ c.args.used _ c.args.count (omega (arith, c.if-count-gt0.true)) c.scale.ensures).0

pub copy_from_slice-requires : goal.copy_from_slice-requires
copy_from_slice-requires c =
    let r = c.args.training in
    let p = c.requires.sources.1 c.args.used c.if-used-pool.true in
    c.requires.dst_len.0 ∙ sym (rw (c.row.ensures, c.training_place-place.ensures.0) (row_long r (get_or c.args.pool.now c.args.used 0) p))

pub returns-then-used-pool-clause-fact : goal.returns-then-used-pool-clause-fact
returns-then-used-pool-clause-fact c =
    let a = c.args in
    let r = a.training in
    let e : a.count ≡ 0 = omega (arith, c.if-count-gt0.false) in
    let row = c.row.ensures ∙ rw c.training_place-place.ensures.0 (sym (row_at_lem r.dim r.count r.values.now (get_or a.pool.now a.used 0) [] (c.requires.sources.1 a.used c.if-used-pool.true))) in
    rw e (turned_pool a.draws.now a.draws.now (rows_of r) a.pool.now a.from.now a.used _ c.if-used-pool.true (c.copy_from_slice.ensures.after ∙ row)).0

pub returns-clause-fact : goal.returns-clause-fact
returns-clause-fact c =
    let a = c.args in
    let r = a.training in
    let e : a.count ≡ 0 = omega (arith, c.if-count-gt0.false) in
    let p = mod-lt c.draw-number.result {m = r.count} c.requires.sources.0.0 in
    let row = c.row-2.ensures ∙ rw (c.training_place-place-2.ensures.0, rows_length) (sym (row_at_lem r.dim r.count r.values.now (c.draw-number.result % r.count) [] p)) in
    rw e (turned_drawn a.draws.now _ (rows_of r) a.pool.now a.from.now a.used _ c.if-used-pool.false c.draw-number.result c.draw-number.ensures (c.copy_from_slice-2.ensures.after ∙ row)).0
