use Rattle.kmeans.proofs.Restarts.{restarted}
use Rattle.sums.proofs.Fronts.{lent_front}
use Rattle.sums.proofs.Rows.{rows_length}
use Rattle.sums.specs.Rows.{rows_from, rows_at}
use Rattle.sums.specs.Table.{rows_of}
use lib.ListN.{length, take}
use lib.Seq.{length-take-le}
use mathlib.Core.Path.{◌≡◌, sym, subst}
use Prim.Native.Nat.{ℕ}
use native.Mathlib.Omega.{arith}
use Rattle.kmeans.proofs.restart.run_restart.Goals as goal

pub returns : goal.returns
returns c =
    let t = c.args.train.now in
    let r = t.rows in
    let k = t.plan.k in
    let places = c.pick.new.places in
    let lent : length (take r.count c.room-room.result) ≡ r.count = lent_front r.count 4096 c.room-room.result c.room-room.ensures t.trainable.few_rows in
    let picked : length (take k places) ≡ k = length-take-le k places (omega (arith, c.requires.1, c.pick.auto.places, lent)) in
    let first = subst (λ (d : ℕ). rows_from d k c.gather_rows.new.dst ≡ rows_at (rows_of r) (take k places)) t.trainable.as_planned (rw picked at c.gather_rows.ensures) in
    restarted _ _ _ t.plan r.count _ _ _ places (sym (rows_length r.dim r.count r.values.now)) (rw lent at c.pick.ensures.fact) first c.run_lloyd_iterations.ensures
