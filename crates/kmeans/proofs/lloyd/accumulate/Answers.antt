use Rattle.kmeans.proofs.Summing.{summing_step, summing_end}
use lib.Ieee.{of_bits}
use lib.ListN.{length}
use mathlib.Core.Path.{◌∙◌}
use Prim.Native.Nat.{◌<◌}
use native.Mathlib.Omega.{arith}
use Rattle.kmeans.proofs.lloyd.accumulate.Goals as goal

pub loop-i-preserved : goal.loop-i-preserved
loop-i-preserved c =
    let cluster : c.from-c.result < length c.fill.new.self = omega (arith, c.requires.below.0 c.loop-i.i c.loop-i-test.true, c.from-c.ensures, c.fill.auto.self) in
    summing_step c.loop-i.invariant c.from-c.result c.row.result.now c.add_row.new.sums c.requires.labels_len.0 c.loop-i-test.true c.from-c.ensures cluster c.add_row.auto.sums c.row.ensures c.add_row.ensures

pub returns : goal.returns
unfolding of_bits
returns c =
    let w = summing_end c.loop-i.invariant (length c.args.counts.now) (c.fill.ensures.after (λ y e. e)) (c.fill-2.ensures.after (λ y e. e) ∙ rw c.requires.labels_len.1) c.loop-i-test.false in
    record { counts_after = w.0; totals_after = w.1 }
