use Rattle.std.proofs.Common.{refl, rules}
use mathlib.Core.List.{flat_map}
use native.Mathlib.Nat.{zero-mul}
use Rattle.words.proofs.Blocks.{block_more}
use Rattle.words.proofs.put_all.Goals as goal

pub loop-i-init : goal.loop-i-init
unfolding flat_map
loop-i-init g c = rw (zero-mul g.T.ToBytes.SIZE) refl

pub loop-i-preserved : goal.loop-i-preserved
loop-i-preserved g c =
    let t = g.T.ToBytes in
    let put = rw c.SIZE.ensures at c.put_at.ensures in
    block_more t.bytes t.SIZE g.met.T.ToBytes.sized c.args.cells.now c.loop-i.out _ c.loop-i.i _ c.loop-i.invariant (search rules) c.loop-i-test.true c.index-cells-i.is put
