use Prim.Native.Nat.{◌+◌, ◌/◌, ◌≤◌}
use mathlib.Core.Path.{◌≡◌}
use lib.ListN.{length}
use Rattle.replay.proofs.Agreeing.{agreeing_in}
use Rattle.replay.proofs.replay.Given as goal

abbrev pub invariant-loop-record : goal.invariant-loop-record
invariant-loop-record l =
    let rest = l.record-iterator.rest.now in
    (l.record-iterator.size ≡ 384) × ((l.agree + length rest / 384 ≤ length l.sample / 384) × (l.agree + agreeing_in rest ≡ agreeing_in l.sample))
