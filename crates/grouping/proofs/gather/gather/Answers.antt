use Rattle.grouping.proofs.Gathers.{gathering_start, gathering_end, gathering_room, gathering_step}
use borrow.Rule.Slice.PartMut.{same_len_mid}
use lib.ListN.{length, length-take, length-drop}
use Prim.Native.Nat.{ℕ, ◌-◌}
use native.Mathlib.Omega.{arith}
use Rattle.grouping.proofs.gather.gather.Goals as goal

pub loop-c-init : goal.loop-c-init
loop-c-init c = gathering_start _ _ _ _ c.requires.1.0

pub rows_with_label-n-requires : goal.rows_with_label-n-requires
rows_with_label-n-requires c =
    let r = gathering_room c.requires.0 c.requires.1.1.1 c.loop-c.invariant (c.loop-c.c - 1) (omega arith) in
    (c.requires.0, simp (length-take, length-drop) (omega arith))

pub loop-c-preserved : goal.loop-c-preserved
loop-c-preserved c =
    gathering_step c.requires.0 c.requires.1.1.1 c.loop-c.invariant (c.loop-c.c - 1) (omega arith) (length c.loop-c.part - c.loop-c.at) _ c.rows_with_label-n.new.dst _ c.rows_with_label-n.ensures.0 c.rows_with_label-n.ensures.1
    (same_len_mid {X = ℕ} c.loop-c.at (length c.loop-c.part - c.loop-c.at) c.loop-c.part c.rows_with_label-n.new.dst c.rows_with_label-n.auto.dst)

pub returns : goal.returns
returns c = gathering_end c.requires.0 c.requires.1.1.1 c.loop-c.invariant (omega arith)
