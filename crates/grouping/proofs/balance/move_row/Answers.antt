use Rattle.grouping.proofs.Moves.{two_sizes, carried_moved}
use Rattle.grouping.proofs.Rounds.{moved_sized}
use mathlib.Core.Path.{◌∙◌}
use lib.Seq.{get_or-set_other}
use lib.ListN.{get_or}
use Prim.Native.Nat.{◌-◌, ◌+◌}
use native.Mathlib.Omega.{arith}
use Rattle.grouping.proofs.balance.move_row.Goals as goal

pub overflow_add-sizes : goal.overflow_add-sizes
overflow_add-sizes c =
    rw (get_or-set_other c.args.sizes.now c.args.g c.args.r _ 0 c.requires.g_in_bounds.2)
    (omega (arith, two_sizes c.args.sizes.now c.args.r c.args.g c.requires.g_in_bounds.1 c.requires.g_in_bounds.0 c.requires.g_in_bounds.2))

pub returns : goal.returns
returns c =
    λ ps laid.
    let a = c.args in (
      c.carry.ensures
          ∙ carried_moved a.part.now a.sizes.now ps laid.0 laid.1 a.g a.r a.j
          (c.start_of.result + a.j)
          (c.start_of-2.result + c.from.result)
          c.requires.g_in_bounds.0 c.requires.g_in_bounds.1 c.requires.g_in_bounds.2 c.requires.g_in_bounds.3 (omega arith) (omega arith),
      moved_sized a.part.now a.sizes.now a.g a.r c.requires.g_in_bounds.0 c.requires.g_in_bounds.1 c.requires.g_in_bounds.2 ps laid a.j c.requires.g_in_bounds.3 _
          (rw (get_or-set_other a.sizes.now a.g a.r (get_or a.sizes.now a.g 0 - 1) 0 c.requires.g_in_bounds.2)),
    )
