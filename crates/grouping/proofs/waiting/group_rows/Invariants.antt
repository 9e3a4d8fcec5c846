use Rattle.grouping.proofs.States.{Clustering}
use Rattle.grouping.specs.Groups.{rule_of}
use Rattle.sums.specs.Table.{rows_of}
use lib.ListN.{length}
use Prim.Native.Nat.{◌-◌, ◌+◌, ◌*◌}
use Rattle.grouping.proofs.waiting.group_rows.Given as goal

abbrev pub invariant-loop-top : goal.invariant-loop-top
invariant-loop-top l =
    Clustering l.config.mode (rule_of l.draws l.rows.dim (rows_of l.rows) (length l.initial.sizes) l.config.weight l.config.spherical) l.config.limit l.config.budget (length l.initial.order)
    l.order l.waiting l.ends l.top l.groups l.splits l.unplaced l.start l.drawn

abbrev pub decreases-loop-top : goal.decreases-loop-top
decreases-loop-top l = (l.config.budget - l.splits) * 65536 + l.top
