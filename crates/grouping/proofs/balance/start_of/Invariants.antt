use Rattle.std.proofs.Common.{◌≡◌, ◌+◌, ◌<◌, drop}
use Rattle.grouping.specs.PartsInside.{total}
use Rattle.grouping.proofs.balance.start_of.Given as goal

abbrev pub invariant-loop-size : goal.invariant-loop-size
invariant-loop-size l = (l.sum + total (drop l.size-index l.size-items) ≡ total (drop (l.c + 1) l.sizes)) × (total (drop (l.c + 1) l.sizes) < 65536)
