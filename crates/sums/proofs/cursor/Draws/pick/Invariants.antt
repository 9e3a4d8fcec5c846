use Rattle.sums.proofs.Picks.{Picking}
use Rattle.std.proofs.Common.{◌≡◌, length}
use Rattle.sums.proofs.cursor.Draws.pick.Given as goal

abbrev pub invariant-loop-i : goal.invariant-loop-i
invariant-loop-i l = (l.m ≡ length l.initial.places) × Picking l.initial.self l.count l.m l.places l.self l.i
