use Rattle.std.proofs.Common.{◌≡◌, ◌*◌, take}
use mathlib.Core.List.{flat_map}
use Rattle.words.proofs.put_all.Given as goal

abbrev pub invariant-loop-i : goal.invariant-loop-i
invariant-loop-i g l = take (l.i * g.T.ToBytes.SIZE) l.out ≡ flat_map g.T.ToBytes.bytes (take l.i l.cells)
