use Rattle.std.proofs.Common.{◌≡◌, ◌*◌, take}
use Rattle.sums.specs.Tables.{tabulate}
use Rattle.words.proofs.read_all.Given as goal

abbrev pub invariant-loop-i : goal.invariant-loop-i
invariant-loop-i g l = take l.i l.out ≡ tabulate (λ k. g.T.FromBytes.value l.bytes (k * g.T.FromBytes.SIZE)) l.i
