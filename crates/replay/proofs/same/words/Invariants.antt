use lib.ListN.{length, drop}
use mathlib.Core.Path.{◌≡◌}
use mathlib.Core.List.{map}
use Rattle.sums.specs.Refusals.{same_all}
use Rattle.words.specs.Bytes.{words_from}
use Rattle.replay.proofs.same.words.Given as goal

abbrev pub invariant-loop-i : goal.invariant-loop-i
invariant-loop-i g l = same_all (drop l.i (map g.T.Word.of l.values)) (drop l.i (words_from (length l.values) l.stored)) ≡ same_all (map g.T.Word.of l.values) (words_from (length l.values) l.stored)
