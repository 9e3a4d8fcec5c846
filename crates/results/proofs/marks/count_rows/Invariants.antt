use Rattle.std.proofs.Common.{◌≡◌, length, take, drop}
use Rattle.results.specs.Grouping.{all_below, times_each}
use Rattle.results.proofs.marks.count_rows.Given as goal

abbrev pub invariant-loop-listed : goal.invariant-loop-listed
invariant-loop-listed l =
    record {
      below : all_below (length l.initial.seen) (drop l.listed-index l.order) ≡ all_below (length l.initial.seen) l.order;
      counted : l.seen ≡ times_each (length l.initial.seen) (take l.listed-index l.order);
    }
