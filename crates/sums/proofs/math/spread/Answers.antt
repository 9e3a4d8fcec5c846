use Rattle.std.proofs.lemmas.Iterator.{empty_from_Zip}
use Rattle.sums.specs.Sums.{sum_from}
use Rattle.sums.proofs.math.spread.Goals as goal

pub returns : goal.returns
unfolding sum_from
returns c =
    let e = empty_from_Zip _ c.next.new.self _ c.in-None.is c.next.ensures.steps c.loop-x.invariant.0 in
    rw e.0 at c.loop-x.invariant.1
