use Rattle.sums.specs.Ordering.{keep}
use Rattle.std.proofs.Common.{refl, sym, ◌∙◌, length, arith, take_all}
use Rattle.sums.proofs.Refusing.{padded_none}
use Rattle.closure.proofs.Laws.{listed_in, passed_by}
use Rattle.closure.proofs.reach.select.Goals as goal
use Rattle.closure.proofs.reach.select.Goals.{then-distances-from, else-distances-from}

pub loop-p-init : goal.loop-p-init
unfolding keep
loop-p-init c = (omega arith, record { number = refl; listing = c.requires.cells_value ∙ sym (padded_none 65535 (length c.args.cells.now)) })

pub loop-p-preserved : goal.loop-p-preserved
loop-p-preserved c =
    let a = c.args in
    let i = c.loop-p.p-index in
    let turn = c.loop-p.invariant.1 in
    elim c.if-distances-from.branch [
      | then-distances-from w ↦ (
        omega (arith, w.n-is, c.loop-p.invariant.0),
        rw (w.cells-is, w.n-is) (listed_in a.reach a.distances.now a.at.now (length a.cells.now) i c.loop-p.n c.loop-p.cells turn c.loop-p-test.true (omega (arith, c.loop-p.invariant.0, c.requires.at_in_bounds)) (rw c.from.ensures at w.if-distances-from.true)),
      )
      | else-distances-from w ↦ (
        omega (arith, w.n-is, c.loop-p.invariant.0),
        rw (w.cells-is, w.n-is) (passed_by a.reach a.distances.now a.at.now (length a.cells.now) i c.loop-p.n c.loop-p.cells turn c.loop-p-test.true (rw c.from.ensures at w.if-distances-from.false)),
      )
    ]

pub returns : goal.returns
returns c =
    let e = take_all c.loop-p.p-index c.args.at.now (omega arith) in
    record { cells_after = rw e at c.loop-p.invariant.1.listing; value = rw e at c.loop-p.invariant.1.number }
