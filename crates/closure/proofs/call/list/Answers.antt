use mathlib.Core.Path.{◌≡◌, sym, ◌∙◌}
use mathlib.Core.Bool.{true, false}
use lib.ListN.{length, take}
use lib.Seq.{length-take-le}
use Rattle.closure.specs.Closure.{in_reach, unordered}
use Rattle.sums.specs.Table.{rows_of}
use Rattle.sums.proofs.Orders.{keep_le}
use Rattle.closure.proofs.Laws.{is_closure, answered_nan, answered_list, gives_refused, gives_list}
use native.Mathlib.Omega.{arith}
use Rattle.sums.specs.declared.refusals.Refusal.TheVariants.{Unordered}
use Rattle.closure.proofs.call.list.Goals as goal
use Rattle.closure.proofs.call.list.Goals.{After-order, After-min-most}

-- the positions, once ordered
placed : (c : After-order) → length c.order.new.at ≡ length c.args.cells.now
placed c = c.order.auto.at ∙ c.requires.centroids_len.1.1.1

-- how many of them are looked at
looked : (c : After-min-most) → length (take c.min-most.result c.order.new.at) ≡ c.min-most.result
looked c = length-take-le c.min-most.result c.order.new.at (omega (arith, c.min-most.ensures))

pub returns-then-unordered : goal.returns-then-unordered
returns-then-unordered c =
    let a = c.args in
    let nan : unordered c.fill_distances.new.out ≡ true = sym c.unordered.ensures ∙ c.if-unordered.true in
    rw (answered_nan a.epsilon a.replicas a.vector.now _ (rw c.fill_distances.ensures at nan)) (gives_refused Unordered (length a.cells.now) a.cells.now c.requires.cells_value)

pub overflow_cast-result : goal.overflow_cast-result
overflow_cast-result c = record { fits = omega (arith, c.select-n.ensures.value, keep_le (in_reach c.new-within.result c.fill_distances.new.out) (take c.min-most.result c.order.new.at), looked (goal.at.overflow_cast-result c).After-min-most, c.min-most.ensures, placed (goal.at.overflow_cast-result c).After-order, c.requires.cells_nonzero.1) }

pub returns : goal.returns
returns c =
    let a = c.args in
    let ds = c.fill_distances.new.out in
    let ordered : unordered ds ≡ false = sym c.unordered.ensures ∙ c.if-unordered.false in
    let found = is_closure a.vector.now (rows_of a.centroids) a.epsilon a.replicas ds c.order.new.at c.new-within.result c.min-most.result c.from.result c.fill_distances.ensures
    c.from.ensures c.new-within.ensures c.min-most.ensures (omega (arith, placed (goal.at.returns c).After-order, c.requires.cells_nonzero.0)) c.order.ensures.at_after in
    rw (answered_list a.epsilon a.replicas a.vector.now (rows_of a.centroids) (rw c.fill_distances.ensures at ordered))
    (gives_list _ _ (length a.cells.now) c.select-n.result _ found c.select-n.ensures.value c.select-n.ensures.cells_after)
