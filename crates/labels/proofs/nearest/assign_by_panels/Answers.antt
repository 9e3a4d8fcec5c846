use Rattle.std.proofs.Common.{ℕ, ◌+◌, ◌-◌, ◌*◌, ◌<◌, ◌≡◌, Option, length, sym, ap, ◌∙◌, arith}
use Rattle.labels.specs.declared.nearest.Nearest.{Nearest}
use Rattle.labels.specs.Label.{placement}
use Rattle.labels.specs.Inside.{placed_by}
use Rattle.labels.proofs.Assigns.{assigning_start, assigning_step, assigning_end}
use Rattle.labels.proofs.nearest.assign_by_panels.Goals as goal

pub loop-pair-init : goal.loop-pair-init
loop-pair-init c = assigning_start _ _ _ (c.requires.labels_len.1.0 ∙ sym c.requires.labels_len.0)

pub loop-pair-preserved : goal.loop-pair-preserved
loop-pair-preserved c =
    let i = 2 * c.loop-pair.pair in
    let f : ℕ → Option Nearest = placed_by c.args.rows c.args.rownorms.now c.args.panels.now c.args.norms.now in
    let l : i + 1 < length c.args.labels.now = omega (arith, c.loop-pair-test.true, c.loop-pair.invariant.labels_sized) in
    let first : c.placement_of.result ≡ f i = c.placement_of.ensures ∙ ap placement (c.find_nearest_pair-found.ensures.first_value ∙ rw c.row-row.ensures) in
    let second : c.placement_of-in-loop-pair.result ≡ f (i + 1) = c.placement_of-in-loop-pair.ensures ∙ ap placement (c.find_nearest_pair-found.ensures.second_value ∙ rw c.row-second.ensures) in
    let next : 2 * (c.loop-pair.pair + 1) ≡ i + 1 + 1 = omega arith in
    let p = c.put-tally.ensures in
    let q = c.put-tally-in-loop-pair.ensures in
    rw next (assigning_step (assigning_step c.loop-pair.invariant _ (omega arith) first p.labels_after.0 p.labels_after.1 p.same_value.0 p.same_value.1.0 p.same_value.1.1) _ l second q.labels_after.0 q.labels_after.1 q.same_value.0 q.same_value.1.0 q.same_value.1.1)

pub returns-then-labels-eq1 : goal.returns-then-labels-eq1
returns-then-labels-eq1 c =
    let n = length c.args.labels.now in
    let last : 2 * c.loop-pair.pair ≡ n - 1 = omega (arith, c.if-labels-eq1.true, c.loop-pair-test.false, c.loop-pair.invariant.labels_sized) in
    let l : n - 1 < n = omega (arith, c.if-labels-eq1.true, c.loop-pair.invariant.labels_sized) in
    let p = c.put.ensures in
    assigning_end (assigning_step (rw last at c.loop-pair.invariant) c.placement_of-then-labels-eq1.result l (c.placement_of-then-labels-eq1.ensures ∙ ap placement (c.find_nearest_pair-found-then-labels-eq1.ensures.first_value ∙ rw (c.row-row-then-labels-eq1.ensures, c.loop-pair.invariant.labels_sized))) (rw c.loop-pair.invariant.labels_sized at p.labels_after.0) (rw c.loop-pair.invariant.labels_sized at p.labels_after.1) (rw c.loop-pair.invariant.labels_sized at p.same_value.0) p.same_value.1.0 (rw c.loop-pair.invariant.labels_sized at p.same_value.1.1)) (omega arith)

pub returns : goal.returns
returns c = assigning_end c.loop-pair.invariant (omega (arith, c.if-labels-eq1.false, c.loop-pair-test.false, c.loop-pair.invariant.labels_sized))
