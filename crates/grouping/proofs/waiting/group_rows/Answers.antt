use Rattle.std.proofs.Common.{◌≡◌, ℕ, ◌≤◌, ◌<◌, ◌-◌, ◌+◌, Ok, Err, length, get_or, drop, arith, length-set}
use Rattle.grouping.proofs.States.{taken_by, clustering_start, clustering_list, clustering_refused, unspent, clustering_split, clustering_end, end_room, split_room, falls}
use Rattle.grouping.specs.Groups.{rule_of}
use Rattle.grouping.specs.PartsInside.{total}
use Rattle.grouping.specs.Inside.{Taken, pushes}
use Rattle.sums.proofs.Belows.{below_take, below_drop}
use Rattle.sums.specs.Table.{rows_of}
use borrow.Rule.Slice.PartMut.{mid_of, mid_len}
use Rattle.grouping.proofs.waiting.group_rows.Goals as goal
use Rattle.grouping.proofs.waiting.group_rows.Goals.{After-split_or_refuse, After-from-end}

-- the end taken
top_end : (c : After-from-end) → c.from-end.result ≡ get_or c.loop-top.waiting (c.loop-top.top - 1) 0
top_end c = c.from-end.ensures

-- the group taken lies inside
inside : (c : After-from-end) → (c.loop-top.start < c.from-end.result) × (c.from-end.result ≤ length c.args.order.now)
inside c = end_room c.loop-top.invariant c.loop-top-test.true c.loop-top.auto.order c.from-end.result (top_end c)

-- what became of the group, by the number of parts at the call's start
tried : (c : After-split_or_refuse) → let a = c.args in
    Taken a.config.mode (rule_of a.draws.now a.rows.dim (rows_of a.rows) (length a.sizes.now) a.config.weight a.config.spherical) a.config.budget c.loop-top.splits
    (mid_of c.loop-top.start (c.from-end.result - c.loop-top.start) c.loop-top.order) c.loop-top.drawn c.split_or_refuse.new.draws c.split_or_refuse.result c.split_or_refuse.new.part c.split_or_refuse.new.sizes
tried c = taken_by _ _ c.loop-top.invariant.lent c.loop-top.auto.sizes c.split_or_refuse.ensures

pub loop-top-init : goal.loop-top-init
loop-top-init c =
    let a = c.args in
    clustering_start a.config.mode a.draws.now a.rows (length a.sizes.now) a.config.weight a.config.spherical a.config.limit a.config.budget a.order.now c.requires.ends_len.0 c.requires.order_value.0 a.waiting.now a.ends.now
    c.min-top.result c.new-drawn.result c.requires.ends_len.1.1.1 c.requires.ends_len.1.0 c.requires.order_value.1.0 c.min-top.ensures c.new-drawn.ensures.lent c.new-drawn.ensures.start

pub overflow_sub-end : goal.overflow_sub-end
overflow_sub-end c = let r = inside (goal.at.overflow_sub-end c).After-from-end in omega (arith, r)

pub loop-top-preserved-then-end-start : goal.loop-top-preserved-then-end-start
loop-top-preserved-then-end-start c =
    clustering_list c.loop-top.invariant c.loop-top-test.true c.loop-top.auto.order c.from-end.result (top_end (goal.at.loop-top-preserved-then-end-start c).After-from-end) (omega (arith, c.if-end-start.true))

pub slice_bounds-split_or_refuse-end : goal.slice_bounds-split_or_refuse-end
slice_bounds-split_or_refuse-end c = let r = inside (goal.at.slice_bounds-split_or_refuse-end c).After-from-end in omega (arith, r, c.loop-top.auto.order)

pub split_or_refuse-requires-clause-part_len_bound : goal.split_or_refuse-requires-clause-part_len_bound
split_or_refuse-requires-clause-part_len_bound c =
    let n = length c.args.order.now in
    let size = c.from-end.result - c.loop-top.start in
    let r = inside (goal.at.split_or_refuse-requires-clause-part_len_bound c).After-from-end in
    let m = mid_len c.loop-top.start c.from-end.result c.loop-top.order (omega (arith, r, c.loop-top.auto.order)) in
    rw c.requires.ends_len.0
    (rw m (omega (arith, r)), below_take n size (drop c.loop-top.start c.loop-top.order) (below_drop n c.loop-top.start c.loop-top.order c.loop-top.invariant.below))

pub returns-in_err-lost : goal.returns-in_err-lost
returns-in_err-lost c =
    let h : c.from_residual.result ≡ Err c.in_err-lost.field-0.0 = grind arith in
    rw h
    (clustering_refused c.loop-top.invariant c.loop-top-test.true c.loop-top.auto.order c.from-end.result (top_end (goal.at.returns-in_err-lost c).After-from-end) (tried (goal.at.returns-in_err-lost c).After-split_or_refuse)
    (omega (arith, c.if-end-start.false)) c.in_err-lost.field-0.0 c.in_err-lost.was _)

-- the parts' ends have room on the stack
room_left : (c : After-split_or_refuse) → (lost : ℕ) → c.split_or_refuse.result ≡ Ok lost
    → (c.loop-top.top - 1 + length (pushes c.from-end.result c.split_or_refuse.new.sizes) ≤ length c.args.order.now) × (total c.split_or_refuse.new.sizes ≤ c.from-end.result)
room_left c lost is = split_room c.loop-top.invariant c.loop-top-test.true c.loop-top.auto.order c.from-end.result c.from-end.ensures (tried c) lost is c.split_or_refuse.auto.part

pub push-top-requires : goal.push-top-requires
push-top-requires c =
    let r = room_left (goal.at.push-top-requires c).After-split_or_refuse c.in_ok-lost.lost c.in_ok-lost.was in
    (omega (arith, r.0, c.loop-top.auto.waiting, length-set c.args.waiting.now 0 (length c.args.order.now), c.requires.ends_len.1.0), (r.1, omega (arith, (inside (goal.at.push-top-requires c).After-from-end).1, c.requires.room.limits.1.1)))

pub loop-top-smaller : goal.loop-top-smaller
loop-top-smaller c =
    let t = (goal.at.loop-top-smaller c).After-split_or_refuse in
    let left = unspent c.loop-top.invariant c.loop-top-test.true c.loop-top.auto.order c.from-end.result c.from-end.ensures (tried t) c.in_ok-lost.lost c.in_ok-lost.was c.split_or_refuse.auto.part in
    falls c.args.config.budget c.loop-top.splits c.loop-top.top c.push-top.result _ (length c.args.order.now) left c.push-top.ensures.0 (room_left t c.in_ok-lost.lost c.in_ok-lost.was).0 (omega (arith, c.requires.ends_len.0, c.requires.room.limits.1.1))

pub loop-top-preserved : goal.loop-top-preserved
loop-top-preserved c =
    clustering_split c.loop-top.invariant c.loop-top-test.true c.loop-top.auto.order c.from-end.result c.from-end.ensures (tried (goal.at.loop-top-preserved c).After-split_or_refuse) c.in_ok-lost.lost c.in_ok-lost.was
    c.split_or_refuse.auto.part c.requires.room.limits.1.0.0 (omega (arith, c.requires.ends_len.0, c.requires.room.limits.1.1)) (omega (arith, c.if-end-start.false)) c.push-top.new.waiting c.push-top.result c.push-top.ensures.0 c.push-top.ensures.1

pub returns : goal.returns
returns c = clustering_end c.loop-top.invariant c.loop-top-test.false
