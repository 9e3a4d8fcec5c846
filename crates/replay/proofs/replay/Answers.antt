use mathlib.Core.Path.{◌≡◌, sym, ◌∙◌}
use Rattle.replay.specs.Replay.{replayed}
use Rattle.replay.proofs.Agreeing.{agreeing_in, one_more, count_on, count_end}
use native.Mathlib.Omega.{arith}
use Rattle.replay.proofs.replay.Goals as goal

pub loop-record-preserved-then-agrees : goal.loop-record-preserved-then-agrees
loop-record-preserved-then-agrees c =
    let s = c.in-Some.ensures.steps in
    let l = s.1.1 ∙ c.loop-record.invariant.0 in
    let more = one_more _ _ _ s.1.0 l in
    let on = rw (sym c.agrees.ensures ∙ c.if-agrees.true) at (count_on _ _ _ s.1.0 l) in
    (s.0 ∙ c.loop-record.invariant.0, (omega (arith, more, c.loop-record.invariant.1.0), omega (arith, on, c.loop-record.invariant.1.1)))

pub loop-record-preserved : goal.loop-record-preserved
loop-record-preserved c =
    let s = c.in-Some.ensures.steps in
    let l = s.1.1 ∙ c.loop-record.invariant.0 in
    let more = one_more _ _ _ s.1.0 l in
    let on = rw (sym c.agrees.ensures ∙ c.if-agrees.false) at (count_on _ _ _ s.1.0 l) in
    (s.0 ∙ c.loop-record.invariant.0, (omega (arith, more, c.loop-record.invariant.1.0), omega (arith, on, c.loop-record.invariant.1.1)))

pub overflow_add-agree : goal.overflow_add-agree
overflow_add-agree c =
    let s = c.in-Some.ensures.steps in
    let more = one_more _ _ _ s.1.0 (s.1.1 ∙ c.loop-record.invariant.0) in
    omega (arith, more, c.loop-record.invariant.1.0)

pub returns : goal.returns
unfolding replayed
returns c =
    let end = count_end c.loop-record.record-iterator.rest.now (omega (arith, c.in-None.ensures.steps.1.0, c.loop-record.invariant.0)) in
    let e : c.loop-record.agree ≡ agreeing_in c.args.sample.now = omega (arith, end, c.loop-record.invariant.1.1) in
    rw e
