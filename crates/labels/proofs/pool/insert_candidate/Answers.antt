use Rattle.labels.proofs.Pools.{pooled_out, stays, goes_in}
use Rattle.sums.proofs.Inserts.{place_within}
use Rattle.labels.specs.Pool.{farther}
use Prim.Native.Nat.{◌≤◌}
use native.Mathlib.Omega.{arith}
use Rattle.labels.proofs.pool.insert_candidate.Goals as goal
use Rattle.labels.proofs.pool.insert_candidate.Goals.{After-min-last}

pub returns-then-to-cap : goal.returns-then-to-cap
returns-then-to-cap c =
    let a = c.args in let w = pooled_out (stays a.distances.now a.at.now a.count a.cap a.p c.requires.0 c.requires.1 (omega (arith, c.place-to.ensures, c.if-to-cap.true))) in
    record { at_after = w.0; at_unchanged = w.1 }

-- a place inside the cap is no later than where the shift ends
within : (c : After-min-last) → c.place-to.result ≤ c.min-last.result
within c =
    let a = c.args in
    omega
    (arith, place_within (farther a.distances.now) a.at.now a.count a.cap a.p c.requires.0.1.0 c.requires.0.1.1.0, c.place-to.ensures, c.if-to-cap.false, c.min-last.ensures, c.requires.0)

pub insert_at-requires : goal.insert_at-requires
insert_at-requires c = omega (arith, within (goal.at.insert_at-requires c).After-min-last, c.min-last.ensures, c.requires.0)

pub returns : goal.returns
returns c =
    let a = c.args in let w = pooled_out
    (goes_in a.distances.now a.at.now a.count a.cap a.p c.requires.0 c.requires.1 c.place-to.result c.min-last.result _ c.place-to.ensures (within (goal.at.returns c).After-min-last) c.min-last.ensures c.insert_at.ensures c.insert_at.auto.cells) in
    record { at_after = w.0; at_unchanged = w.1 }
