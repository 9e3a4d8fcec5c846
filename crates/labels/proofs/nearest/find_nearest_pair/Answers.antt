use Rattle.std.proofs.Common.{◌≡◌, ◌≤◌, ◌+◌, ◌*◌, min, length, refl, arith}
use lib.Ieee.{of_bits}
use Rattle.labels.specs.Label.{nearest_from}
use Rattle.labels.proofs.Searches.{panel_scores, panel_more}
use Rattle.labels.proofs.nearest.find_nearest_pair.Goals as goal
use Rattle.labels.proofs.nearest.find_nearest_pair.Goals.{In-loop-g}

pub loop-g-init : goal.loop-g-init
unfolding nearest_from of_bits
loop-g-init c =
    let e : min (16 * 0) (length c.args.norms.now) ≡ 0 = omega arith in
    (rw e, rw e)

pub loop-g-preserved : goal.loop-g-preserved
loop-g-preserved c =
    let a = c.args in
    let k = length a.norms.now in
    let wide = 16 * length a.row.now in
    let w : wide ≡ 16 * length a.second.now = omega (arith, c.requires.second_len.0) in
    let small : c.min-count.result ≤ 16 = omega (arith, c.min-count.ensures) in
    let before : min (16 * c.loop-g.g) k ≡ 16 * c.loop-g.g = omega arith in
    let after : min (16 * (c.loop-g.g + 1)) k ≡ 16 * c.loop-g.g + c.min-count.result = omega (arith, c.min-count.ensures) in
    let seen = rw before at c.loop-g.invariant in
    rw after (
      panel_more a.row.now a.rownorm a.panels.now a.norms.now _ c.loop-g.g c.min-count.result wide _ _ small refl c.dots16_pair-dots.ensures.0 seen.0 c.scan16_pair-best.ensures.first_value,
      panel_more a.second.now a.secondnorm a.panels.now a.norms.now _ c.loop-g.g c.min-count.result wide _ _ small w c.dots16_pair-dots.ensures.1 seen.1 c.scan16_pair-best.ensures.second_value,
    )

pub returns : goal.returns
returns c =
    let a = c.args in
    let e : min (16 * c.loop-g.g) (length a.norms.now) ≡ length a.norms.now = omega arith in
    let seen = rw e at c.loop-g.invariant in
    record { first_value = rw (panel_scores a.row.now a.rownorm a.panels.now a.norms.now) seen.0; second_value = rw (panel_scores a.second.now a.secondnorm a.panels.now a.norms.now) seen.1 }
