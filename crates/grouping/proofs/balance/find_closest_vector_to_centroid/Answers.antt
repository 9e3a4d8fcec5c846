use Rattle.grouping.proofs.Nearest.{searching_start, searching_end, searching_closer, searching_on, row_named}
use Rattle.sums.specs.Rows.{Row}
use Rattle.sums.specs.Sums.{apart_of}
use mathlib.Core.Path.{ap, ◌∙◌}
use native.Mathlib.Omega.{arith}
use Rattle.grouping.proofs.balance.find_closest_vector_to_centroid.Goals as goal
use Rattle.grouping.proofs.balance.find_closest_vector_to_centroid.Goals.{then-apart-best, else-apart-best}

pub loop-i-init : goal.loop-i-init
loop-i-init c =
    searching_start _ _ _ _ c.requires.1.0
    (c.l2_distance_sqr-best.ensures ∙ ap (λ (row : Row). apart_of row c.args.centroid.now) (c.row-first.ensures ∙ row_named c.args.rows c.args.part.now c.requires.1.1 0 c.row_place.result c.requires.1.0 c.row_place.ensures.0))

pub loop-i-preserved : goal.loop-i-preserved
loop-i-preserved c =
    let e = c.l2_distance_sqr-apart.ensures
    ∙ ap (λ (row : Row). apart_of row c.args.centroid.now) (c.row-row.ensures ∙ row_named c.args.rows c.args.part.now c.requires.1.1 c.loop-i.i c.row_place-in-loop-i.result (omega arith) c.row_place-in-loop-i.ensures.0) in
    elim c.if-apart-best.branch [
      | then-apart-best w ↦ rw (w.best-is, w.place-is) (searching_closer c.loop-i.invariant (omega arith) _ e w.if-apart-best.true)
      | else-apart-best w ↦ rw (w.best-is, w.place-is) (searching_on c.loop-i.invariant (omega arith) _ e w.if-apart-best.false)
    ]

pub returns : goal.returns
returns c = (searching_end c.loop-i.invariant (omega arith), c.loop-i.invariant.inside)
