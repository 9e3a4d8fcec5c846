use Prim.Native.Nat.{ℕ}
use mathlib.Core.Path.{◌≡◌, ap, ◌∙◌}
use lib.ListN.{replicate}
use Rattle.sums.proofs.Fronts.{lent_front}
use Rattle.kmeans.proofs.Alikes.{sum_one}
use Rattle.kmeans.proofs.alike.sum_of.Goals as goal

pub returns : goal.returns
returns c =
    let n = c.args.rows.count in
    let zeros : c.fill.new.self ≡ replicate n 0 = c.fill.ensures.after (λ y e. e) ∙ ap (λ (m : ℕ). replicate m 0) (lent_front n 4096 c.room-room.result c.room-room.ensures c.requires.0) in
    sum_one c.args.rows _ _ zeros (c.accumulate.auto.totals ∙ c.requires.1) c.accumulate.ensures.totals_after
