use Rattle.exports.proofs.Exporting.{kmeans_gave}
use Rattle.exports.proofs.slices.families_kmeans.Goals as goal

pub returns : goal.returns
returns c =
    let k = c.run_kmeans_with_config-answer.ensures in
    rw (← c.config_of-config.ensures) (record { fact = kmeans_gave _ _ _ _ _ _ _ _ _ _ k.fact c.put_kept.ensures.value c.put_kept.ensures.objective_after; cleared = k.cleared })
