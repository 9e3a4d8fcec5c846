use Rattle.exports.proofs.Exporting.{group_gave}
use Rattle.exports.proofs.slices.families_group.Goals as goal

pub returns : goal.returns
returns c =
    let k = c.hierarchical_clustering-answer.ensures in
    rw (← c.settings_of-config.ensures) (record { fact = group_gave _ _ _ _ _ _ _ _ _ _ _ _ _ _ k.fact c.put_counts.ensures.value c.put_counts.ensures.groups_after; cleared = k.cleared })
