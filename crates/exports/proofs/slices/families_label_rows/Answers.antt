use Rattle.exports.proofs.Exporting.{label_gave}
use Rattle.exports.proofs.slices.families_label_rows.Goals as goal

pub returns : goal.returns
returns c = label_gave _ _ _ _ _ _ c.label_rows-answer.ensures c.put_unplaced.ensures.value c.put_unplaced.ensures.unplaced_after
