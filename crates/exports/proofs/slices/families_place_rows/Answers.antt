use Rattle.exports.proofs.Exporting.{label_gave}
use Rattle.exports.proofs.slices.families_place_rows.Goals as goal

pub returns : goal.returns
returns c = (label_gave _ _ _ _ _ _ c.place_rows-answer.ensures.fact c.put_unplaced.ensures.value c.put_unplaced.ensures.unplaced_after, c.place_rows-answer.ensures.distances_after)
