use Rattle.exports.proofs.Exporting.{numbers_gave}
use Rattle.exports.proofs.result_file.families_read_result.Goals as goal

pub returns : goal.returns
returns c = (numbers_gave _ c.read_result-read.result _ _ _ _ c.read_result-read.ensures.result c.put_numbers.ensures.value c.put_numbers.ensures.rows_after, (c.read_result-read.ensures.ordered, (c.read_result-read.ensures.ended, c.read_result-read.ensures.meant)))
