use Rattle.exports.proofs.Exporting.{numbers_gave}
use Rattle.exports.proofs.result_file.families_result_numbers.Goals as goal

pub returns : goal.returns
returns c = numbers_gave _ c.result_numbers-numbers.result _ _ _ _ c.result_numbers-numbers.ensures c.put_numbers.ensures.value c.put_numbers.ensures.rows_after
