use Rattle.exports.proofs.Exporting.{write_gave}
use Rattle.exports.proofs.result_file.families_write_result.Goals as goal

pub returns : goal.returns
returns c = write_gave _ _ c.write_result-answer.result _ _ c.write_result-answer.ensures c.code.ensures
