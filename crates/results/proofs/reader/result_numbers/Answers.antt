use mathlib.Core.Path.{sym, ◌∙◌}
use Rattle.results.proofs.Answers.{numbers_refused, numbers_read, short_not}
use Rattle.results.proofs.reader.result_numbers.Goals as goal

pub returns-then-file-lt24 : goal.returns-then-file-lt24
returns-then-file-lt24 c = numbers_refused c.args.file.now (short_not c.args.file.now c.if-file-lt24.true)

pub returns-then-not-is_result : goal.returns-then-not-is_result
returns-then-not-is_result c = numbers_refused c.args.file.now (sym (c.if-not-is_result.true) ∙ c.is_result.ensures)

pub returns : goal.returns
returns c = numbers_read c.args.file.now c.read_at-rows.result c.read_at-dim.result c.read_at-groups.result c.read_at-rows.ensures c.read_at-dim.ensures c.read_at-groups.ensures (sym c.is_result.ensures ∙ c.if-not-is_result.false)
