-- 01, 'Ranges and refusal numbers': what the code's answer tells, and what is told of it.
use Rattle.std.specs.Prelude.{ℕ, length}
use Rattle.grouping.specs.declared.waiting.Counts.{Counts}
use Rattle.grouping.specs.Groups.{Groups}

-- the numbers of groups, of splits and of unplaced rows summed over them, as the code counts them
abbrev pub counted : Counts → ℕ × ℕ × ℕ
counted c = (c.groups, c.splits, c.unplaced)

abbrev pub figures : Groups → ℕ × ℕ × ℕ
figures g = (length g.groups, g.splits, g.unplaced)
