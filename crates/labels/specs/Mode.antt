-- 02 (iii): what refuses a call because of its unplaced rows.
use Rattle.std.specs.Prelude.{ℕ, zero, suc}
use Rattle.labels.specs.declared.mode.Mode.{Mode}
use Rattle.labels.specs.declared.mode.Mode.TheVariants.{Strict, OldWay}

-- 9 where a row is unplaced and the caller does not ask for the old way; 0 is no refusal
unfoldable pub unplaced_refusal : Mode → ℕ → ℕ
unplaced_refusal Strict zero = 0
unplaced_refusal Strict (suc n) = 9
unplaced_refusal OldWay n = 0
