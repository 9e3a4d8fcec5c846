-- Grouping on what a caller lends (01, 'Ranges and refusal numbers'). Lengths stand for the lent slices.
use Rattle.std.specs.Prelude.{◌≡◌, Bool, true, ◌&&◌, ℕ, ◌*◌, length, Float, Result}
use mathlib.Core.List.{List, [], ◌∷◌, flat_map, flatten}
use Rattle.sums.specs.Rows.{Row, rows_from}
use Rattle.sums.specs.Sums.{zero32}
use Rattle.sums.specs.Refusals.{Answer, within, same_all, lowest, unless, on_accepted, cells_of, blank_cell}
use Rattle.grouping.specs.declared.config.GroupingConfig.{GroupingConfig}
use Rattle.sums.specs.Refused.{told}
use Rattle.sums.specs.declared.refusals.Refusal.{Refusal}
use Rattle.grouping.specs.declared.waiting.Counts.{Counts}
use Rattle.grouping.specs.Answers.{counted, figures}
use Rattle.grouping.specs.Groups.{rule_of, Groups, grouping, ends_from, mean_of}

unfoldable pub ranges_fit : ℕ → ℕ → GroupingConfig → Bool
ranges_fit rows dim config = within 0 4096 rows && within 1 64 dim && within 0 4096 config.limit && within 1 64 config.branching && within 0 8192 config.budget

-- the lengths of what is lent: the row order, the group ends and the means; then the work slices, in docs/BUFFERS.md's order
abbrev pub lengths_of : ℕ → ℕ → List ℕ
lengths_of rows dim = rows ∷ rows ∷ rows * dim ∷ rows * dim ∷ rows * dim ∷ []

unfoldable pub lengths_fit : ℕ → ℕ → ℕ → List ℕ → Bool
lengths_fit rows dim values lent = same_all (values ∷ lent) (rows * dim ∷ lengths_of rows dim)

-- 1: a number out of range; 2: a slice is not as long as they say; 4: no draws, or more than 4,096; 3 is k-means' alone
unfoldable pub grouping_refusal : ℕ → ℕ → GroupingConfig → ℕ → ℕ → List ℕ → ℕ
grouping_refusal rows dim config draws values lent = lowest (ranges_fit rows dim config ∷ lengths_fit rows dim values lent ∷ true ∷ within 1 4096 draws ∷ [])

unfoldable pub grouping_call : ℕ → ℕ → GroupingConfig → List ℕ → List Float → List ℕ → Answer Groups
grouping_call rows dim config draws values lent =
    unless (grouping_refusal rows dim config (length draws) (length values) lent)
    (grouping config.mode (rule_of draws dim (rows_from dim rows values) config.branching config.weight config.spherical) config.limit config.budget)

-- a call's whole result: the answer, the row order, the group ends and the means
pub record Gives (answer : Answer Groups) (dim : ℕ) (rows : List Row) (order_room end_room mean_room : ℕ) (r : Result Counts Refusal) (order ends : List ℕ) (means : List Float) : Type 0 where
  pub result : told counted r ≡ on_accepted figures answer
  pub ordered : order ≡ cells_of blank_cell order_room (λ (g : Groups). flatten g.groups) answer
  pub ended : ends ≡ cells_of blank_cell end_room (λ (g : Groups). ends_from 0 g.groups) answer
  pub meant : means ≡ cells_of zero32 mean_room (λ (g : Groups). flat_map (mean_of dim rows) g.groups) answer
