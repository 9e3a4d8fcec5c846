-- What the functions inside say of their slices.
use Rattle.std.specs.Prelude.{◌≡◌, ℕ, zero, suc, ◌-◌, ◌*◌, ◌≤◌, ◌<◌, length, Result, Ok}
use mathlib.Core.List.{List, [], ◌∷◌, flatten}
use Rattle.sums.specs.Cells.{Below}
use Rattle.sums.specs.Draws.{cursor_at}
use Rattle.sums.specs.declared.cursor.Draws.{Draws}
use Rattle.sums.specs.declared.readings.Rows.{Rows}
use Rattle.sums.specs.declared.refusals.Refusal.{Refusal}
use Rattle.sums.specs.Refused.{told, number_in}
use Rattle.sums.specs.Refusals.{Answer, accepted, on_accepted, padded, blank_cell}
use Rattle.labels.specs.declared.mode.Mode.{Mode}
use Rattle.labels.specs.Mode.{unplaced_refusal}
use Rattle.kmeans.specs.Inside.{Limits}
use Rattle.grouping.specs.declared.split.Divided.{Divided}
use Rattle.grouping.specs.declared.waiting.Counts.{Counts}
use Rattle.grouping.specs.Groups.{Rule, Groups, parts_of, made_by, lost_by, ends_from}
use Rattle.grouping.specs.PartsInside.{Laid}
use Rattle.grouping.specs.Answers.{counted, figures}

-- 01's ranges, and room for so many rows: how long the rows gathered and the training rows are
abbrev pub Room : Rows → ℕ → ℕ → ℕ → Type 0
Room rows k gathered training =
    record { limits : Limits rows.dim k rows.count; gathered_cells : gathered ≡ rows.count * rows.dim; training_cells : training ≡ rows.count * rows.dim }

-- what became of a group whose k-means was run: how many of its rows are unplaced (02 (ii)), no more than there may be, and the number that they refuse it
-- by, 0 for none (02 (iii)). And then its stretch holds the parts (01, 'Grouping'), with their sizes. The draws stand where k-means left them.
pub record Split (mode : Mode) (rule : Rule) (group : List ℕ) (old new : Draws) (r : Divided) (part sizes : List ℕ) : Type 0 where
  pub kept : new.list.now ≡ old.list.now
  pub few : r.unplaced ≤ 4096
  pub steps : (n : ℕ) → old.cursor ≡ cursor_at rule.draws n
      → ((number_in r.done ≡ unplaced_refusal mode (lost_by rule n group)) × (number_in r.done ≡ 0 → Laid (parts_of rule n group) part sizes))
      × ((new.cursor ≡ cursor_at rule.draws (made_by rule n group)) × (r.unplaced ≡ lost_by rule n group))

-- the same where the unplaced rows are told of a group that they do not refuse
pub record Tried (mode : Mode) (rule : Rule) (group : List ℕ) (old new : Draws) (r : Result ℕ Refusal) (part sizes : List ℕ) : Type 0 where
  pub kept : new.list.now ≡ old.list.now
  pub few : (unplaced : ℕ) → r ≡ Ok unplaced → unplaced ≤ 4096
  pub steps : (n : ℕ) → old.cursor ≡ cursor_at rule.draws n
      → ((number_in r ≡ unplaced_refusal mode (lost_by rule n group)) × (new.cursor ≡ cursor_at rule.draws (made_by rule n group)))
      × ((unplaced : ℕ) → r ≡ Ok unplaced → (unplaced ≡ lost_by rule n group) × Laid (parts_of rule n group) part sizes)

-- what became of an oversize group: refused by 6 where it has fewer rows than branching, then by 7 where the splits done equal the budget, or tried
pub record Taken (mode : Mode) (rule : Rule) (budget splits : ℕ) (group : List ℕ) (old new : Draws) (r : Result ℕ Refusal) (part sizes : List ℕ) : Type 0 where
  pub small : length group < rule.branching → number_in r ≡ 6
  pub spent : rule.branching ≤ length group → splits ≡ budget → number_in r ≡ 7
  pub tried : rule.branching ≤ length group → (splits ≡ budget → ⊥) → Tried mode rule group old new r part sizes

-- the ends that parts of these sizes put on the stack, the first part ending at e
unfoldable pub pushes : ℕ → List ℕ → List ℕ
pushes e [] = []
pushes e (zero ∷ sizes) = pushes e sizes
pushes e (suc n ∷ sizes) = e ∷ pushes (e - suc n) sizes

-- what the answer tells; and what an accepted grouping leaves in the row order and the group ends. After a refusal nothing is said of them.
pub record Grouped (answer : Answer Groups) (n : ℕ) (r : Result Counts Refusal) (order ends : List ℕ) : Type 0 where
  pub result : told counted r ≡ on_accepted figures answer
  pub listed : (g : Groups) → answer ≡ accepted g → (order ≡ flatten g.groups) × ((ends ≡ padded blank_cell n (ends_from 0 g.groups)) × (Below n order × (length g.groups ≤ n)))
