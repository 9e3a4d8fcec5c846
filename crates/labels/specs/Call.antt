-- Labelling on what a caller lends (01, 'Ranges and refusal numbers'). Lengths stand for the lent slices; who asks for no distances lends as many as cells.
use Rattle.std.specs.Prelude.{◌≡◌, ◌&&◌, Option, Result, List, [], ◌∷◌, ℕ, ◌*◌, eqb, length, Float}
use Rattle.sums.specs.Rows.{rows_from}
use Rattle.sums.specs.Refusals.{Answer, accepted, within, lowest, unless, on_accepted, cells_of, blank_cell}
use Rattle.sums.specs.Refused.{told}
use Rattle.sums.specs.declared.refusals.Refusal.{Refusal}
use Rattle.labels.specs.declared.nearest.Nearest.{Nearest}
use Rattle.labels.specs.declared.mode.Mode.{Mode}
use Rattle.labels.specs.Label.{nearests, labels_of, unplaced_of}
use Rattle.labels.specs.Mode.{unplaced_refusal}

-- 1: rows, dim or k out of range; 2: a slice is not as long as they say
unfoldable pub label_refusal : ℕ → ℕ → ℕ → ℕ → ℕ → ℕ → ℕ → ℕ
label_refusal rows dim k values centroids cells distances =
    lowest ((within 0 4096 rows && within 1 64 dim && within 1 64 k)
    ∷ (eqb values (rows * dim) && eqb centroids (k * dim) && eqb cells rows && eqb distances rows) ∷ [])

-- one answer a row; and 9, after 1 and 2, where the mode is strict and a row is unplaced (02 (iii))
unfoldable pub label_call : Mode → ℕ → ℕ → ℕ → List Float → List Float → ℕ → ℕ → Answer (List (Option Nearest))
label_call mode rows dim k values centroids cells distances =
    let found = nearests (rows_from dim k centroids) (rows_from dim rows values) in
    unless (label_refusal rows dim k (length values) (length centroids) cells distances) (unless (unplaced_refusal mode (unplaced_of found)) (accepted found))

-- a call's result: the number of unplaced rows (02 (ii)) or the refusal, as the answer has them, and the n label cells lent
pub record Gives (answer : Answer (List (Option Nearest))) (n : ℕ) (r : Result ℕ Refusal) (cells : List ℕ) : Type 0 where
  pub result : told (λ (unplaced : ℕ). unplaced) r ≡ on_accepted unplaced_of answer
  pub labels : cells ≡ cells_of blank_cell n labels_of answer
