-- Closure on what a caller lends (01, 'Ranges and refusal numbers' and 'Closure'). Lengths stand for the lent slices.
use Rattle.std.specs.Prelude.{◌≡◌, ◌&&◌, cond, List, [], ◌∷◌, ℕ, ◌*◌, eqb, length, Float, Result}
use Rattle.sums.specs.Rows.{Row, rows_from}
use Rattle.sums.specs.Refusals.{Answer, accepted, refused, within, lowest, unless, on_accepted, cells_of, blank_cell}
use Rattle.closure.specs.Closure.{closure, distances, unordered}
use Rattle.sums.specs.Refused.{told}
use Rattle.sums.specs.declared.refusals.Refusal.{Refusal}

-- 1: dim or the count of centroids out of range; 2: a slice is not as long as they say
unfoldable pub closure_refusal : ℕ → ℕ → ℕ → ℕ → ℕ → ℕ
closure_refusal dim count row centroids cells =
    lowest ((within 1 64 dim && within 0 64 count) ∷ (eqb row dim && eqb centroids (count * dim) && eqb cells count) ∷ [])

-- the answer where neither 1 nor 2 is given: refusal 5, or the indices
unfoldable pub answered : Float → ℕ → Row → List Row → Answer (List ℕ)
answered epsilon replicas row centroids =
    cond (unordered (distances row centroids)) (refused 5) (accepted (closure epsilon replicas row centroids))

unfoldable pub closure_call : Float → ℕ → ℕ → ℕ → List Float → List Float → ℕ → Answer (List ℕ)
closure_call epsilon replicas dim count row centroids cells =
    unless (closure_refusal dim count (length row) (length centroids) cells) (answered epsilon replicas row (rows_from dim count centroids))

-- a call's whole result: the answer, and the n cells lent, the indices first and the rest blank
pub record Gives (answer : Answer (List ℕ)) (n : ℕ) (r : Result ℕ Refusal) (cells : List ℕ) : Type 0 where
  pub result : told (λ (count : ℕ). count) r ≡ on_accepted length answer
  pub listing : cells ≡ cells_of blank_cell n (λ (indices : List ℕ). indices) answer
