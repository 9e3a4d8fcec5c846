-- A labelling call: what an acceptance tells of its numbers, and what each answer gives. Assumes nothing.
use mathlib.Core.Path.{◌≡◌, refl, sym, ap, ◌∙◌}
use mathlib.Core.Bool.{Bool, true, false, ◌&&◌}
use mathlib.Core.List.{List, [], ◌∷◌}
use Prim.Native.Nat.{ℕ, ◌*◌, ◌≤◌, ◌<◌, min}
use native.Mathlib.Omega.{arith}
use borrow.Author.Tests.{eqb-true}
use lib.Dec.{eqb}
use lib.ListN.{length, replicate}
use lib.Ieee.{Float}
use Rattle.sums.specs.Rows.{rows_from}
use Rattle.sums.specs.Sums.{zero32}
use Rattle.sums.specs.Refusals.{Answer, accepted, refused, within, lowest, lowest_from, unless, on_accepted, cells_of, padded, blank_cell}
use Rattle.sums.proofs.Tables.{length_tab}
use Rattle.labels.specs.declared.mode.Mode.{Mode}
use Rattle.std.specs.Prelude.{Option, Result, Ok, Err}
use Rattle.sums.specs.declared.refusals.Refusal.{Refusal}
use Rattle.sums.specs.Refused.{number_of}
use Rattle.sums.proofs.Told.{unless_number}
use Rattle.labels.specs.declared.nearest.Nearest.{Nearest}
use Rattle.labels.specs.declared.nearest.Tally.{Tally}
use Rattle.labels.specs.Label.{nearests, distances_of, unplaced_of}
use Rattle.labels.specs.Mode.{unplaced_refusal}
use Rattle.labels.specs.Inside.{Assigned}
use Rattle.labels.specs.Call.{label_refusal, label_call, Gives}
use Rattle.sums.proofs.Refusing.{both, within_is, passed, padded_all, padded_none}
use Rattle.labels.proofs.Assigns.{labels_tab, distances_tab}

pub record Fitting (rows dim k values centroids cells distances : ℕ) : Type 0 where
  pub rows_in : rows ≤ 4096
  pub some : 0 < dim
  pub small : dim ≤ 64
  pub one : 0 < k
  pub few : k ≤ 64
  pub values_are : values ≡ rows * dim
  pub centroids_are : centroids ≡ k * dim
  pub cells_are : cells ≡ rows
  pub distances_are : distances ≡ rows

pub fitting : (rows dim k values centroids cells distances : ℕ) → label_refusal rows dim k values centroids cells distances ≡ 0
    → Fitting rows dim k values centroids cells distances
unfolding label_refusal
fitting rows dim k values centroids cells distances e =
    let held = passed 0 _ e in
    let ranges = both _ _ held.0 in
    let first = both _ _ ranges.0 in
    let slices = both _ _ held.1.0 in
    let result = both _ _ slices.0 in
    let given = both _ _ result.0 in
    record {
      rows_in = (within_is 0 4096 rows first.0).1;
      some = (within_is 1 64 dim first.1).0;
      small = (within_is 1 64 dim first.1).1;
      one = (within_is 1 64 k ranges.1).0;
      few = (within_is 1 64 k ranges.1).1;
      values_are = eqb-true values (rows * dim) given.0;
      centroids_are = eqb-true centroids (k * dim) given.1;
      cells_are = eqb-true cells rows result.1;
      distances_are = eqb-true distances rows slices.1;
    }

module _ (mode : Mode) (rows dim k : ℕ) (values centroids : List Float) (n m : ℕ) where
  abbrev found : List (Option Nearest)
  found = nearests (rows_from dim k centroids) (rows_from dim rows values)

  abbrev call : Answer (List (Option Nearest))
  call = label_call mode rows dim k values centroids n m

  abbrev number : ℕ
  number = label_refusal rows dim k (length values) (length centroids) n m

  abbrev Gave : Result ℕ Refusal → List ℕ → List Float → Type 0
  Gave r cells distances = Gives call n r cells × (distances ≡ cells_of zero32 m distances_of call)

  gives_number : (refusal : Refusal) (cells : List ℕ) (distances : List Float) → call ≡ refused (number_of refusal)
      → cells ≡ replicate n blank_cell → distances ≡ replicate m zero32 → Gave (Err refusal) cells distances
  unfolding on_accepted cells_of
  gives_number refusal cells distances e c d = (record { result = rw e; labels = c ∙ rw e (sym (padded_none blank_cell n)) }, d ∙ rw e (sym (padded_none zero32 m)))

  pub gives_refused : (refusal : Refusal) (cells : List ℕ) (distances : List Float) → number_of refusal ≡ number
      → cells ≡ replicate n blank_cell → distances ≡ replicate m zero32 → Gave (Err refusal) cells distances
  unfolding label_call
  gives_refused refusal cells distances e = gives_number refusal cells distances (rw (← e) (unless_number refusal _))

  pub gives_lost : (labels₀ labels cells : List ℕ) (measured distances : List Float) (tally : Tally) (refusal : Refusal) → 0 ≡ number
      → Assigned found labels₀ labels measured tally → number_of refusal ≡ unplaced_refusal mode tally.unplaced
      → cells ≡ replicate n blank_cell → distances ≡ replicate m zero32 → Gave (Err refusal) cells distances
  unfolding label_call unless
  gives_lost labels₀ labels cells measured distances tally refusal e a u =
      let same = sym (rw a.counted at u) in
      gives_number refusal cells distances (rw (← e, same) (unless_number refusal _))

  pub gives_labels : (labels₀ cells : List ℕ) (distances : List Float) (tally : Tally) → 0 ≡ number
      → 0 ≡ unplaced_refusal mode tally.unplaced → Assigned found labels₀ cells distances tally → Gave (Ok tally.unplaced) cells distances
  unfolding label_call unless on_accepted cells_of
  gives_labels labels₀ cells distances tally e u a =
      let f = fitting rows dim k (length values) (length centroids) n m (sym e) in
      let none = rw a.counted at u in
      let labels-long : length cells ≡ n = ap length (a.labelled ∙ labels_tab (rows_from dim k centroids) dim rows values) ∙ length_tab _ rows ∙ sym f.cells_are in
      let distances-long : length distances ≡ m = ap length (a.measured ∙ distances_tab (rows_from dim k centroids) dim rows values) ∙ length_tab _ rows ∙ sym f.distances_are in (
        record {
          result = rw (← e, ← none) (ap accepted a.counted);
          labels = rw (← e, ← none) (sym (padded_all blank_cell n cells labels-long) ∙ ap (padded blank_cell n) a.labelled);
        },
        rw (← e, ← none) (sym (padded_all zero32 m distances distances-long) ∙ ap (padded zero32 m) a.measured),
      )

-- with room for the distances of as many rows as are in range, whatever cells are lent, a call is as with a distance for each cell
pub room_enough : (mode : Mode) (rows dim k : ℕ) (values centroids : List Float) (n : ℕ)
    → label_call mode rows dim k values centroids n (min n 4096) ≡ label_call mode rows dim k values centroids n n
unfolding label_call label_refusal lowest_from
room_enough mode rows dim k values centroids n =
    let found = nearests (rows_from dim k centroids) (rows_from dim rows values) in
    ap (λ (number : ℕ). unless number (unless (unplaced_refusal mode (unplaced_of found)) (accepted found)))
    (go (within 0 4096 rows) (eqb (length values) (rows * dim) && eqb (length centroids) (k * dim)) (eqb n rows) refl refl)
  where
    go : (fits given same : Bool) → within 0 4096 rows ≡ fits → eqb n rows ≡ same
        → lowest ((fits && within 1 64 dim && within 1 64 k) ∷ (given && same && eqb (min n 4096) rows) ∷ [])
        ≡ lowest ((fits && within 1 64 dim && within 1 64 k) ∷ (given && same && eqb n rows) ∷ [])
    go false given same h e = refl
    go true false same h e = refl
    go true true false h e = refl
    go true true true h e = let m : min n 4096 ≡ n = omega (arith, (within_is 0 4096 rows h).1, eqb-true n rows e) in rw m
