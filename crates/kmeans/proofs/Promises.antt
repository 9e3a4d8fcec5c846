-- What k-means promises beyond its contracts. Assumes nothing.
use mathlib.Core.Path.{◌≡◌, refl, sym, ap, ◌∙◌}
use mathlib.Core.Bool.{Bool, true, false}
use mathlib.Core.Logic.{◌↔◌, ◌⊎◌, ⊎_elim, inl, inr}
use mathlib.Core.List.{List, [], ◌∷◌, flatten}
use Prim.Native.Nat.{ℕ, zero, suc, ◌*◌, ◌≤◌, ◌<◌}
use native.Mathlib.Omega.{arith}
use lib.Dec.{leb}
use lib.Ieee.{Float}
use lib.ListN.{length}
use Rattle.sums.specs.Rows.{Row, rows_from}
use Rattle.sums.specs.Sums.{zero32}
use Rattle.sums.specs.Cells.{Below}
use Rattle.sums.specs.Refusals.{Answer, accepted, refused, within, unless, on_accepted, cells_of, blank_cell, Cleared}
use Rattle.std.specs.Prelude.{Result as Returned, Ok}
use Rattle.sums.specs.declared.refusals.Refusal.{Refusal}
use Rattle.sums.specs.Refused.{told}
use Rattle.sums.proofs.Told.{told_same}
use Rattle.sums.proofs.Rows.{rows_length}
use Rattle.sums.proofs.Refusing.{padded_all, padded_length, cleared_same}
use Rattle.sums.proofs.Whens.{fails_exactly, later_exactly, accepted_exactly as accepted_exactly_lem, refused_by}
use Rattle.labels.specs.declared.mode.Mode.{Mode}
use Rattle.labels.specs.declared.mode.Mode.TheVariants.{Strict, OldWay}
use Rattle.labels.specs.Mode.{unplaced_refusal}
use Rattle.labels.proofs.Modes.{strict_none, allowed, allowed_nine, allowed_otherwise, allowed_accepted, called_old, called_strict}
use Rattle.kmeans.specs.declared.config.KMeansConfig.{KMeansConfig}
use Rattle.kmeans.specs.declared.call.Outcome.{Outcome}
use Rattle.kmeans.specs.KMeans.{Result, kmeans}
use Rattle.kmeans.specs.Call.{ranges_fit, lengths_fit, kmeans_refusal, kmeans_call, figures, Gives}
use Rattle.kmeans.proofs.Calls.{ranged, fitting}
use Rattle.kmeans.proofs.Clusters.{kmeans_clustered, kmeans_few, Sphered, kmeans_sphered}

-- ---- every row has a label, and where there is a cluster every label is a cluster's number
pub labels_below : (draws : List ℕ) (n : ℕ) (config : KMeansConfig) (k dim : ℕ) (rows : List Row) → 0 < k → k ≤ length rows
    → (length (kmeans draws n config k dim rows).result.labels ≡ length rows) × Below k (kmeans draws n config k dim rows).result.labels
labels_below draws n config k dim rows some h = let c = kmeans_clustered draws n config k dim rows h in (c.labelled, c.below some)

-- ---- there are k centroids
pub centroids_sized : (draws : List ℕ) (n : ℕ) (config : KMeansConfig) (k dim : ℕ) (rows : List Row) → k ≤ length rows → length (kmeans draws n config k dim rows).result.centroids ≡ k
centroids_sized draws n config k dim rows h = (kmeans_clustered draws n config k dim rows h).centred

-- ---- the rows that the restart kept leaves unplaced are no more than the rows
pub unplaced_most : (draws : List ℕ) (n : ℕ) (config : KMeansConfig) (k dim : ℕ) (rows : List Row) → (kmeans draws n config k dim rows).result.unplaced ≤ length rows
unplaced_most draws n config k dim rows = kmeans_few draws n config k dim rows

-- ---- the answer and every cell follow from the call alone: any two results that a call may give are the same, the work slice too
figures_apart : (x y : Outcome) → figures x ≡ figures y → x ≡ y
figures_apart x y e =
    ap (λ (f : Float × ℕ × ℕ). record { objective = f.0; restart = f.1; unplaced = f.2 }) e

pub one_answer : {answer : Answer Result} {l c : ℕ} {r r' : Returned Outcome Refusal} {labels labels' : List ℕ} {centroids centroids' : List Float}
    → Gives answer l c r labels centroids → Gives answer l c r' labels' centroids'
    → (training training' : List Float) → Cleared zero32 training → Cleared zero32 training' → length training ≡ length training'
    → (r ≡ r') × ((labels ≡ labels') × ((centroids ≡ centroids') × (training ≡ training')))
one_answer {answer} {l} {c} {r} {r'} g g' training training' t t' k =
    (told_same figures figures_apart r r' (g.result ∙ sym g'.result), (g.labelled ∙ sym g'.labelled, (g.centred ∙ sym g'.centred, cleared_same zero32 training training' t t' k)))

-- ---- one call, with its settings, its draws, its readings one after the other, and the lengths of what is lent
module _ (rows dim k : ℕ) (config : KMeansConfig) (draws : List ℕ) (values : List Float) (label_cells centroid_cells training_cells : ℕ) where
  abbrev lent : List ℕ
  lent = label_cells ∷ centroid_cells ∷ training_cells ∷ []

  abbrev pub call : Mode → Answer Result
  call mode = kmeans_call mode rows dim k config draws values lent

  abbrev pub answer : Result
  answer = (kmeans draws 0 config k dim (rows_from dim rows values)).result

  -- what a caller reads of an accepted call: a label below k for each row, the values of k centroids, and in the new way no unplaced row
  pub cells_below : (mode : Mode) (outcome : Outcome) (labels : List ℕ) (centroids : List Float)
      → Gives (call mode) label_cells centroid_cells (Ok outcome) labels centroids
      → (((length labels ≡ rows) × Below k labels) × (length centroids ≡ k * dim)) × (mode ≡ Strict → outcome.unplaced ≡ 0)
  unfolding kmeans_call unless on_accepted cells_of
  cells_below mode outcome labels centroids given =
      go (kmeans_refusal rows dim k config (length draws) (length values) lent) (unplaced_refusal mode answer.unplaced) refl refl given.result given.labelled given.centred
    where
      go : (number lost : ℕ) → kmeans_refusal rows dim k config (length draws) (length values) lent ≡ number → unplaced_refusal mode answer.unplaced ≡ lost
          → told figures (Ok outcome) ≡ on_accepted (λ (a : Result). (a.objective, a.restart, a.unplaced)) (unless number (unless lost (accepted answer)))
          → labels ≡ cells_of blank_cell label_cells (λ (a : Result). a.labels) (unless number (unless lost (accepted answer)))
          → centroids ≡ cells_of zero32 centroid_cells (λ (a : Result). flatten a.centroids) (unless number (unless lost (accepted answer)))
          → (((length labels ≡ rows) × Below k labels) × (length centroids ≡ k * dim)) × (mode ≡ Strict → outcome.unplaced ≡ 0)
      go zero zero e u t p q =
          let f = fitting rows dim k config (length draws) (length values) label_cells centroid_cells training_cells e in
          let sized : length (rows_from dim rows values) ≡ rows = rows_length dim rows values in
          let b = labels_below draws 0 config k dim (rows_from dim rows values) f.limits.0.1.0.0 (omega (arith, sized, f.labels_are, f.limits.1.0)) in
          let is : labels ≡ answer.labels = p ∙ padded_all blank_cell label_cells answer.labels (b.0 ∙ (sized ∙ sym f.labels_are)) in
          let z : ◌≡◌ {A = Float × ℕ × ℕ} (outcome.objective, outcome.restart, outcome.unplaced) (answer.objective, answer.restart, answer.unplaced) = cc in (
            ((ap length is ∙ (b.0 ∙ sized), rw is b.1), ap length q ∙ (padded_length zero32 centroid_cells (flatten answer.centroids) ∙ f.cells.1.0)),
            (λ s. ap (λ (t : Float × ℕ × ℕ). t.2) z ∙ (strict_none answer.unplaced).0 (rw s at u)),
          )
      go zero (suc lost) e u t p q = let z : ◌≡◌ {A = ℕ} 0 1 = cc in absurd (omega arith)
      go (suc number) lost e u t p q = let z : ◌≡◌ {A = ℕ} 0 1 = cc in absurd (omega arith)

  -- ---- which number refuses the call, and exactly when

  -- every number is in range
  abbrev pub ranges : Bool
  ranges = ranges_fit rows dim k config

  -- every lent slice is as long as the numbers say
  abbrev pub slices : Bool
  slices = lengths_fit rows dim k (length values) lent

  -- there are rows enough for the clusters
  abbrev pub enough : Bool
  enough = leb k rows

  -- there are from 1 to 4,096 draws
  abbrev pub drawable : Bool
  drawable = within 1 4096 (length draws)

  abbrev tests : List Bool
  tests = ranges ∷ slices ∷ enough ∷ drawable ∷ []

  abbrev inner : Mode → Answer Result
  inner mode = allowed mode answer.unplaced answer

  -- all four tests pass
  abbrev pub Passed : Type 0
  Passed = (ranges ≡ true) × ((slices ≡ true) × ((enough ≡ true) × (drawable ≡ true)))

  -- no number but 9 is the inner answer's
  never : (mode : Mode) (number : ℕ) → number < 9 → inner mode ≡ refused number → ⊥
  never mode number h c = absurd (omega (arith, h, allowed_otherwise mode answer.unplaced answer number c))

  -- Refused by 1 exactly when a number is out of range.
  pub refused_one : (mode : Mode) → (call mode ≡ refused 1) ↔ (ranges ≡ false)
  unfolding kmeans_call kmeans_refusal
  refused_one mode = fails_exactly tests (inner mode) 0 (λ _. never mode 1 (omega arith))

  -- Refused by 2 exactly when the numbers are in range and a slice is of another length.
  pub refused_two : (mode : Mode) → (call mode ≡ refused 2) ↔ ((ranges ≡ true) × (slices ≡ false))
  unfolding kmeans_call kmeans_refusal
  refused_two mode = fails_exactly tests (inner mode) 1 (λ _. never mode 2 (omega arith))

  -- Refused by 3 exactly when numbers and slices fit, and k is above rows.
  pub refused_three : (mode : Mode) → (call mode ≡ refused 3) ↔ ((ranges ≡ true) × ((slices ≡ true) × (enough ≡ false)))
  unfolding kmeans_call kmeans_refusal
  refused_three mode = fails_exactly tests (inner mode) 2 (λ _. never mode 3 (omega arith))

  -- Refused by 4 exactly when all else fits, and there are no draws or more than 4,096.
  pub refused_four : (mode : Mode) → (call mode ≡ refused 4) ↔ ((ranges ≡ true) × ((slices ≡ true) × ((enough ≡ true) × (drawable ≡ false))))
  unfolding kmeans_call kmeans_refusal
  refused_four mode = fails_exactly tests (inner mode) 3 (λ _. never mode 4 (omega arith))

  -- Refused by 9 exactly when all four tests pass, the mode is strict and the restart kept leaves a row unplaced.
  pub refused_nine : (mode : Mode) → (call mode ≡ refused 9) ↔ (Passed × ((mode ≡ Strict) × (0 < answer.unplaced)))
  unfolding kmeans_call kmeans_refusal
  refused_nine mode =
      let w = later_exactly tests (inner mode) 9 (omega arith) in
      let nine = allowed_nine mode answer.unplaced answer in (
        (λ c. let t = w.0 c in ((t.0.0, (t.0.1.0, (t.0.1.1.0, t.0.1.1.1.0))), nine.0 t.1)),
        (λ t. w.1 ((t.0.0, (t.0.1.0, (t.0.1.1.0, (t.0.1.1.1, tt)))), nine.1 t.1)),
      )

  -- Accepted, with the run's result, exactly when all four tests pass and the mode allows its unplaced rows.
  pub accepted_exactly : (mode : Mode) → (call mode ≡ accepted answer) ↔ (Passed × (unplaced_refusal mode answer.unplaced ≡ 0))
  unfolding kmeans_call kmeans_refusal
  accepted_exactly mode =
      let w = accepted_exactly_lem tests (inner mode) answer in
      let in-mode = allowed_accepted mode answer.unplaced answer answer in (
        (λ c. let t = w.0 c in ((t.0.0, (t.0.1.0, (t.0.1.1.0, t.0.1.1.1.0))), (in-mode.0 t.1).0)),
        (λ t. w.1 ((t.0.0, (t.0.1.0, (t.0.1.1.0, (t.0.1.1.1, tt)))), in-mode.1 (t.1, refl))),
      )

  -- No other number refuses a call.
  pub refused_otherwise : (mode : Mode) (number : ℕ) → call mode ≡ refused number → ((0 < number) × (number ≤ 4)) ⊎ (number ≡ 9)
  unfolding kmeans_call kmeans_refusal
  refused_otherwise mode number c = ⊎_elim inl (λ e. inr (allowed_otherwise mode answer.unplaced answer number e)) (refused_by tests (inner mode) number c)

  -- With `spherical` on each centroid of an accepted call is `unit_row` of one that the last update gave (02 (iv)).
  pub on_sphere_lem : config.spherical ≡ true → Passed → Sphered answer.centroids
  on_sphere_lem on p = kmeans_sphered draws 0 config k dim (rows_from dim rows values) on (ranged rows dim k config p.0).some_iterations

  -- The old way is the call of before 02 (iii).
  pub old_before : call OldWay ≡ unless (kmeans_refusal rows dim k config (length draws) (length values) lent) (accepted answer)
  unfolding kmeans_call
  old_before = called_old (kmeans_refusal rows dim k config (length draws) (length values) lent) (λ (a : Result). a.unplaced) answer

  -- The new way is accepted exactly when the old way is and nothing is unplaced, and gives the same.
  pub strict_exactly : (result : Result) → (call Strict ≡ accepted result) ↔ ((call OldWay ≡ accepted result) × (result.unplaced ≡ 0))
  unfolding kmeans_call
  strict_exactly = called_strict (kmeans_refusal rows dim k config (length draws) (length values) lent) (λ (a : Result). a.unplaced) answer
