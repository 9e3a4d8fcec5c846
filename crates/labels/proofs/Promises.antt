-- What labelling promises beyond its contracts: each promise in words, then as a law. Assumes nothing.
use mathlib.Core.Path.{◌≡◌, refl, sym, ap, ◌∙◌}
use mathlib.Core.Bool.{Bool, true, false, ◌&&◌, cond, false≢true}
use mathlib.Core.Logic.{◌↔◌, ◌⊎◌, ⊎_elim, inl, inr}
use mathlib.Core.List.{List, [], ◌∷◌, map, map-map}
use Prim.Native.Nat.{ℕ, zero, suc, ◌*◌, ◌≤◌, ◌<◌}
use native.Mathlib.Nat.{not-suc-le-zero, le_of_suc-le-suc}
use native.Mathlib.Omega.{arith}
use lib.Dec.{eqb}
use lib.ListN.{length, get_or, length-map}
use lib.Ieee.{Float, nan, lt, le, is_nan}
use Rattle.sums.specs.Rows.{Row, rows_from, row_at}
use Rattle.sums.specs.Cells.{Below}
use Rattle.sums.specs.Sums.{zero32, infinity}
use Rattle.sums.specs.Refusals.{Answer, accepted, refused, within, unless, on_accepted, cells_of, blank_cell}
use Rattle.sums.proofs.Tables.{map_index, length_tab, get_d_tab}
use Rattle.sums.proofs.Rows.{rows_length}
use Rattle.sums.proofs.Floats.{lt_irrefl}
use Rattle.std.specs.Prelude.{Option, Some, None, Result, Ok}
use Rattle.sums.specs.declared.refusals.Refusal.{Refusal}
use Rattle.labels.specs.declared.nearest.Nearest.{Nearest}
use Rattle.labels.specs.declared.mode.Mode.{Mode}
use Rattle.labels.specs.declared.mode.Mode.TheVariants.{Strict, OldWay}
use Rattle.labels.specs.Label.{score, nothing_yet, search, placement, nearest, nearests, label_in, distance_in, labels_of, distances_of, unplaced_of}
use Rattle.labels.specs.Mode.{unplaced_refusal}
use Rattle.labels.specs.Call.{label_refusal, label_call, Gives}
use Rattle.sums.proofs.Refusing.{padded_all}
use Rattle.sums.proofs.Told.{told_same}
use Rattle.sums.proofs.Whens.{fails_exactly, later_exactly, accepted_exactly as accepted_exactly_lem, refused_by, one_or_two}
use Rattle.labels.proofs.Modes.{strict_none, allowed, allowed_nine, allowed_otherwise, allowed_accepted, called_old, called_strict}
use Rattle.labels.proofs.Calls.{Fitting, fitting}
use Rattle.labels.proofs.Assigns.{labels_tab, distances_tab}
use Rattle.labels.proofs.Firsts.{FirstOf, first_of, search_below, from_known}
use Rattle.labels.proofs.Places.{nearest_label, nearest_distance, infinites_in, infinite_unplaced, unplaced_most}

-- ---- a row's search ends at the first cluster of smallest score below infinity, or at 0 if there is none, with distance infinity
pub label_first : (centroids : List Row) (row : Row) → FirstOf (map (score row) centroids) (search centroids row)
unfolding search
label_first centroids row = first_of (map (score row) centroids)

-- ---- what is answered, by its cases: a cluster of smallest score and the first such, with that score, which is below infinity; or that no score is
abbrev pub Answers : List Float → Option Nearest → Type 0
Answers scores (Some best) =
    (best.label < length scores) × ((get_or scores best.label nan ≡ best.distance) × ((lt best.distance infinity ≡ true)
    × (((j : ℕ) → j < length scores → lt (get_or scores j nan) best.distance ≡ false) × ((j : ℕ) → j < best.label → le (get_or scores j nan) best.distance ≡ false))))
Answers scores None = (j : ℕ) → j < length scores → lt (get_or scores j nan) infinity ≡ false

answers : (scores : List Float) (r : Nearest) → FirstOf scores r → Answers scores (placement r)
unfolding placement
answers scores r f = go (lt r.distance infinity) refl f.found
  where
    go : (t : Bool) → lt r.distance infinity ≡ t → ((r.label < length scores) × ((get_or scores r.label nan ≡ r.distance) × (lt r.distance infinity ≡ true))) ⊎ (r ≡ nothing_yet)
        → Answers scores (cond t (Some r) None)
    go true e (inl w) = (w.0, (w.1.0, (e, (f.smallest, f.first))))
    go true e (inr n) = let d : r.distance ≡ infinity = ap (λ (m : Nearest). m.distance) n in absurd (false≢true (sym (lt_irrefl infinity) ∙ rw d at e))
    go false e (inl w) = absurd (false≢true (sym e ∙ w.1.1))
    go false e (inr n) = let d : r.distance ≡ infinity = ap (λ (m : Nearest). m.distance) n in λ j l. rw d at (f.smallest j l)

pub answer_first : (centroids : List Row) (row : Row) → Answers (map (score row) centroids) (nearest centroids row)
unfolding nearest
answer_first centroids row = answers (map (score row) centroids) (search centroids row) (label_first centroids row)

-- ---- a row is unplaced exactly when no score is below infinity
pub unplaced_exactly : (centroids : List Row) (row : Row) → (nearest centroids row ≡ None)
    ↔ ((j : ℕ) → j < length (map (score row) centroids) → lt (get_or (map (score row) centroids) j nan) infinity ≡ false)
unplaced_exactly centroids row = ((λ e. rw e at (answer_first centroids row)), (λ none. go (nearest centroids row) refl none (answer_first centroids row)))
  where
    go : (p : Option Nearest) → nearest centroids row ≡ p → ((j : ℕ) → j < length (map (score row) centroids) → lt (get_or (map (score row) centroids) j nan) infinity ≡ false)
        → Answers (map (score row) centroids) p → nearest centroids row ≡ None
    go (Some best) e none a = absurd (false≢true (sym (none best.label a.0) ∙ rw a.1.0 a.1.1.0))
    go None e none a = e

-- ---- label and distance are those that the search alone gives, as before there was such an answer, for every row
pub labels_before : (centroids rows : List Row) → labels_of (nearests centroids rows) ≡ map (λ row. (search centroids row).label) rows
unfolding nearests
labels_before centroids [] = refl
labels_before centroids (row ∷ rows) = rw (nearest_label centroids row, labels_before centroids rows)

pub distances_before : (centroids rows : List Row) → distances_of (nearests centroids rows) ≡ map (λ row. (search centroids row).distance) rows
unfolding nearests
distances_before centroids [] = refl
distances_before centroids (row ∷ rows) = rw (nearest_distance centroids row, distances_before centroids rows)

-- ---- the count is the number of rows whose distance is infinite, and at most that of the rows
pub count_infinite : (centroids rows : List Row) → unplaced_of (nearests centroids rows) ≡ infinites_in (distances_of (nearests centroids rows))
count_infinite centroids rows = sym (infinite_unplaced centroids rows)

pub count_most : (centroids rows : List Row) → unplaced_of (nearests centroids rows) ≤ length rows
unfolding nearests
count_most centroids rows = rw (length-map rows (nearest centroids)) at (unplaced_most (nearests centroids rows))

-- ---- with given centroids, two batches that agree at row i have the same label and the same distance there, whatever their other rows hold
pub own_row : (centroids : List Row) (dim n n' : ℕ) (values values' : List Float) (i : ℕ) → i < n → i < n' → row_at values dim i ≡ row_at values' dim i
    → (get_or (labels_of (nearests centroids (rows_from dim n values))) i 0 ≡ get_or (labels_of (nearests centroids (rows_from dim n' values'))) i 0)
    × (get_or (distances_of (nearests centroids (rows_from dim n values))) i nan ≡ get_or (distances_of (nearests centroids (rows_from dim n' values'))) i nan)
own_row centroids dim n n' values values' i h h' e = (
  label_at n values h ∙ (ap (λ (row : Row). label_in (nearest centroids row)) e ∙ sym (label_at n' values' h')),
  distance_at n values h ∙ (ap (λ (row : Row). distance_in (nearest centroids row)) e ∙ sym (distance_at n' values' h')),
)
  where
    label_at : (m : ℕ) (from : List Float) → i < m → get_or (labels_of (nearests centroids (rows_from dim m from))) i 0 ≡ label_in (nearest centroids (row_at from dim i))
    label_at m from l = rw (labels_tab centroids dim m from) (get_d_tab (λ j. label_in (nearest centroids (row_at from dim j))) m i 0 l)

    distance_at : (m : ℕ) (from : List Float) → i < m → get_or (distances_of (nearests centroids (rows_from dim m from))) i nan ≡ distance_in (nearest centroids (row_at from dim i))
    distance_at m from l = rw (distances_tab centroids dim m from) (get_d_tab (λ j. distance_in (nearest centroids (row_at from dim j))) m i nan l)

-- ---- there are as many labels as rows, and where there is a centroid every label is a cluster's number
pub label_count : (centroids rows : List Row) → length (labels_of (nearests centroids rows)) ≡ length rows
unfolding nearests
label_count centroids rows = length-map (map (nearest centroids) rows) label_in ∙ length-map rows (nearest centroids)

pub nearest_below : (centroids : List Row) (row : Row) → 0 < length centroids → label_in (nearest centroids row) < length centroids
nearest_below centroids row h = rw (nearest_label centroids row) (search_below centroids row h)

pub label_below : (centroids rows : List Row) → 0 < length centroids → Below (length centroids) (labels_of (nearests centroids rows))
unfolding nearests
label_below centroids rows h =
    rw (map-map label_in (nearest centroids) rows, map_index (λ r. label_in (nearest centroids r)) rows []) (λ i l.
    let p : i < length rows = rw length_tab at l in
    rw (get_d_tab (λ j. label_in (nearest centroids (get_or rows j []))) (length rows) i 0 p) (nearest_below centroids (get_or rows i []) h))

-- ---- no distance that labelling gives is a NaN, so that the pool's order is total on them
pub distances_known : (centroids rows : List Row) (i : ℕ) → i < length (distances_of (nearests centroids rows)) → is_nan (get_or (distances_of (nearests centroids rows)) i nan) ≡ false
unfolding nearests search is_nan
distances_known centroids [] i l = absurd (not-suc-le-zero l)
distances_known centroids (row ∷ rows) zero l = rw (nearest_distance centroids row) (from_known 0 (map (score row) centroids) nothing_yet refl)
distances_known centroids (row ∷ rows) (suc i) l = distances_known centroids rows i (le_of_suc-le-suc l)

-- ---- what a caller reads in the cells of a call that is told `Ok`, with the count
module _ (mode : Mode) (rows dim k : ℕ) (values centroids : List Float) (n m unplaced : ℕ) (cells : List ℕ)
    (given : Gives (label_call mode rows dim k values centroids n m) n (Ok unplaced) cells) where
  abbrev found : List (Option Nearest)
  found = nearests (rows_from dim k centroids) (rows_from dim rows values)

  abbrev scores_of : ℕ → List Float
  scores_of i = map (score (row_at values dim i)) (rows_from dim k centroids)

  -- no number refuses it, its cells are the labels, and the count is theirs, which the mode allows
  labelled : (label_refusal rows dim k (length values) (length centroids) n m ≡ 0)
      × ((cells ≡ labels_of found) × ((unplaced ≡ unplaced_of found) × (unplaced_refusal mode (unplaced_of found) ≡ 0)))
  unfolding label_call unless on_accepted cells_of
  labelled =
      go (label_refusal rows dim k (length values) (length centroids) n m) (unplaced_refusal mode (unplaced_of found)) refl refl given.result given.labels
    where
      go : (number lost : ℕ) → label_refusal rows dim k (length values) (length centroids) n m ≡ number → unplaced_refusal mode (unplaced_of found) ≡ lost
          → accepted unplaced ≡ on_accepted unplaced_of (unless number (unless lost (accepted found)))
          → cells ≡ cells_of blank_cell n labels_of (unless number (unless lost (accepted found)))
          → (label_refusal rows dim k (length values) (length centroids) n m ≡ 0)
          × ((cells ≡ labels_of found) × ((unplaced ≡ unplaced_of found) × (unplaced_refusal mode (unplaced_of found) ≡ 0)))
      go zero zero e l t c =
          let f = fitting rows dim k (length values) (length centroids) n m e in
          let long : length (labels_of found) ≡ rows = label_count (rows_from dim k centroids) (rows_from dim rows values) ∙ rows_length dim rows values in
          (e, (c ∙ padded_all blank_cell n (labels_of found) (long ∙ sym f.cells_are), (cc, l)))
      go zero (suc lost) e l t c = let z : ◌≡◌ {A = ℕ} 0 1 = cc in absurd (omega arith)
      go (suc number) lost e l t c = let z : ◌≡◌ {A = ℕ} 0 1 = cc in absurd (omega arith)

  fits : Fitting rows dim k (length values) (length centroids) n m
  fits = fitting rows dim k (length values) (length centroids) n m labelled.0

  -- a label below k in each cell, one a row
  pub cells_below : (length cells ≡ rows) × Below k cells
  cells_below =
      let is = labelled.1.0 in
      let long : length (labels_of found) ≡ rows = label_count (rows_from dim k centroids) (rows_from dim rows values) ∙ rows_length dim rows values in
      let few : length (rows_from dim k centroids) ≡ k = rows_length dim k centroids in
      let below : Below k (labels_of found) = rw few at (label_below (rows_from dim k centroids) (rows_from dim rows values) (rw few fits.one)) in
      (ap length is ∙ long, rw is below)

  -- a cell's label is that of its row's readings, and of no other row's
  cell_nearest : (i : ℕ) → i < rows → get_or cells i 0 ≡ label_in (nearest (rows_from dim k centroids) (row_at values dim i))
  cell_nearest i l =
      ap (λ (c : List ℕ). get_or c i 0) (labelled.1.0 ∙ labels_tab (rows_from dim k centroids) dim rows values)
      ∙ get_d_tab (λ j. label_in (nearest (rows_from dim k centroids) (row_at values dim j))) rows i 0 l

  -- row i's cell holds the label of one answer to its scores
  pub cell_first : (i : ℕ) → i < rows → (p : Option Nearest) × (Answers (scores_of i) p × (get_or cells i 0 ≡ label_in p))
  cell_first i l = (nearest (rows_from dim k centroids) (row_at values dim i), (answer_first (rows_from dim k centroids) (row_at values dim i), cell_nearest i l))

  -- the count is at most that of the rows
  pub cells_count : unplaced ≤ rows
  cells_count = omega (arith, labelled.1.1.0, rows_length dim rows values, count_most (rows_from dim k centroids) (rows_from dim rows values))

  -- in the new way it is 0: every row is placed
  pub cells_placed : mode ≡ Strict → unplaced ≡ 0
  cells_placed s = labelled.1.1.0 ∙ (strict_none (unplaced_of found)).0 (rw s at labelled.1.1.1)

  -- the distances of the call, where they were asked for
  module _ (distances : List Float) (measured : distances ≡ cells_of zero32 m distances_of (label_call mode rows dim k values centroids n m)) where
    distances_are : distances ≡ distances_of found
    unfolding label_call unless cells_of
    distances_are =
        let long : length (distances_of found) ≡ m = length-map found distance_in ∙ sym (length-map found label_in)
        ∙ (label_count (rows_from dim k centroids) (rows_from dim rows values) ∙ rows_length dim rows values ∙ sym fits.distances_are) in
        measured ∙ rw (labelled.0, labelled.1.1.1) (padded_all zero32 m (distances_of found) long)

    cell_distance : (i : ℕ) → i < rows → get_or distances i nan ≡ distance_in (nearest (rows_from dim k centroids) (row_at values dim i))
    cell_distance i l =
        ap (λ (c : List Float). get_or c i nan) (distances_are ∙ distances_tab (rows_from dim k centroids) dim rows values)
        ∙ get_d_tab (λ j. distance_in (nearest (rows_from dim k centroids) (row_at values dim j))) rows i nan l

    -- and its other cell holds the distance of the same answer
    pub cell_answer : (i : ℕ) → i < rows → (p : Option Nearest) × (Answers (scores_of i) p × ((get_or cells i 0 ≡ label_in p) × (get_or distances i nan ≡ distance_in p)))
    cell_answer i l =
        (nearest (rows_from dim k centroids) (row_at values dim i), (answer_first (rows_from dim k centroids) (row_at values dim i), (cell_nearest i l, cell_distance i l)))

    -- its distance is infinite exactly when no score is below infinity
    pub cell_unplaced : (i : ℕ) → i < rows → (get_or distances i nan ≡ infinity) ↔ ((j : ℕ) → j < length (scores_of i) → lt (get_or (scores_of i) j nan) infinity ≡ false)
    cell_unplaced i l = let a = cell_answer i l in go a.0 a.1.0 a.1.1.1
      where
        go : (p : Option Nearest) → Answers (scores_of i) p → get_or distances i nan ≡ distance_in p
            → (get_or distances i nan ≡ infinity) ↔ ((j : ℕ) → j < length (scores_of i) → lt (get_or (scores_of i) j nan) infinity ≡ false)
        go (Some best) a e = (
          (λ d. let z : best.distance ≡ infinity = sym e ∙ d in absurd (false≢true (sym (lt_irrefl infinity) ∙ rw z at a.1.1.0))),
          (λ none. absurd (false≢true (sym (none best.label a.0) ∙ rw a.1.0 a.1.1.0))),
        )
        go None a e = ((λ d. a), (λ none. e))

    -- the count is the number of infinite distances
    pub cells_infinite : unplaced ≡ infinites_in distances
    cells_infinite = labelled.1.1.0 ∙ (count_infinite (rows_from dim k centroids) (rows_from dim rows values) ∙ ap infinites_in (sym distances_are))

-- ---- in any two calls that are told `Ok`, each in either way, two rows of the same readings have the same label, whatever stands around them
pub cells_alike : (mode mode' : Mode) (rows rows' dim k : ℕ) (values values' centroids : List Float) (n n' m m' unplaced unplaced' : ℕ) (cells cells' : List ℕ)
    → Gives (label_call mode rows dim k values centroids n m) n (Ok unplaced) cells
    → Gives (label_call mode' rows' dim k values' centroids n' m') n' (Ok unplaced') cells'
    → (i i' : ℕ) → i < rows → i' < rows' → row_at values dim i ≡ row_at values' dim i' → get_or cells i 0 ≡ get_or cells' i' 0
cells_alike mode mode' rows rows' dim k values values' centroids n n' m m' unplaced unplaced' cells cells' g g' i i' l l' e =
    cell_nearest mode rows dim k values centroids n m unplaced cells g i l
    ∙ (ap (λ (row : Row). label_in (nearest (rows_from dim k centroids) row)) e ∙ sym (cell_nearest mode' rows' dim k values' centroids n' m' unplaced' cells' g' i' l'))

-- ---- which number refuses a call, and exactly when
module _ (rows dim k : ℕ) (values centroids : List Float) (n m : ℕ) where
  abbrev pub call : Mode → Answer (List (Option Nearest))
  call mode = label_call mode rows dim k values centroids n m

  -- every number is in range
  abbrev pub ranges : Bool
  ranges = within 0 4096 rows && within 1 64 dim && within 1 64 k

  -- every lent slice is as long as the numbers say
  abbrev pub slices : Bool
  slices = eqb (length values) (rows * dim) && eqb (length centroids) (k * dim) && eqb n rows && eqb m rows

  abbrev pub answer : List (Option Nearest)
  answer = nearests (rows_from dim k centroids) (rows_from dim rows values)

  abbrev inner : Mode → Answer (List (Option Nearest))
  inner mode = allowed mode (unplaced_of answer) answer

  -- no number but 9 is the inner answer's
  never : (mode : Mode) (number : ℕ) → number < 9 → inner mode ≡ refused number → ⊥
  never mode number h c = absurd (omega (arith, h, allowed_otherwise mode (unplaced_of answer) answer number c))

  -- Refused by 1 exactly when a number is out of range.
  pub refused_one : (mode : Mode) → (call mode ≡ refused 1) ↔ (ranges ≡ false)
  unfolding label_call label_refusal
  refused_one mode = fails_exactly (ranges ∷ slices ∷ []) (inner mode) 0 (λ _. never mode 1 (omega arith))

  -- Refused by 2 exactly when the numbers are in range and a slice is of another length.
  pub refused_two : (mode : Mode) → (call mode ≡ refused 2) ↔ ((ranges ≡ true) × (slices ≡ false))
  unfolding label_call label_refusal
  refused_two mode = fails_exactly (ranges ∷ slices ∷ []) (inner mode) 1 (λ _. never mode 2 (omega arith))

  -- Refused by 9 exactly when both tests pass, the mode is strict and a row is unplaced.
  pub refused_nine : (mode : Mode) → (call mode ≡ refused 9) ↔ (((ranges ≡ true) × (slices ≡ true)) × ((mode ≡ Strict) × (0 < unplaced_of answer)))
  unfolding label_call label_refusal
  refused_nine mode =
      let w = later_exactly (ranges ∷ slices ∷ []) (inner mode) 9 (omega arith) in
      let nine = allowed_nine mode (unplaced_of answer) answer in (
        (λ c. let t = w.0 c in ((t.0.0, t.0.1.0), nine.0 t.1)),
        (λ t. w.1 ((t.0.0, (t.0.1, tt)), nine.1 t.1)),
      )

  -- Accepted, with an answer a row, exactly when both tests pass and the mode allows the unplaced rows.
  pub accepted_exactly : (mode : Mode) → (call mode ≡ accepted answer) ↔ (((ranges ≡ true) × (slices ≡ true)) × (unplaced_refusal mode (unplaced_of answer) ≡ 0))
  unfolding label_call label_refusal
  accepted_exactly mode =
      let w = accepted_exactly_lem (ranges ∷ slices ∷ []) (inner mode) answer in
      let in-mode = allowed_accepted mode (unplaced_of answer) answer answer in (
        (λ c. let t = w.0 c in ((t.0.0, t.0.1.0), (in-mode.0 t.1).0)),
        (λ t. w.1 ((t.0.0, (t.0.1, tt)), in-mode.1 (t.1, refl))),
      )

  -- No other number refuses a call.
  pub refused_otherwise : (mode : Mode) (number : ℕ) → call mode ≡ refused number → ((number ≡ 1) ⊎ (number ≡ 2)) ⊎ (number ≡ 9)
  unfolding label_call label_refusal
  refused_otherwise mode number c =
      ⊎_elim (λ h. inl (one_or_two number h.0 h.1)) (λ e. inr (allowed_otherwise mode (unplaced_of answer) answer number e))
      (refused_by (ranges ∷ slices ∷ []) (inner mode) number c)

  -- The old way is the call of before 02 (iii).
  pub old_before : call OldWay ≡ unless (label_refusal rows dim k (length values) (length centroids) n m) (accepted answer)
  unfolding label_call
  old_before = called_old (label_refusal rows dim k (length values) (length centroids) n m) unplaced_of answer

  -- The new way is accepted exactly when the old way is and nothing is unplaced, and gives the same.
  pub strict_exactly : (found : List (Option Nearest)) → (call Strict ≡ accepted found) ↔ ((call OldWay ≡ accepted found) × (unplaced_of found ≡ 0))
  unfolding label_call
  strict_exactly = called_strict (label_refusal rows dim k (length values) (length centroids) n m) unplaced_of answer

-- ---- the answer and every cell follow from the call alone: any two results that a call may give are the same
pub one_answer : {answer : Answer (List (Option Nearest))} {n : ℕ} {r r' : Result ℕ Refusal} {cells cells' : List ℕ} → Gives answer n r cells → Gives answer n r' cells' → (r ≡ r') × (cells ≡ cells')
one_answer {answer} {n} {r} {r'} g g' = (told_same (λ (u : ℕ). u) (λ u v e. e) r r' (g.result ∙ sym g'.result), g.labels ∙ sym g'.labels)

-- and so are any two distances, where they were asked for
pub one_distances : (answer : Answer (List (Option Nearest))) (m : ℕ) (distances distances' : List Float) → distances ≡ cells_of zero32 m distances_of answer
    → distances' ≡ cells_of zero32 m distances_of answer → distances ≡ distances'
one_distances answer m distances distances' e e' = e ∙ sym e'
