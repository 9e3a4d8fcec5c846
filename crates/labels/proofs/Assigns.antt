-- The turns of the loop that assigns rows, on lists; and what the panels find, told of the centroids. Assumes nothing.
use Prim.Native.Nat.{ℕ, suc, ◌+◌, ◌*◌, ◌/◌, ◌≤◌, ◌<◌}
use mathlib.Core.Path.{◌≡◌, refl, sym, ap, subst, ◌∙◌}
use mathlib.Core.Bool.{Bool, true, ◌&&◌, and-true, and_assoc}
use mathlib.Core.List.{List, [], ◌∷◌, map-map}
use native.Mathlib.Numerals.{add-one}
use native.Mathlib.Omega.{arith}
use lib.Dec.{eqb}
use lib.Ieee.{Float, nan}
use lib.ListN.{length, get_or, take, drop, set, length-set}
use lib.Seq.{drop-set-lt, drop-cons}
use Rattle.sums.specs.Rows.{Row, rows_from, row_at}
use Rattle.sums.specs.Sums.{norm_of}
use Rattle.sums.specs.Table.{rows_of}
use Rattle.sums.specs.Tables.{tabulate}
use Rattle.sums.specs.declared.readings.Rows.{Rows}
use Rattle.sums.specs.Refusals.{same_all}
use Rattle.sums.proofs.Sames.{same_turn, same_none}
use Rattle.sums.proofs.Tables.{fill_more, fill_done, get_d_tab, length_tab, tab_same, map_tab}
use Rattle.sums.proofs.Rows.{map_rows}
use Rattle.std.specs.Prelude.{Option}
use Rattle.labels.specs.declared.nearest.Nearest.{Nearest}
use Rattle.labels.specs.declared.nearest.Tally.{Tally}
use Rattle.labels.specs.Label.{placement, nearest, nearests, label_in, distance_in, labels_of, distances_of, unplaced_of}
use Rattle.labels.specs.Panels.{panels_of}
use Rattle.labels.specs.Inside.{norms_of, placed_by, Assigned, Assignable}
use Rattle.labels.proofs.Columns.{row_long}
use Rattle.labels.proofs.Searches.{by_panels_lem}
use Rattle.labels.proofs.Places.{unplaced_append}

-- the first i rows are assigned, whatever answers for a row
pub record Assigning (found : ℕ → Option Nearest) (labels₀ labels : List ℕ) (distances : List Float) (tally : Tally) (i : ℕ) : Type 0 where
  pub within : i ≤ length labels₀
  pub labels_sized : length labels ≡ length labels₀
  pub distances_sized : length distances ≡ length labels₀
  pub labels_done : take i labels ≡ tabulate (λ j. label_in (found j)) i
  pub distances_done : take i distances ≡ tabulate (λ j. distance_in (found j)) i
  pub rest : drop i labels ≡ drop i labels₀
  pub so_far : (tally.same && same_all (drop i labels₀) (drop i (tabulate (λ j. label_in (found j)) (length labels₀)))) ≡ same_all labels₀ (tabulate (λ j. label_in (found j)) (length labels₀))
  pub counted : tally.unplaced ≡ unplaced_of (tabulate found i)
  pub few : tally.unplaced ≤ i

pub assigning_start : (found : ℕ → Option Nearest) (labels : List ℕ) (distances : List Float) → length distances ≡ length labels
    → Assigning found labels labels distances (record { same = true; unplaced = 0 }) 0
unfolding unplaced_of
assigning_start found labels distances e = record {
  within = omega arith;
  labels_sized = refl;
  distances_sized = e;
  labels_done = refl;
  distances_done = refl;
  rest = refl;
  so_far = refl;
  counted = refl;
  few = omega arith;
}

-- what stands at i and later is as it was
read : (l l₀ : List ℕ) (i : ℕ) → i < length l → i < length l₀ → drop i l ≡ drop i l₀ → (get_or l i 0 ≡ get_or l₀ i 0) × (drop (suc i) l ≡ drop (suc i) l₀)
read l l₀ i h h₀ e =
    let p : get_or l i 0 ∷ drop (suc i) l ≡ get_or l₀ i 0 ∷ drop (suc i) l₀ = sym (drop-cons l i 0 h) ∙ (e ∙ drop-cons l₀ i 0 h₀) in
    (cc, cc)

module _ {found : ℕ → Option Nearest} {labels₀ labels : List ℕ} {distances : List Float} {tally : Tally} {i : ℕ} (h : Assigning found labels₀ labels distances tally i) where
  -- row i's answer, put to its cells
  pub assigning_step : {labels' : List ℕ} {distances' : List Float} {tally' : Tally} (n : Option Nearest) → i < length labels₀ → n ≡ found i
      → labels' ≡ set labels i (label_in n) → distances' ≡ set distances i (distance_in n) → tally'.same ≡ (tally.same && eqb (get_or labels i 0) (label_in n))
      → tally'.unplaced ≡ tally.unplaced + unplaced_of (n ∷ []) → tally'.unplaced ≤ i + 1
      → Assigning found labels₀ labels' distances' tally' (i + 1)
  assigning_step n l e labels-put distances-put s c f' =
      let f : ℕ → ℕ = λ j. label_in (found j) in
      let p : label_in n ≡ f i = ap label_in e in
      let ll : i < length labels = omega (arith, h.labels_sized) in
      let old = read labels labels₀ i ll l h.rest in
      rw (labels-put, distances-put) record {
        within = omega arith;
        labels_sized = length-set labels i (label_in n) ∙ h.labels_sized;
        distances_sized = length-set distances i (distance_in n) ∙ h.distances_sized;
        labels_done = fill_more _ labels i (label_in n) ll h.labels_done p;
        distances_done = fill_more _ distances i (distance_in n) (omega (arith, h.distances_sized)) h.distances_done (ap distance_in e);
        rest = rw (add-one i) (drop-set-lt (suc i) labels i (label_in n) (omega arith) ∙ old.1);
        so_far = rw (add-one i, s, old.0, p, ← (get_d_tab f (length labels₀) i 0 l), and_assoc)
            (ap (λ (b : Bool). tally.same && b) (sym (same_turn labels₀ (tabulate f (length labels₀)) i l (rw (length_tab f (length labels₀)) l))) ∙ h.so_far);
        counted = c ∙ rw (h.counted, e, add-one i) (sym (unplaced_append (tabulate found i) (found i ∷ [])));
        few = f';
      }

  assigning_labels : length labels₀ ≤ i → labels ≡ tabulate (λ j. label_in (found j)) (length labels₀)
  assigning_labels l =
      let e : length labels₀ ≡ i = omega (arith, h.within) in
      rw e (fill_done _ labels i (omega (arith, h.labels_sized)) h.labels_done)

  assigning_distances : length labels₀ ≤ i → distances ≡ tabulate (λ j. distance_in (found j)) (length labels₀)
  assigning_distances l =
      let e : length labels₀ ≡ i = omega (arith, h.within) in
      rw e (fill_done _ distances i (omega (arith, h.distances_sized)) h.distances_done)

  assigning_same : length labels₀ ≤ i → tally.same ≡ same_all labels₀ labels
  assigning_same l =
      rw (assigning_labels l)
      (sym (and-true tally.same) ∙ rw (same_none labels₀ (tabulate (λ j. label_in (found j)) (length labels₀)) i l (rw (length_tab (λ j. label_in (found j)) (length labels₀)) l)) at h.so_far)

  -- every row has its answer
  pub assigning_end : length labels₀ ≤ i → Assigned (tabulate found (length labels₀)) labels₀ labels distances tally
  assigning_end l =
      let e : i ≡ length labels₀ = omega (arith, h.within) in
      record {
        labelled = assigning_labels l ∙ sym (map_tab label_in found (length labels₀));
        measured = assigning_distances l ∙ sym (map_tab distance_in found (length labels₀));
        same = assigning_same l;
        counted = h.counted ∙ ap (λ (n : ℕ). unplaced_of (tabulate found n)) e;
      }

-- ---- labels and distances by index
module _ (centroids : List Row) (dim n : ℕ) (values : List Float) where
  pub labels_tab : labels_of (nearests centroids (rows_from dim n values)) ≡ tabulate (λ i. label_in (nearest centroids (row_at values dim i))) n
  unfolding nearests
  labels_tab = map-map label_in (nearest centroids) (rows_from dim n values) ∙ map_rows (λ r. label_in (nearest centroids r)) dim n values

  pub distances_tab : distances_of (nearests centroids (rows_from dim n values)) ≡ tabulate (λ i. distance_in (nearest centroids (row_at values dim i))) n
  unfolding nearests
  distances_tab = map-map distance_in (nearest centroids) (rows_from dim n values) ∙ map_rows (λ r. distance_in (nearest centroids r)) dim n values

-- ---- by panels as by centroids

module _ (rows centroids : Rows) (rownorms : List Float) (n m : ℕ) (a : Assignable rows centroids rownorms n m) (cells : ℕ)
    (wide : (centroids.count + 15) / 16 * (16 * centroids.dim) ≤ cells) where
  -- row i's norm is at hand, and row i is as long as a centroid
  same_nearest : (i : ℕ) → i < rows.count
      → placed_by rows rownorms (panels_of centroids cells) (norms_of (rows_of centroids)) i ≡ nearest (rows_of centroids) (row_at rows.values.now rows.dim i)
  unfolding nearest
  same_nearest i h =
      let norm-is : get_or rownorms i nan ≡ norm_of (row_at rows.values.now rows.dim i)
      = ap (λ (l : List Float). get_or l i nan) (a.normed ∙ map_rows norm_of rows.dim rows.count rows.values.now) ∙ get_d_tab (λ j. norm_of (row_at rows.values.now rows.dim j)) rows.count i nan h in
      ap placement (rw norm-is (by_panels_lem (row_at rows.values.now rows.dim i) centroids cells wide (row_long rows i h ∙ sym a.alike)))

  pub by_centroids : {panels norms : List Float} (labels₀ labels : List ℕ) (distances : List Float) (tally : Tally)
      → length labels₀ ≡ n → panels ≡ panels_of centroids cells → norms ≡ norms_of (rows_of centroids)
      → Assigned (tabulate (placed_by rows rownorms panels norms) (length labels₀)) labels₀ labels distances tally
      → Assigned (nearests (rows_of centroids) (rows_of rows)) labels₀ labels distances tally
  unfolding nearests
  by_centroids {panels} {norms} labels₀ labels distances tally e p q b =
      let same : tabulate (placed_by rows rownorms panels norms) (length labels₀) ≡ nearests (rows_of centroids) (rows_of rows)
      = rw (e, a.labelled, p, q) (tab_same _ _ rows.count same_nearest ∙ sym (map_rows (nearest (rows_of centroids)) rows.dim rows.count rows.values.now)) in
      subst (λ (found : List (Option Nearest)). Assigned found labels₀ labels distances tally) same b
