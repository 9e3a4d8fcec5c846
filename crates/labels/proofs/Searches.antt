-- The search for the nearest centroid: score after score, panel after panel, and by panels as by centroids. Assumes nothing.
use Prim.Native.Nat.{ℕ, suc, ◌+◌, ◌-◌, ◌*◌, ◌/◌, ◌%◌, ◌≤◌, ◌<◌}
use mathlib.Core.Path.{◌≡◌, refl, sym, ap, ◌∙◌}
use mathlib.Core.List.{List, [], ◌∷◌, ◌++◌}
use native.Mathlib.Nat.{add-zero, zero-add, add-suc, suc-add, add-sub_cancel_left}
use native.Mathlib.Numerals.{add-one}
use native.Mathlib.Omega.{arith}
use lib.ListN.{length, get_or, take, drop}
use lib.Ieee.{Float, nan}
use Rattle.sums.specs.Rows.{Row, row_at}
use Rattle.sums.specs.Sums.{norm_of, dot_of}
use Rattle.sums.specs.Table.{rows_of}
use Rattle.sums.specs.Tables.{tabulate}
use Rattle.sums.specs.declared.readings.Rows.{Rows}
use Rattle.sums.proofs.Tables.{tab_add, tab_same, length_tab, get_d_tab}
use Rattle.sums.proofs.Rows.{room, map_rows}
use Rattle.labels.specs.declared.nearest.Nearest.{Nearest}
use Rattle.labels.specs.Label.{score_from, score, better, nearest_from, nothing_yet, search}
use Rattle.labels.specs.Panels.{column_of, panels_of, dots_of}
use Rattle.labels.specs.Inside.{norms_of, by_panels}
use Rattle.labels.proofs.Columns.{column_centroid, dots_at}

from_append : (i : ℕ) (l m : List Float) (best : Nearest) → nearest_from i (l ++ m) best ≡ nearest_from (i + length l) m (nearest_from i l best)
unfolding nearest_from
from_append i [] m best = rw add-zero
from_append i (s ∷ l) m best = from_append (suc i) l m (better i s best) ∙ rw (suc-add, add-suc)

-- m scores more
nearest_add : (f : ℕ → Float) (n m : ℕ) (best : Nearest)
    → nearest_from 0 (tabulate f (n + m)) best ≡ nearest_from n (tabulate (λ j. f (n + j)) m) (nearest_from 0 (tabulate f n) best)
nearest_add f n m best = rw tab_add (from_append 0 (tabulate f n) (tabulate (λ j. f (n + j)) m) best ∙ rw (zero-add, length_tab))

-- one more
pub from_more : (i : ℕ) (f : ℕ → Float) (n : ℕ) (best : Nearest)
    → nearest_from i (tabulate f (n + 1)) best ≡ better (i + n) (f n) (nearest_from i (tabulate f n) best)
unfolding nearest_from
from_more i f n best = rw add-one (from_append i (tabulate f n) (f n ∷ []) best ∙ rw length_tab)

-- the best after `count` clusters from `from` on, by their dots with the row
abbrev pub Scanned : Nearest → Float → List Float → List Float → ℕ → ℕ → Nearest
Scanned best rownorm dots norms from count = nearest_from from (tabulate (λ j. score_from rownorm (get_or norms (from + j) nan) (get_or dots j nan)) count) best

-- ---- by panels: cluster c is column c % 16 of panel c / 16
unfoldable pub panel_score : Row → Float → List Float → List Float → ℕ → Float
panel_score row rownorm panels norms c =
    score_from rownorm (get_or norms c nan) (dot_of row (column_of (row_at panels (16 * length row) (c / 16)) (length row) (c % 16)))

pub panel_scores : (row : Row) (rownorm : Float) (panels norms : List Float) → by_panels row rownorm panels norms ≡ nearest_from 0 (tabulate (panel_score row rownorm panels norms) (length norms)) nothing_yet
unfolding by_panels panel_score
panel_scores row rownorm panels norms = refl

-- `n` clusters more, those of panel g: their dots are the first of `dots`
pub panel_more : (row : Row) (rownorm : Float) (panels norms dots : List Float) (g n wide : ℕ) (best best' : Nearest)
    → n ≤ 16 → wide ≡ 16 * length row
    → dots ≡ dots_of row (take (g * wide + wide - g * wide) (drop (g * wide) panels))
    → best ≡ nearest_from 0 (tabulate (panel_score row rownorm panels norms) (16 * g)) nothing_yet
    → best' ≡ Scanned best rownorm dots norms (16 * g) n
    → best' ≡ nearest_from 0 (tabulate (panel_score row rownorm panels norms) (16 * g + n)) nothing_yet
unfolding panel_score
panel_more row rownorm panels norms dots g n wide best best' small w d b e =
    let f = panel_score row rownorm panels norms in
    let same : tabulate (λ j. score_from rownorm (get_or norms (16 * g + j) nan) (get_or dots j nan)) n ≡ tabulate (λ j. f (16 * g + j)) n
    = tab_same _ _ n (λ j l.
    let lo : j < 16 = omega arith in
    let q : (16 * g + j) / 16 ≡ g = omega arith in
    let r : (16 * g + j) % 16 ≡ j = omega arith in
    rw (q, r, d, dots_at _ _ j lo, add-sub_cancel_left, w)) in
    e ∙ rw (same, b) (sym (nearest_add f (16 * g) n nothing_yet))

pub norms_length : (rows : Rows) → length (norms_of (rows_of rows)) ≡ rows.count
norms_length rows = ap length (map_rows norm_of rows.dim rows.count rows.values.now) ∙ length_tab _ rows.count

-- the panels of the centroids give the centroids' scores
module _ (row : Row) (centroids : Rows) (n : ℕ) (wide : (centroids.count + 15) / 16 * (16 * centroids.dim) ≤ n) (long : length row ≡ centroids.dim) where
  one_score : (c : ℕ) → c < centroids.count
      → panel_score row (norm_of row) (panels_of centroids n) (norms_of (rows_of centroids)) c ≡ score row (row_at centroids.values.now centroids.dim c)
  unfolding panel_score score
  one_score c h =
      let e : 16 * (c / 16) + c % 16 ≡ c = omega arith in
      rw (
        long,
        column_centroid centroids n (c / 16) (c % 16) (omega arith) (omega (arith, room (c / 16) ((centroids.count + 15) / 16) (16 * centroids.dim) (omega arith))) (rw e h),
        e,
        map_rows norm_of centroids.dim centroids.count centroids.values.now,
        get_d_tab (λ i. norm_of (row_at centroids.values.now centroids.dim i)) centroids.count c nan h,
      )

  pub by_panels_lem : by_panels row (norm_of row) (panels_of centroids n) (norms_of (rows_of centroids)) ≡ search (rows_of centroids) row
  unfolding search
  by_panels_lem =
      panel_scores row (norm_of row) (panels_of centroids n) (norms_of (rows_of centroids))
      ∙ ap (λ (scores : List Float). nearest_from 0 scores nothing_yet)
      (rw (norms_length centroids) (tab_same _ _ centroids.count one_score ∙ sym (map_rows (score row) centroids.dim centroids.count centroids.values.now)))
