-- Panels: a turn of each loop that fills them, a turn of the sixteen dots, and each column a centroid again. Assumes nothing.
use Prim.Native.Nat.{ℕ, ◌+◌, ◌*◌, ◌/◌, ◌%◌, ◌≤◌, ◌<◌}
use mathlib.Core.Path.{◌≡◌, refl, sym, ◌∙◌}
use mathlib.Core.List.{List}
use native.Mathlib.Nat.{mul_left_comm}
use native.Mathlib.Numerals.{add-one}
use native.Mathlib.Omega.{arith}
use borrow.Author.Tests.{lt-ltb}
use lib.ListN.{length, take, drop, get_or, replicate, length-drop}
use lib.Seq.{take-suc, length-take-le, take-length, ext_get_or, get_or-take, get_or-drop}
use lib.Ieee.{Float, nan, binary32, add, mul}
use Rattle.sums.specs.Rows.{Row, row_at}
use Rattle.sums.specs.Sums.{zero32, dot_of, sum_from}
use Rattle.sums.specs.Tables.{tabulate}
use Rattle.sums.specs.declared.readings.Rows.{Rows}
use Rattle.sums.proofs.Tables.{get_d_tab, length_tab, tab_same}
use Rattle.sums.proofs.Rows.{room, row_of, cell_of}
use Rattle.sums.proofs.Sums.{dot_snoc}
use Rattle.labels.specs.Panels.{value_at, panels_of, column_of, dots_of}

-- each of the rows is `dim` long
pub row_long : (rows : Rows) (i : ℕ) → i < rows.count → length (row_at rows.values.now rows.dim i) ≡ rows.dim
row_long rows i h =
    length-take-le rows.dim (drop (i * rows.dim) rows.values.now) (rw length-drop (omega (arith, room i rows.count rows.dim h, rows.whole)))

-- ---- sixteen dots: the dot of the row's first i values with column j
abbrev pub lane_at : List Float → Float → List Float → ℕ → ℕ → Float
lane_at acc x panel at j = add binary32 (get_or acc j nan) (mul binary32 x (get_or panel (at + j) nan))

-- sixteen sums, each with one product more
unfoldable pub lane_of : List Float → Float → List Float → ℕ → List Float
lane_of acc x panel at = tabulate (lane_at acc x panel at) 16

pub lane_is : (acc : List Float) (x : Float) (panel : List Float) (at : ℕ) → tabulate (lane_at acc x panel at) 16 ≡ lane_of acc x panel at
unfolding lane_of
lane_is acc x panel at = refl

abbrev part_at : Row → List Float → ℕ → ℕ → Float
part_at row panel i j = dot_of (take i row) (column_of panel i j)

unfoldable pub parts_of : Row → List Float → ℕ → List Float
parts_of row panel i = tabulate (part_at row panel i) 16

pub parts_length : (row panel : List Float) (i : ℕ) → length (parts_of row panel i) ≡ 16
unfolding parts_of
parts_length row panel i = length_tab (part_at row panel i) 16

pub parts_none : (row panel : List Float) → replicate 16 zero32 ≡ parts_of row panel 0
unfolding parts_of dot_of sum_from
parts_none row panel = refl

-- for any number n of lanes, so that nothing computes
part_more : (row panel : List Float) (n i j : ℕ) → i < length row → j < n
    → lane_at (tabulate (part_at row panel i) n) (get_or row i nan) panel (16 * i) j ≡ part_at row panel (i + 1) j
part_more row panel n i j h l =
    rw (get_d_tab (part_at row panel i) n j nan l, add-one i, take-suc row i nan h)
    (sym (dot_snoc (take i row) (column_of panel i j) _ _ (length-take-le i row (omega arith) ∙ sym (length_tab _ i))))

lanes_more : (row panel : List Float) (n i : ℕ) → i < length row
    → tabulate (lane_at (tabulate (part_at row panel i) n) (get_or row i nan) panel (16 * i)) n ≡ tabulate (part_at row panel (i + 1)) n
lanes_more row panel n i h = tab_same _ _ n (λ j l. part_more row panel n i j h l)

lanes_are : (row panel : List Float) (i : ℕ) → i < length row → lane_of (parts_of row panel i) (get_or row i nan) panel (16 * i) ≡ parts_of row panel (i + 1)
unfolding lane_of parts_of
lanes_are row panel i h = lanes_more row panel 16 i h

pub parts_more : (row panel acc acc' : List Float) (i : ℕ) → i < length row → acc ≡ parts_of row panel i → acc' ≡ tabulate (lane_at acc (get_or row i nan) panel (16 * i)) 16 → acc' ≡ parts_of row panel (i + 1)
parts_more row panel acc acc' i h e p = p ∙ lane_is acc (get_or row i nan) panel (16 * i) ∙ rw e (lanes_are row panel i h)

pub parts_done : (row panel : List Float) → parts_of row panel (length row) ≡ dots_of row panel
unfolding parts_of dots_of
parts_done row panel = tab_same (part_at row panel (length row)) (λ j. dot_of row (column_of panel (length row) j)) 16 (λ j l. rw take-length)

-- one of the sixteen
pub dots_at : (row panel : List Float) (j : ℕ) → j < 16 → get_or (dots_of row panel) j nan ≡ dot_of row (column_of panel (length row) j)
unfolding dots_of
dots_at row panel j h = get_d_tab (λ i. dot_of row (column_of panel (length row) i)) 16 j nan h

-- ---- what stands at a place of one panel, and of them all
module _ (centroids : Rows) where
  abbrev dim : ℕ
  dim = centroids.dim

  abbrev pub in_panel : ℕ → ℕ → Float
  in_panel first p = value_at centroids (first + p % 16) (p / 16)

  abbrev pub in_panels : ℕ → Float
  in_panels p = value_at centroids (16 * (p / 16 / dim) + p % 16) (p / 16 % dim)

  -- line d of a panel
  pub line_is : (first d : ℕ) → tabulate (λ j. value_at centroids (first + j) d) 16 ≡ tabulate (λ j. in_panel first (16 * d + j)) 16
  line_is first d = lines 16 (omega arith)
    where
      lines : (n : ℕ) → n ≤ 16 → tabulate (λ j. value_at centroids (first + j) d) n ≡ tabulate (λ j. in_panel first (16 * d + j)) n
      lines n h = tab_same _ _ n (λ j l.
          let q : (16 * d + j) / 16 ≡ d = omega arith in
          let r : (16 * d + j) % 16 ≡ j = omega arith in
          rw (q, r))

  -- the place of p in panel g
  place_in : (g p : ℕ) → p < 16 * dim → in_panels (g * (16 * dim) + p) ≡ in_panel (16 * g) p
  place_in g p h =
      let m : g * (16 * dim) ≡ 16 * (g * dim) = mul_left_comm g 16 dim in
      let q : (g * (16 * dim) + p) / 16 ≡ g * dim + p / 16 = omega arith in
      let r : (g * (16 * dim) + p) % 16 ≡ p % 16 = omega arith in
      let l : p / 16 < dim = omega arith in
      rw (q, r, row_of g dim (p / 16) l, cell_of g dim (p / 16) l)

  pub panel_is : (g : ℕ) → tabulate (in_panel (16 * g)) (16 * dim) ≡ tabulate (λ p. in_panels (g * (16 * dim) + p)) (16 * dim)
  panel_is g = sym (tab_same (λ p. in_panels (g * (16 * dim) + p)) (in_panel (16 * g)) (16 * dim) (place_in g))

-- ---- column j of panel g is centroid 16·g + j
module _ (centroids : Rows) (n g j : ℕ) (hj : j < 16) (inside : g * (16 * centroids.dim) + 16 * centroids.dim ≤ n) where
  column_values : column_of (row_at (panels_of centroids n) (16 * centroids.dim) g) centroids.dim j ≡ tabulate (value_at centroids (16 * g + j)) centroids.dim
  unfolding panels_of
  column_values = let dim = centroids.dim in tab_same _ _ dim (λ d l.
      let q : (16 * d + j) / 16 ≡ d = omega arith in
      let r : (16 * d + j) % 16 ≡ j = omega arith in
      get_or-take (16 * dim) (drop (g * (16 * dim)) (tabulate (in_panels centroids) n)) (16 * d + j) nan (omega arith)
      ∙ get_or-drop (g * (16 * dim)) (tabulate (in_panels centroids) n) (16 * d + j) nan
      ∙ get_d_tab (in_panels centroids) n (g * (16 * dim) + (16 * d + j)) nan (omega arith)
      ∙ place_in centroids g (16 * d + j) (omega arith)
      ∙ rw (q, r))

  pub column_centroid : 16 * g + j < centroids.count
      → column_of (row_at (panels_of centroids n) (16 * centroids.dim) g) centroids.dim j ≡ row_at centroids.values.now centroids.dim (16 * g + j)
  column_centroid h =
      let value = value_at centroids (16 * g + j) in
      column_values ∙ ext_get_or nan _ _ (length_tab value centroids.dim ∙ sym (row_long centroids (16 * g + j) h)) (λ d l.
      get_d_tab value centroids.dim d nan (rw (length_tab value centroids.dim) at l) ∙ rw (lt-ltb (16 * g + j) centroids.count h))

pub panels_length : (centroids : Rows) (n : ℕ) → length (panels_of centroids n) ≡ n
unfolding panels_of
panels_length centroids n = length_tab _ n
