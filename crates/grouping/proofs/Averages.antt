-- The turns of the means: division in place, a group's rows added up, the groups one after the other. Assumes nothing.
use mathlib.Core.Path.{◌≡◌, refl, sym, ap, ◌∙◌}
use mathlib.Core.List.{List, [], ◌∷◌, ◌++◌, map, foldl, flatten, flat_map}
use Prim.Native.Nat.{ℕ, zero, suc, ◌+◌, ◌-◌, ◌*◌, ◌≤◌, ◌<◌}
use native.Mathlib.Numerals.{add-one}
use native.Mathlib.Nat.{add-sub_cancel_left}
use native.Mathlib.Omega.{arith}
use borrow.Rule.Slice.PartMut.{put_mid, mid_of, same_len_mid}
use lib.Ieee.{Float, binary32, div}
use lib.ListN.{length, get_or, take, drop, replicate, length-map, length-replicate, drop_of_length-le}
use lib.Seq.{drop-cons, take-suc, take_all, length-take-le, get_or-take}
use Rattle.sums.specs.Rows.{Row, rows_at}
use Rattle.sums.specs.Table.{rows_of}
use Rattle.sums.specs.declared.readings.Rows.{Rows}
use Rattle.sums.specs.Sums.{zero32, count32, add_row, zero_row}
use Rattle.sums.specs.Refusals.{padded}
use Rattle.sums.specs.Cells.{Below}
use Rattle.sums.proofs.Rows.{room, part_length}
use Rattle.sums.proofs.Fronts.{flat_length}
use Rattle.sums.proofs.Refusing.{padded_none}
use Rattle.grouping.specs.Groups.{mean_of, ends_from}
use Rattle.grouping.proofs.Stretches.{flatten_part, flat_map_snoc, padded_part, ends_length, start_is, end_is}

-- ---- division in place
abbrev pub divided_by : ℕ → Row → Row
divided_by count sums = map (λ s. div binary32 s (count32 count)) sums

-- ---- a group's rows added
abbrev pub add_rows : Row → List Row → Row
add_rows sums rows = foldl add_row sums rows

pub add_length : (a b : Row) → length (add_row a b) ≡ length a
unfolding add_row
add_length [] b = refl
add_length (x ∷ a) [] = refl
add_length (x ∷ a) (y ∷ b) = ap suc (add_length a b)

rows_length : (sums : Row) (rows : List Row) → length (add_rows sums rows) ≡ length sums
rows_length sums [] = refl
rows_length sums (r ∷ rows) = rows_length (add_row sums r) rows ∙ add_length sums r

pub mean_length : (dim : ℕ) (rows : List Row) (group : List ℕ) → length (mean_of dim rows group) ≡ dim
unfolding mean_of
mean_length dim rows group =
    length-map (add_rows (zero_row dim) (rows_at rows group)) _ ∙ rows_length (zero_row dim) (rows_at rows group) ∙ length-replicate dim zero32

pub rows_more : (rows : List Row) (group : List ℕ) (mean whole : Row) (i : ℕ) → i < length group → add_rows mean (rows_at rows (drop i group)) ≡ whole
    → add_rows (add_row mean (get_or rows (get_or group i 0) [])) (rows_at rows (drop (i + 1) group)) ≡ whole
rows_more rows group mean whole i h e = rw (add-one i) (rw (drop-cons group i 0 h) at e)

pub rows_end : (rows : List Row) (group : List ℕ) (mean whole : Row) (i : ℕ) → length group ≤ i → add_rows mean (rows_at rows (drop i group)) ≡ whole → mean ≡ whole
rows_end rows group mean whole i h e = rw (drop_of_length-le group {i = i} h) at e

-- ---- the groups one after the other: g of them are done, and the next starts at `start`
pub record Filling (rows : Rows) (order ends : List ℕ) (groups : ℕ) (means₀ means : Row) (start g : ℕ) : Type 0 where
  pub within : g ≤ groups
  pub size : length means ≡ length means₀
  pub begin : start ≡ get_or (0 ∷ take groups ends) g 0
  pub filled : (gs : List (List ℕ)) → order ≡ flatten gs → take groups ends ≡ ends_from 0 gs
      → means ≡ padded zero32 (length means₀) (flat_map (mean_of rows.dim (rows_of rows)) (take g gs))

-- where a group starts, read in the front of the ends or in all of them
pub heads : (groups : ℕ) (ends : List ℕ) (i : ℕ) → i < groups → get_or (0 ∷ take groups ends) i 0 ≡ get_or (0 ∷ ends) i 0
heads groups ends zero h = refl
heads groups ends (suc i) h = get_or-take groups ends i 0 (omega arith)

pub filling_start : (rows : Rows) (order ends : List ℕ) (groups : ℕ) (means : Row) → means ≡ replicate (length means) zero32
    → Filling rows order ends groups means means 0 0
unfolding flat_map
filling_start rows order ends groups means e = record {
  within = omega arith;
  size = refl;
  begin = refl;
  filled = λ gs p q. e ∙ sym (padded_none zero32 (length means));
}

module _ {rows : Rows} {order ends : List ℕ} {groups : ℕ} {means₀ means : Row} {start g : ℕ} (h : Filling rows order ends groups means₀ means start g)
    (fits : groups ≤ length ends) where
  as_many : (gs : List (List ℕ)) → take groups ends ≡ ends_from 0 gs → length gs ≡ groups
  as_many gs q = sym (ends_length 0 gs) ∙ (ap length (sym q) ∙ length-take-le groups ends fits)

  pub filling_end : groups ≤ g → (gs : List (List ℕ)) → order ≡ flatten gs → take groups ends ≡ ends_from 0 gs
      → means ≡ padded zero32 (length means₀) (flat_map (mean_of rows.dim (rows_of rows)) gs)
  filling_end k gs p q = h.filled gs p q ∙ rw (take_all g gs (omega (arith, as_many gs q)))

  module _ (cut : Below (length order) order × ((i : ℕ) → i < groups → (get_or (0 ∷ ends) i 0 ≤ get_or ends i 0) × (get_or ends i 0 ≤ length order))) (many : length ends ≡ length order) (cells : length means₀ ≡ length order * rows.dim) (p : g < groups)
      (end : ℕ) (q : end ≡ get_or ends g 0) where
    end_at : end ≡ get_or (take groups ends) g 0
    end_at = q ∙ sym (get_or-take groups ends g 0 p)

    pub filling_room : ((start ≤ end) × (end ≤ length order)) × (g * rows.dim + rows.dim ≤ length means)
    filling_room = (
      (omega (arith, h.begin, heads groups ends g p, q, (cut.1 g p).0), omega (arith, q, (cut.1 g p).1)),
      omega (arith, h.size, room g (length order) rows.dim (omega arith)),
    )

    pub filling_more : (last : Row) → last ≡ mean_of rows.dim (rows_of rows) (mid_of start (end - start) order)
        → Filling rows order ends groups means₀ (put_mid (g * rows.dim) (g * rows.dim + rows.dim - g * rows.dim) means last) end (g + 1)
    filling_more last e = record {
      within = omega arith;
      size = same_len_mid {X = Float} (g * rows.dim) (g * rows.dim + rows.dim - g * rows.dim) means last (ap length e ∙ mean_length rows.dim _ _ ∙ sym (part_length (g * rows.dim) rows.dim means filling_room.1)) ∙ h.size;
      begin = rw (add-one g) end_at;
      filled = λ gs o w.
          let R = rows_of rows in
          let n : length gs ≡ groups = as_many gs w in
          let b : start ≡ length (flatten (take g gs)) = h.begin ∙ rw w (start_is 0 gs g (omega arith) ∙ omega arith) in
          let d : end ≡ length (flatten (take g gs)) + length (get_or gs g []) = end_at ∙ rw w (end_is 0 gs g (omega arith) ∙ omega arith) in
          let z : end - start ≡ length (get_or gs g []) = omega arith in
          let m : mid_of start (end - start) order ≡ get_or gs g [] = rw (z, b, o) (flatten_part gs g (omega arith)) in
          let x : length (flat_map (mean_of rows.dim R) (take g gs)) ≡ g * rows.dim
          = flat_length (mean_of rows.dim R) rows.dim (mean_length rows.dim R) (take g gs) ∙ rw (length-take-le g gs (omega arith)) in
          let l : length (mean_of rows.dim R (get_or gs g [])) ≡ rows.dim = mean_length rows.dim R (get_or gs g []) in
          let t : flat_map (mean_of rows.dim R) (take (g + 1) gs) ≡ flat_map (mean_of rows.dim R) (take g gs) ++ mean_of rows.dim R (get_or gs g [])
          = rw (add-one g, take-suc gs g [] (omega arith)) (flat_map_snoc (mean_of rows.dim R) (take g gs) (get_or gs g [])) in
          let f : length (flat_map (mean_of rows.dim R) (take g gs)) + length (mean_of rows.dim R (get_or gs g [])) ≤ length means₀ = omega (arith, filling_room.1, h.size) in
          let r = padded_part zero32 (length means₀) (flat_map (mean_of rows.dim R) (take g gs)) (mean_of rows.dim R (get_or gs g [])) f in
          rw (add-sub_cancel_left, e, m, t, h.filled gs o w) (rw (x, l) at r);
    }
