-- Rows of a flat list: by index, set in place, lent as parts. Assumes nothing.
use Rattle.std.proofs.Common.{◌≡◌, ℕ, zero, suc, ◌+◌, ◌-◌, ◌*◌, ◌/◌, ◌%◌, ◌<◌, ◌≤◌, List, [], ◌∷◌, ◌++◌, map, length, get_or, take, drop, set, replicate, sym, refl, ap, ◌∙◌, append_assoc, le_of_suc-le-suc, not-suc-le-zero, mul-le-mul_right, mod-eq_of_lt, suc-mul, add_comm, zero-add, zero-mul, arith, length-drop, take-append-drop, length-take-le, take-take, drop-drop, take_at, take-add, drop_at}
use mathlib.Core.List.{flatten}
use native.Mathlib.Nat.{add-mul-div_right, add-mul-mod_self_right, div-eq_of_lt, add-sub_cancel_left}
use lib.ListN.{length-replicate, replicate-append-replicate}
use borrow.Rule.Slice.PartMut.{put_mid}
use Rattle.sums.specs.Tables.{tabulate}
use Rattle.sums.specs.Rows.{rows_from, row_at}
use Rattle.sums.proofs.Tables.{tab_same, tab_front}
use Rattle.sums.proofs.Fronts.{drop_take}

-- row j of k rows lies inside
pub room : (j k dim : ℕ) → j < k → j * dim + dim ≤ k * dim
room j k dim h = rw suc-mul at (mul-le-mul_right dim h)

-- cell d of row j: the quotient is the row, the remainder the cell
pub row_of : (j dim d : ℕ) → d < dim → (j * dim + d) / dim ≡ j
row_of j dim d h =
    let some : 0 < dim = omega arith in
    rw (add_comm (j * dim) d, add-mul-div_right d j some, div-eq_of_lt h, zero-add)

pub cell_of : (j dim d : ℕ) → d < dim → (j * dim + d) % dim ≡ d
cell_of j dim d h = rw (add_comm (j * dim) d, add-mul-mod_self_right d j dim, mod-eq_of_lt h)

module _ {A : Type 0} where
  pub rows_length : (dim n : ℕ) (values : List A) → length (rows_from dim n values) ≡ n
  unfolding rows_from
  rows_length dim zero values = refl
  rows_length dim (suc n) values = ap suc (rows_length dim n (drop dim values))

  pub row_at_lem : (dim n : ℕ) (values : List A) (i : ℕ) (d : List A) → i < n → get_or (rows_from dim n values) i d ≡ row_at values dim i
  unfolding rows_from
  row_at_lem dim zero values i d h = absurd (not-suc-le-zero h)
  row_at_lem dim (suc n) values zero d h = rw zero-mul
  row_at_lem dim (suc n) values (suc i) d h =
      row_at_lem dim n (drop dim values) i d (le_of_suc-le-suc h) ∙ rw (drop-drop (i * dim) dim values, suc-mul, add_comm dim (i * dim))

  -- rows are read off a front that has them all
  pub rows_front : (dim n m : ℕ) (values : List A) → n * dim ≤ m → rows_from dim n (take m values) ≡ rows_from dim n values
  unfolding rows_from
  rows_front dim zero m values h = refl
  rows_front dim (suc n) m values h =
      let k : dim + n * dim ≤ m = omega (arith, h, suc-mul n dim) in
      rw (take-take dim m values (omega (arith, k)), drop_take dim m values (omega (arith, k)), rows_front dim n (m - dim) (drop dim values) (omega (arith, k)))

  -- row i overwritten in the flat list is row i set in the list of rows
  pub rows_put : (dim n : ℕ) (values : List A) (i : ℕ) (row : List A) → i < n → n * dim ≤ length values → length row ≡ dim
      → rows_from dim n (put_mid (i * dim) dim values row) ≡ set (rows_from dim n values) i row
  unfolding rows_from
  rows_put dim zero values i row h f e = absurd (not-suc-le-zero h)
  rows_put dim (suc n) values zero row h f e = rw (zero-mul, take_at row (drop dim values) dim e, drop_at row (drop dim values) dim e)
  rows_put dim (suc n) values (suc i) row h f e =
      let g : dim + n * dim ≤ length values = omega (arith, rw suc-mul at f) in
      let l : length (take dim values) ≡ dim = length-take-le dim values (omega arith) in
      let s : put_mid (suc i * dim) dim values row ≡ take dim values ++ put_mid (i * dim) dim (drop dim values) row
      = rw (suc-mul, add_comm (i * dim) dim, take-add dim (i * dim) values, append_assoc, ← drop-drop (i * dim) dim values) in
      rw (s, take_at (take dim values) (put_mid (i * dim) dim (drop dim values) row) dim l, drop_at (take dim values) (put_mid (i * dim) dim (drop dim values) row) dim l)
      (ap (λ (x : List (List A)). take dim values ∷ x) (rows_put dim n (drop dim values) i row (le_of_suc-le-suc h) (rw length-drop (omega arith)) e))

  pub map_rows : {B : Type 0} (f : List A → B) (dim n : ℕ) (values : List A) → map f (rows_from dim n values) ≡ tabulate (λ i. f (row_at values dim i)) n
  unfolding rows_from
  map_rows f dim zero values = refl
  map_rows f dim (suc n) values =
      rw (map_rows f dim n (drop dim values))
      (sym (tab_front (λ i. f (row_at values dim i)) n
      ∙ rw (
        zero-mul,
        tab_same (λ i. f (row_at values dim (suc i))) (λ i. f (row_at (drop dim values) dim i)) n
            (λ i h. rw (drop-drop (i * dim) dim values, suc-mul, add_comm dim (i * dim))),
      )))

  pub rows_flat : (dim n : ℕ) (values : List A) → length values ≡ n * dim → flatten (rows_from dim n values) ≡ values
  unfolding rows_from flatten
  rows_flat dim zero [] h = refl
  rows_flat dim zero (x ∷ values) h = absurd (omega (arith, rw zero-mul at h))
  rows_flat dim (suc n) values h =
      let g : length (drop dim values) ≡ n * dim = rw length-drop (omega (arith, rw suc-mul at h)) in
      rw (rows_flat dim n (drop dim values) g) (take-append-drop dim values)

  -- n rows alike, when every cell is v
  pub rows_alike : (dim n : ℕ) (v : A) → rows_from dim n (replicate (n * dim) v) ≡ replicate n (replicate dim v)
  unfolding rows_from
  rows_alike dim zero v = refl
  rows_alike dim (suc n) v =
      let e : replicate (suc n * dim) v ≡ replicate dim v ++ replicate (n * dim) v
      = rw (replicate-append-replicate dim (n * dim) v, suc-mul, add_comm dim (n * dim)) in
      let l : length (replicate dim v) ≡ dim = length-replicate dim v in
      rw (e, take_at (replicate dim v) (replicate (n * dim) v) dim l, drop_at (replicate dim v) (replicate (n * dim) v) dim l, rows_alike dim n v)

  -- ---- the part of a slice that a loop lends: row i
  pub part_length : (at dim : ℕ) (values : List A) → at + dim ≤ length values → length (take (at + dim - at) (drop at values)) ≡ dim
  part_length at dim values h = rw add-sub_cancel_left (length-take-le dim (drop at values) (rw length-drop (omega arith)))

  pub part_row : (dim n : ℕ) (values : List A) (i : ℕ) → i < n → take (i * dim + dim - i * dim) (drop (i * dim) values) ≡ get_or (rows_from dim n values) i []
  part_row dim n values i h = rw add-sub_cancel_left (sym (row_at_lem dim n values i [] h))

  pub part_put : (dim n : ℕ) (values : List A) (i : ℕ) (row : List A) → i < n → n * dim ≤ length values → length row ≡ dim
      → rows_from dim n (put_mid (i * dim) (i * dim + dim - i * dim) values row) ≡ set (rows_from dim n values) i row
  part_put dim n values i row h f e = rw add-sub_cancel_left (rows_put dim n values i row h f e)
