-- The search for the row closest to a centroid. Assumes nothing.
use mathlib.Core.Path.{◌≡◌, sym}
use mathlib.Core.List.{List, [], ◌∷◌}
use mathlib.Core.Bool.{Bool, true, false, cond}
use Prim.Native.Nat.{ℕ, suc, ◌+◌, ◌≤◌, ◌<◌}
use native.Mathlib.Numerals.{add-one}
use native.Mathlib.Omega.{arith}
use lib.ListN.{length, get_or, drop, drop_of_length-le}
use lib.Seq.{drop-cons}
use lib.Ieee.{Float, lt}
use Rattle.sums.specs.Rows.{Row, row_at}
use Rattle.sums.specs.Table.{rows_of}
use Rattle.sums.specs.declared.readings.Rows.{Rows}
use Rattle.sums.specs.Cells.{Below}
use Rattle.sums.specs.Sums.{apart_of}
use Rattle.sums.proofs.Rows.{row_at_lem}
use Rattle.grouping.specs.Balance.{Closest, closest_from, closest_of, toward}

-- ---- the place found lies in the part
from_in : (rows : List Row) (centroid : Row) (n place : ℕ) (part : List ℕ) (best : Closest) → best.place < n → place + length part ≤ n
    → (closest_from rows centroid place part best).place < n
unfolding closest_from
from_in rows centroid n place [] best h k = h
from_in rows centroid n place (r ∷ part) best h k = go (lt apart best.apart) (λ best' p. from_in rows centroid n (suc place) part best' p (omega arith))
  where
    apart : Float
    apart = apart_of (get_or rows r []) centroid

    go : (b : Bool) → ((best' : Closest) → best'.place < n → (closest_from rows centroid (suc place) part best').place < n)
        → (closest_from rows centroid (suc place) part (cond b (record { place = place; apart = apart }) best)).place < n
    go true ih = ih (record { place = place; apart = apart }) (omega arith)
    go false ih = ih best h

pub closest_in : (rows : List Row) (centroid : Row) (part : List ℕ) → 0 < length part → closest_of rows centroid part < length part
unfolding closest_of
closest_in rows centroid [] h = absurd (omega arith)
closest_in rows centroid (r ∷ part) h =
    from_in rows centroid (suc (length part)) 1 part (record { place = 0; apart = apart_of (get_or rows r []) centroid }) (omega arith) (omega arith)

pub toward_in : (rows centroids : List Row) (r : ℕ) (part : List ℕ) → 0 < length part → toward rows centroids r part < length part
toward_in rows centroids r part h = closest_in rows (get_or centroids r []) part h

-- ---- the row that a place of the part names
pub row_named : (rows : Rows) (part : List ℕ) → Below rows.count part → (i x : ℕ) → i < length part → x ≡ get_or part i 0
    → row_at rows.values.now rows.dim x ≡ get_or (rows_of rows) (get_or part i 0) []
row_named rows part b i x p e = rw e (sym (row_at_lem rows.dim rows.count rows.values.now (get_or part i 0) [] (b i p)))

-- ---- the turns of the search: i rows are passed, and the best of them is known
pub record Searching (rows : List Row) (centroid : Row) (part : List ℕ) (best : Float) (place i : ℕ) : Type 0 where
  pub inside : place < length part
  pub left : (closest_from rows centroid i (drop i part) (record { place = place; apart = best })).place ≡ closest_of rows centroid part

pub searching_start : (rows : List Row) (centroid : Row) (part : List ℕ) (best : Float) → 0 < length part
    → best ≡ apart_of (get_or rows (get_or part 0 0) []) centroid → Searching rows centroid part best 0 1
unfolding closest_of
searching_start rows centroid [] best h e = absurd (omega arith)
searching_start rows centroid (r ∷ part) best h e = record { inside = h; left = rw e }

module _ {rows : List Row} {centroid : Row} {part : List ℕ} {best : Float} {place i : ℕ} (h : Searching rows centroid part best place i) where
  pub searching_end : length part ≤ i → place ≡ closest_of rows centroid part
  unfolding closest_from
  searching_end k = rw (drop_of_length-le part {i = i} k) at h.left

  module _ (p : i < length part) (apart : Float) (e : apart ≡ apart_of (get_or rows (get_or part i 0) []) centroid) where
    step : closest_from rows centroid i (drop i part) (record { place = place; apart = best })
        ≡ closest_from rows centroid (suc i) (drop (suc i) part) (cond (lt apart best) (record { place = i; apart = apart }) (record { place = place; apart = best }))
    unfolding closest_from
    step = rw (drop-cons part i 0 p, e)

    pub searching_closer : lt apart best ≡ true → Searching rows centroid part apart i (i + 1)
    searching_closer t = record { inside = p; left = rw (add-one i) (rw (step, t) at h.left) }

    pub searching_on : lt apart best ≡ false → Searching rows centroid part best place (i + 1)
    searching_on t = record { inside = h.inside; left = rw (add-one i) (rw (step, t) at h.left) }
