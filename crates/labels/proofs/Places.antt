-- What a search answers, case by case, and how many answers are `None`. Assumes nothing.
use mathlib.Core.Path.{◌≡◌, refl, sym, ap}
use mathlib.Core.Bool.{Bool, true, false, cond}
use mathlib.Core.List.{List, [], ◌∷◌, ◌++◌, map}
use mathlib.Core.Logic.{⊎_elim}
use Prim.Native.Nat.{ℕ, ◌+◌, ◌≤◌}
use native.Mathlib.Omega.{arith}
use lib.ListN.{length}
use lib.Ieee.{Float, nan, inf, fin, lt, eq}
use Rattle.sums.specs.Rows.{Row}
use Rattle.sums.specs.Sums.{infinity}
use Rattle.sums.proofs.Weighs.{one}
use Rattle.std.specs.Prelude.{Option, Some, None}
use Rattle.labels.specs.declared.nearest.Nearest.{Nearest}
use Rattle.labels.specs.Label.{score, search, placement, nearest, nearests, label_in, distance_in, distances_of, unplaced_of}
use Rattle.labels.proofs.Firsts.{FirstOf, first_of}

-- ---- the count
pub unplaced_append : (a b : List (Option Nearest)) → unplaced_of (a ++ b) ≡ unplaced_of a + unplaced_of b
unfolding unplaced_of
unplaced_append [] b = omega arith
unplaced_append (Some best ∷ a) b = omega (arith, unplaced_append a b)
unplaced_append (None ∷ a) b = omega (arith, unplaced_append a b)

pub unplaced_most : (found : List (Option Nearest)) → unplaced_of found ≤ length found
unfolding unplaced_of
unplaced_most [] = omega arith
unplaced_most (Some best ∷ found) = omega (arith, unplaced_most found)
unplaced_most (None ∷ found) = omega (arith, unplaced_most found)

-- ---- label and distance are the search's own, placed or not
module _ (scores : List Float) (r : Nearest) (f : FirstOf scores r) where
  place_label : label_in (placement r) ≡ r.label
  unfolding placement lt
  place_label = ⊎_elim (λ w. rw w.1.1) (λ e. let d : r.distance ≡ infinity = ap (λ (n : Nearest). n.distance) e in let l : r.label ≡ 0 = ap (λ (n : Nearest). n.label) e in rw (d, l)) f.found

  place_distance : distance_in (placement r) ≡ r.distance
  unfolding placement lt
  place_distance = ⊎_elim (λ w. rw w.1.1) (λ e. let d : r.distance ≡ infinity = ap (λ (n : Nearest). n.distance) e in rw d) f.found

module _ (centroids : List Row) (row : Row) where
  pub nearest_label : label_in (nearest centroids row) ≡ (search centroids row).label
  unfolding nearest search
  nearest_label = place_label (map (score row) centroids) _ (first_of (map (score row) centroids))

  pub nearest_distance : distance_in (nearest centroids row) ≡ (search centroids row).distance
  unfolding nearest search
  nearest_distance = place_distance (map (score row) centroids) _ (first_of (map (score row) centroids))

-- ---- a distance is infinite exactly where its row is unplaced

-- how many of the distances are infinite
unfoldable pub infinites_in : List Float → ℕ
infinites_in [] = 0
infinites_in (d ∷ distances) = one (eq d infinity) + infinites_in distances

below_infinity : (d : Float) → lt d infinity ≡ true → eq d infinity ≡ false
unfolding lt eq
below_infinity nan h = refl
below_infinity (inf true) h = refl
below_infinity (inf false) h = sym h
below_infinity (fin s m e) h = refl

place_infinite : (best : Nearest) → one (eq (distance_in (placement best)) infinity) ≡ unplaced_of (placement best ∷ [])
unfolding placement unplaced_of eq
place_infinite best = go (lt best.distance infinity) refl
  where
    go : (t : Bool) → lt best.distance infinity ≡ t
        → one (eq (distance_in (cond t (Some best) None)) infinity) ≡ unplaced_of (cond t (Some best) None ∷ [])
    go true e = rw (below_infinity best.distance e)
    go false e = refl

pub infinite_unplaced : (centroids rows : List Row) → infinites_in (distances_of (nearests centroids rows)) ≡ unplaced_of (nearests centroids rows)
unfolding nearests nearest infinites_in unplaced_of
infinite_unplaced centroids [] = refl
infinite_unplaced centroids (row ∷ rows) =
    omega (
      arith,
      place_infinite (search centroids row),
      infinite_unplaced centroids rows,
      unplaced_append (nearest centroids row ∷ []) (nearests centroids rows),
    )
