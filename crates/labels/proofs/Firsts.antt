-- What the search for the nearest finds: the first of smallest score, with a distance that is no NaN. Assumes nothing.
use mathlib.Core.Path.{◌≡◌, refl, sym, ap, ◌∙◌}
use mathlib.Core.Bool.{Bool, true, false, cond, false≢true}
use mathlib.Core.List.{List, [], ◌∷◌, ◌++◌, map, append-nil, append_assoc}
use mathlib.Core.Logic.{◌⊎◌, ⊎_elim, inl, inr}
use Prim.Native.Nat.{ℕ, suc, ◌+◌, ◌≤◌, ◌<◌}
use native.Mathlib.Nat.{not-suc-le-zero, eq-or-lt_of_le, le_of_suc-le-suc}
use native.Mathlib.Numerals.{add-one}
use native.Mathlib.Omega.{arith}
use lib.ListN.{length, get_or, get_or-append, length-append, length-map}
use lib.Seq.{get_or-append_seam}
use lib.Ieee.{Float, nan, lt, le, is_nan}
use Rattle.sums.specs.Rows.{Row}
use Rattle.sums.specs.Sums.{infinity}
use Rattle.sums.proofs.Floats.{le_lt_trans, lt_trans, lt_irrefl, not_true_false, lt_known}
use Rattle.labels.specs.declared.nearest.Nearest.{Nearest}
use Rattle.labels.specs.Label.{score, better, nearest_from, nothing_yet, search}

pub record FirstOf (scores : List Float) (r : Nearest) : Type 0 where
  -- no score is below the distance
  pub smallest : (j : ℕ) → j < length scores → lt (get_or scores j nan) r.distance ≡ false
  -- no score of an earlier cluster is at or below it
  pub first : (j : ℕ) → j < r.label → le (get_or scores j nan) r.distance ≡ false
  -- it is the label's score, below infinity; or no score is below infinity: cluster 0 with distance infinity
  pub found : ((r.label < length scores) × ((get_or scores r.label nan ≡ r.distance) × (lt r.distance infinity ≡ true))) ⊎ (r ≡ nothing_yet)

clash : {b : Bool} → b ≡ true → b ≡ false → ⊥
clash {b} p q = false≢true (sym q ∙ p)

module _ (seen : List Float) (s : Float) where
  longer : length (seen ++ (s ∷ [])) ≡ suc (length seen)
  longer = length-append seen (s ∷ []) ∙ add-one (length seen)

  -- an index of those seen, or the last one
  at : {P : ℕ → Type 0} → ((i : ℕ) → i < length seen → P i) → P (length seen) → (i : ℕ) → i < length (seen ++ (s ∷ [])) → P i
  at old last i h = elim (eq-or-lt_of_le (le_of_suc-le-suc (rw longer at h))) [ inl e ↦ rw e last | inr l ↦ old i l ]

  module _ (best : Nearest) (f : FirstOf seen best) where
    -- s is strictly below the best
    taken : lt s best.distance ≡ true → FirstOf (seen ++ (s ∷ [])) (record { label = length seen; distance = s })
    taken h = record {
      smallest = at {P = λ i. lt (get_or (seen ++ (s ∷ [])) i nan) s ≡ false}
          (λ i l. rw (get_or-append seen (s ∷ []) nan i l) (not_true_false (lt (get_or seen i nan) s) (λ e. clash (lt_trans (get_or seen i nan) s best.distance e h) (f.smallest i l))))
          (rw (get_or-append_seam seen s [] nan) (lt_irrefl s));
      first = λ i l. rw (get_or-append seen (s ∷ []) nan i l) (not_true_false (le (get_or seen i nan) s) (λ e. clash (le_lt_trans (get_or seen i nan) s best.distance e h) (f.smallest i l)));
      found = inl (
        rw longer (omega arith),
        (
          get_or-append_seam seen s [] nan,
          ⊎_elim (λ w. lt_trans s best.distance infinity h w.1.1) (λ e. let d : best.distance ≡ infinity = ap (λ (n : Nearest). n.distance) e in rw d at h) f.found,
        ),
      );
    }

    -- it is not
    left : lt s best.distance ≡ false → FirstOf (seen ++ (s ∷ [])) best
    left h = record {
      smallest = at {P = λ i. lt (get_or (seen ++ (s ∷ [])) i nan) best.distance ≡ false}
          (λ i l. rw (get_or-append seen (s ∷ []) nan i l) (f.smallest i l))
          (rw (get_or-append_seam seen s [] nan) h);
      first = λ i l. ⊎_elim
          (λ w. rw (get_or-append seen (s ∷ []) nan i (omega arith)) (f.first i l))
          (λ e. absurd (not-suc-le-zero (rw e at l)))
          f.found;
      found = ⊎_elim (λ w. inl (rw longer (omega (arith, w.0)), (get_or-append seen (s ∷ []) nan best.label w.0 ∙ w.1.0, w.1.1))) (λ e. inr e) f.found;
    }

    step : FirstOf (seen ++ (s ∷ [])) (better (length seen) s best)
    unfolding better
    step = go (lt s best.distance) refl
      where
        go : (t : Bool) → lt s best.distance ≡ t → FirstOf (seen ++ (s ∷ [])) (cond t (record { label = length seen; distance = s }) best)
        go true e = taken e
        go false e = left e

from : (seen scores : List Float) (best : Nearest) → FirstOf seen best → FirstOf (seen ++ scores) (nearest_from (length seen) scores best)
unfolding nearest_from
from seen [] best f = rw append-nil f
from seen (s ∷ scores) best f =
    rw (append_assoc seen (s ∷ []) scores, longer seen s) at (from (seen ++ (s ∷ [])) scores (better (length seen) s best) (step seen s best f))

pub first_of : (scores : List Float) → FirstOf scores (nearest_from 0 scores nothing_yet)
first_of scores =
    from [] scores nothing_yet (record { smallest = λ i h. absurd (not-suc-le-zero h); first = λ i h. absurd (not-suc-le-zero h); found = inr refl })

-- a label is a cluster's number
from_below : (c m : ℕ) (scores : List Float) (best : Nearest) → c + length scores ≤ m → best.label < m → (nearest_from c scores best).label < m
unfolding nearest_from better
from_below c m [] best h b = b
from_below c m (s ∷ scores) best h b = from_below (suc c) m scores (better c s best) (omega arith) (go (lt s best.distance))
  where
    go : (t : Bool) → (cond t (record { label = c; distance = s }) best).label < m
    go true = omega arith
    go false = b

pub search_below : (centroids : List Row) (row : Row) → 0 < length centroids → (search centroids row).label < length centroids
unfolding search
search_below centroids row h = from_below 0 (length centroids) (map (score row) centroids) nothing_yet (omega (arith, length-map centroids (score row))) h

-- ---- the distance of the nearest is never a NaN, as only what is below the best takes its place
better_known : (cluster : ℕ) (s : Float) (best : Nearest) → is_nan best.distance ≡ false → is_nan (better cluster s best).distance ≡ false
unfolding better
better_known cluster s best h = go (lt s best.distance) refl
  where
    go : (t : Bool) → lt s best.distance ≡ t → is_nan (cond t (record { label = cluster; distance = s }) best).distance ≡ false
    go true e = lt_known s best.distance e
    go false e = h

pub from_known : (cluster : ℕ) (scores : List Float) (best : Nearest) → is_nan best.distance ≡ false → is_nan (nearest_from cluster scores best).distance ≡ false
unfolding nearest_from
from_known cluster [] best h = h
from_known cluster (s ∷ scores) best h = from_known (suc cluster) scores (better cluster s best) (better_known cluster s best h)
