-- An update gives as many centroids as there are clusters, and so do all iterations. Assumes nothing.
use mathlib.Core.Path.{◌≡◌, refl, sym, ap, ◌∙◌}
use mathlib.Core.Bool.{Bool}
use mathlib.Core.List.{List, [], ◌∷◌}
use Prim.Native.Nat.{ℕ, zero, suc}
use native.Mathlib.Nat.{suc_inj, suc-ne-zero}
use lib.ListN.{length, replicate, get_or, set, length-set, length-replicate}
use Rattle.sums.specs.Rows.{Row}
use Rattle.sums.specs.Sums.{zero_row, add_row}
use Rattle.sphere.proofs.Units.{sphered_length}
use Rattle.std.specs.Prelude.{Option}
use Rattle.labels.specs.declared.nearest.Nearest.{Nearest}
use Rattle.labels.specs.Label.{nearests}
use Rattle.kmeans.specs.Steps.{Fit, counts_from, sums_from, update_from, update, iterate}

counts_length : (counts labels : List ℕ) → length (counts_from counts labels) ≡ length counts
unfolding counts_from
counts_length counts [] = refl
counts_length counts (l ∷ labels) = counts_length _ labels ∙ length-set counts l _

sums_length : (sums : List Row) (labels : List ℕ) (rows : List Row) → length (sums_from sums labels rows) ≡ length sums
unfolding sums_from
sums_length sums [] rows = refl
sums_length sums (l ∷ labels) [] = refl
sums_length sums (l ∷ labels) (r ∷ rows) = sums_length (set sums l (add_row (get_or sums l []) r)) labels rows ∙ length-set sums l _

from_length : (draws : List ℕ) (training : List Row) (n : ℕ) (pool counts : List ℕ) (sums : List Row) → length sums ≡ length counts → length (update_from draws training n pool counts sums) ≡ length counts
unfolding update_from
from_length draws training n pool [] sums h = refl
from_length draws training n pool (c ∷ counts) [] h = absurd (suc-ne-zero (length counts) (sym h))
from_length draws training n pool (suc c ∷ counts) (s ∷ sums) h = ap suc (from_length draws training n pool counts sums (suc_inj h))
from_length draws training n (p ∷ pool) (zero ∷ counts) (s ∷ sums) h = ap suc (from_length draws training n pool counts sums (suc_inj h))
from_length draws training n [] (zero ∷ counts) (s ∷ sums) h = ap suc (from_length draws training (suc n) [] counts sums (suc_inj h))

module _ (draws : List ℕ) (k dim block : ℕ) (training : List Row) where
  update_length : (n : ℕ) (found : List (Option Nearest)) → length (update draws k dim block training n found).centroids ≡ k
  unfolding update
  update_length n found =
      let c = counts_length (replicate k 0) _ ∙ length-replicate k 0 in
      let s = sums_length (replicate k (zero_row dim)) _ training ∙ length-replicate k (zero_row dim) in
      from_length draws training n _ _ _ (s ∙ sym c) ∙ c

  pub iterate_length : (spherical : Bool) (left : ℕ) (fit : Fit) → length fit.centroids ≡ k → length (iterate spherical draws k dim block training left fit).centroids ≡ k
  unfolding iterate
  iterate_length spherical zero fit h = h
  iterate_length spherical (suc left) fit h = iterate_length spherical left _ (sphered_length spherical _ ∙ update_length fit.made (nearests fit.centroids training))
