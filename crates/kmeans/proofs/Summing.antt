-- The turns of `accumulate`, on lists. Assumes nothing.
use Prim.Native.Nat.{ℕ, zero, suc, ◌+◌, ◌-◌, ◌*◌, ◌≤◌, ◌<◌}
use mathlib.Core.Path.{◌≡◌, refl, sym, ap, ◌∙◌}
use mathlib.Core.Bool.{Bool, true, false}
use mathlib.Core.List.{List, []}
use native.Mathlib.Nat.{le_of_eq}
use native.Mathlib.Numerals.{add-one}
use native.Mathlib.Omega.{arith}
use native.Mathlib.Decide.{dec_lt}
use borrow.Author.Tests.{eqb-true, eqb-false}
use borrow.Rule.Slice.PartMut.{put_mid, same_len_mid, mid_of}
use lib.Dec.{eqb}
use lib.Ieee.{Float}
use lib.ListN.{length, get_or, set, take, drop, length-set, length-replicate, drop_of_length-le, replicate}
use lib.Seq.{drop-cons, get_or-set_same, get_or-set_other, set_out}
use Rattle.sums.specs.Rows.{Row, rows_from, row_at}
use Rattle.sums.specs.Table.{rows_of}
use Rattle.sums.specs.declared.readings.Rows.{Rows}
use Rattle.sums.specs.Sums.{add_row, zero32, zero_row}
use Rattle.sums.proofs.Rows.{room, rows_length, row_at_lem, part_length, part_put, part_row, rows_alike}
use Rattle.kmeans.specs.Steps.{counts_from, sums_from}

-- counts and sums of the clusters
abbrev pub Summed : ℕ → ℕ → List ℕ → List Row → List ℕ → List Row → Type 0
Summed dim k labels training counts totals = (counts ≡ counts_from (replicate k 0) labels) × (totals ≡ sums_from (replicate k (zero_row dim)) labels training)

pub record Summing (training : Rows) (labels counts₀ : List ℕ) (totals₀ : List Float) (counts : List ℕ) (totals : List Float) (i : ℕ) : Type 0 where
  pub within : i ≤ length labels
  pub counts_sized : length counts ≡ length counts₀
  pub totals_sized : length totals ≡ length counts₀ * training.dim
  pub few : (x : ℕ) → get_or counts x 0 ≤ i
  pub counted : counts_from counts (drop i labels) ≡ counts_from counts₀ labels
  pub totalled : sums_from (rows_from training.dim (length counts₀) totals) (drop i labels) (drop i (rows_of training)) ≡ sums_from (rows_from training.dim (length counts₀) totals₀) labels (rows_of training)

none : (k x : ℕ) → get_or (replicate k 0) x 0 ≤ 0
none zero x = omega arith
none (suc k) zero = omega arith
none (suc k) (suc x) = none k x

pub summing_start : (training : Rows) (k : ℕ) (labels counts₀ : List ℕ) (totals₀ : List Float) → counts₀ ≡ replicate k 0 → length totals₀ ≡ k * training.dim
    → Summing training labels counts₀ totals₀ counts₀ totals₀ 0
summing_start training k labels counts₀ totals₀ e f = record {
  within = omega arith;
  counts_sized = refl;
  totals_sized = f ∙ ap (λ (n : ℕ). n * training.dim) (sym (ap length e ∙ length-replicate k 0));
  few = λ x. rw e (none k x);
  counted = refl;
  totalled = refl;
}

more : (l : List ℕ) (c i : ℕ) → ((x : ℕ) → get_or l x 0 ≤ i) → (x : ℕ) → get_or (set l c (get_or l c 0 + 1)) x 0 ≤ i + 1
more l c i h x = go (eqb x c) refl (dec_lt c (length l))
  where
    go : (t : Bool) → eqb x c ≡ t → Dec (c < length l) → get_or (set l c (get_or l c 0 + 1)) x 0 ≤ i + 1
    go true e (yes p) = let s : x ≡ c = eqb-true x c e in rw (s, get_or-set_same l c (get_or l c 0 + 1) 0 p) (omega (arith, h c))
    go true e (no p) = rw (set_out l c (get_or l c 0 + 1) (omega arith)) (omega (arith, h x))
    go false e d = rw (get_or-set_other l c x (get_or l c 0 + 1) 0 (eqb-false x c e)) (omega (arith, h x))

module _ {training : Rows} {labels counts₀ : List ℕ} {totals₀ : List Float} {counts : List ℕ} {totals : List Float} {i : ℕ}
    (h : Summing training labels counts₀ totals₀ counts totals i) where
  pub summing_step : let dim : ℕ = training.dim in (c : ℕ) (row last : List Float) → length labels ≡ training.count → i < length labels → c ≡ get_or labels i 0 → c < length counts₀
      → length last ≡ length (mid_of (c * dim) (c * dim + dim - c * dim) totals) → row ≡ row_at training.values.now dim i
      → last ≡ add_row (take (c * dim + dim - c * dim) (drop (c * dim) totals)) row
      → Summing training labels counts₀ totals₀ (set counts c (get_or counts c 0 + 1)) (put_mid (c * dim) (c * dim + dim - c * dim) totals last) (i + 1)
  unfolding counts_from sums_from
  summing_step c row last m l e p g w f =
      let dim = training.dim in
      let k = length counts₀ in
      let li : i < training.count = rw (← m) l in
      let lr : i < length (rows_of training) = rw rows_length li in
      let s : length last ≡ dim = g ∙ part_length (c * dim) dim totals (rw h.totals_sized (room c k dim p)) in
      record {
        within = omega arith;
        counts_sized = length-set counts c _ ∙ h.counts_sized;
        totals_sized = same_len_mid {X = Float} (c * dim) (c * dim + dim - c * dim) totals last g ∙ h.totals_sized;
        few = more counts c i h.few;
        counted = rw (add-one i, add-one (get_or counts c 0), e) (rw (drop-cons labels i 0 l) at h.counted);
        totalled = rw (add-one i, part_put dim k totals c last p (le_of_eq (sym h.totals_sized)) s, f, part_row dim k totals c p, w, ← row_at_lem dim training.count training.values.now i [] li, e)
            (rw (drop-cons labels i 0 l, drop-cons (rows_of training) i [] lr) at h.totalled);
      }

  pub summing_end : (k : ℕ) → counts₀ ≡ replicate k 0 → totals₀ ≡ replicate (k * training.dim) zero32 → length labels ≤ i
      → Summed training.dim k labels (rows_of training) counts (rows_from training.dim k totals)
  unfolding counts_from sums_from
  summing_end k e f l =
      let z = drop_of_length-le labels {i = i} l in
      let n : length counts₀ ≡ k = ap length e ∙ length-replicate k 0 in
      (rw (z, e) at h.counted, rw (z, n, f, rows_alike training.dim k zero32) at h.totalled)
