-- Training rows that are all one row: one label serves for all of them, and every refill is that row. Assumes nothing.
use Prim.Native.Nat.{ℕ, zero, suc, ◌+◌, ◌-◌, ◌*◌, ◌%◌, ◌≤◌, ◌<◌, suc-le-suc}
use mathlib.Core.Path.{◌≡◌, refl, sym, ap, ◌∙◌}
use mathlib.Core.List.{List, [], ◌∷◌, map}
use native.Mathlib.Nat.{zero-mul, mod-lt, not-suc-le-zero, suc-ne-zero}
use native.Mathlib.Omega.{arith}
use native.Mathlib.Numerals.{add-one}
use lib.Dec.{T}
use lib.Ieee.{Float, Format, nan, fits, of_bits, to_bits}
use lib.Ieee.Bits.{of_bits-to_bits}
use lib.ListN.{length, get_or, set, take, drop, replicate, length-drop, length-map, length-replicate, length-set, get_or-replicate}
use lib.Seq.{get_or-set_same, set-get_or, set-set, take_all, take-suc}
use Rattle.sums.specs.Rows.{Row, rows_from, row_at}
use Rattle.sums.specs.Table.{rows_of}
use Rattle.sums.specs.declared.readings.Rows.{Rows}
use Rattle.sums.specs.Sums.{add_row, zero_row}
use Rattle.sums.specs.declared.cursor.Draws.{Draws}
use Rattle.sums.specs.Draws.{drawn}
use Rattle.sums.specs.Draws.{Drawn}
use Rattle.sums.specs.Cells.{Below}
use Rattle.sums.proofs.Rows.{rows_length}
use Rattle.sums.proofs.Fronts.{drop_take, part_of_front}
use Rattle.sums.proofs.Belows.{below_take}
use Rattle.std.specs.Prelude.{Option}
use Rattle.labels.specs.declared.nearest.Nearest.{Nearest}
use Rattle.labels.specs.Label.{nearest, nearests, label_in, labels_of, distances_of}
use Rattle.labels.specs.Inside.{norms_of}
use Rattle.labels.specs.Pool.{pool}
use Rattle.labels.proofs.Promises.{label_below}
use Rattle.labels.proofs.PoolPromises.{pool_below}
use Rattle.kmeans.specs.Steps.{update, update_from, draws_after, counts_from, sums_from, times_inverse}
use Rattle.kmeans.specs.Inside.{Alike}
use Rattle.kmeans.proofs.Turns.{update_cut, after_cut, same_fit}

-- ---- two slices compared by their bits
pub bits_same : (f : Format) (x y : Float) → T (fits f x) → T (fits f y) → to_bits f x ≡ to_bits f y → x ≡ y
bits_same f x y p q e = sym (of_bits-to_bits f x p) ∙ (ap (of_bits f) e ∙ of_bits-to_bits f y q)

module _ (a b : List Float) (i : ℕ) (e : length a ≡ length b) where
  pub same_more : i < length a → take i a ≡ take i b → get_or a i nan ≡ get_or b i nan → take (i + 1) a ≡ take (i + 1) b
  same_more l t v = rw (add-one i, take-suc a i nan l, take-suc b i nan (omega (arith, e)), t, v)

  pub same_end : length a ≤ i → take i a ≡ take i b → a ≡ b
  same_end l t = sym (take_all i a l) ∙ (t ∙ take_all i b (omega (arith, e)))

-- ---- lists of one value
module _ {A B : Type 0} where
  map_one : (f : A → B) (n : ℕ) (x : A) → map f (replicate n x) ≡ replicate n (f x)
  map_one f zero x = refl
  map_one f (suc n) x = ap (λ (l : List B). f x ∷ l) (map_one f n x)

module _ {A : Type 0} where
  -- every row after the first is the one before it, so all are the first
  pub rows_one : (dim n : ℕ) (t : List A) → length t ≡ n * dim → drop dim t ≡ take (length t - dim) t → rows_from dim n t ≡ replicate n (take dim t)
  unfolding rows_from
  rows_one dim zero t e s = refl
  rows_one dim (suc zero) t e s = refl
  rows_one dim (suc (suc n)) t e s =
      let m = length t - dim in
      let w : m ≡ suc n * dim = omega (arith, e) in
      let l : length (take m t) ≡ m = ap length (sym s) ∙ length-drop dim t in
      let c : drop dim (take m t) ≡ take (length (take m t) - dim) (take m t) = rw l (drop_take dim m t (omega (arith, w)) ∙ ap (take (m - dim)) s) in
      let f : take dim (take m t) ≡ take dim t = part_of_front dim 0 m t (omega (arith, w)) in
      ap (λ (r : List (List A)). take dim t ∷ r) (rw s (rows_one dim (suc n) (take m t) (l ∙ w) c ∙ ap (replicate (suc n)) f))

-- ---- one row labelled by itself
pub one_row : {A : Type 0} (row : List A) → rows_from (length row) 1 row ≡ row ∷ []
unfolding rows_from
one_row row = rw (take_all (length row) row (omega arith))

pub one_of : (rows : Rows) → rows.count ≡ 1 → rows_of rows ≡ rows.values.now ∷ []
unfolding rows_from
one_of rows e =
    let l : length rows.values.now ≤ rows.dim = omega (arith, rw e at rows.whole) in
    rw e (ap (λ (r : Row). r ∷ []) (take_all rows.dim rows.values.now l))

pub label_one : (centroids : List Row) (rows : Rows) (labels : List ℕ) → rows.count ≡ 1 → labels ≡ labels_of (nearests centroids (rows_of rows))
    → get_or labels 0 0 ≡ label_in (nearest centroids rows.values.now)
unfolding nearests
label_one centroids rows labels o e = rw (e, one_of rows o)

pub label_below_one : (dim k : ℕ) (centroids : List Float) (row : Row) → 0 < k → label_in (nearest (rows_from dim k centroids) row) < k
unfolding nearests
label_below_one dim k centroids row h =
    let b = label_below (rows_from dim k centroids) (row ∷ []) (rw (rows_length dim k centroids) h) 0 (omega arith) in
    rw (rows_length dim k centroids) at b

-- ---- counts and sums where every label is the same
counts_one : (counts : List ℕ) (n c : ℕ) → c < length counts → counts_from counts (replicate n c) ≡ set counts c (get_or counts c 0 + n)
unfolding counts_from
counts_one counts zero c h = let e : get_or counts c 0 + 0 ≡ get_or counts c 0 = omega arith in rw e (sym (set-get_or counts c 0))
counts_one counts (suc n) c h =
    let g = get_or counts c 0 in
    let l : c < length (set counts c (suc g)) = rw (length-set counts c (suc g)) h in
    let e : suc g + n ≡ g + suc n = omega arith in
    counts_one (set counts c (suc g)) n c l ∙ rw (get_or-set_same counts c (suc g) 0 h, set-set counts c (suc g) (suc g + n), e)

pub below_zeros : (m n : ℕ) → 0 < m → Below m (replicate n 0)
below_zeros m n h i l = rw (get_or-replicate {A = ℕ} n i 0 0 (rw (length-replicate {A = ℕ} n 0) at l)) h

-- where every label is the first cluster's, its sum is that of all the rows
pub sum_one : (rows : Rows) (labels : List ℕ) (sum : Row) → labels ≡ replicate rows.count 0 → length sum ≡ rows.dim
    → rows_from rows.dim 1 sum ≡ sums_from (zero_row rows.dim ∷ []) labels (rows_of rows) → sums_from (zero_row rows.dim ∷ []) (replicate rows.count 0) (rows_of rows) ≡ sum ∷ []
sum_one rows labels sum e l h = sym (rw e at h) ∙ rw (← l) (one_row sum)

adds : ℕ → Row → Row → Row
adds zero sum row = sum
adds (suc n) sum row = adds n (add_row sum row) row

sums_one : (sums : List Row) (n c : ℕ) (row : Row) → c < length sums → sums_from sums (replicate n c) (replicate n row) ≡ set sums c (adds n (get_or sums c []) row)
unfolding sums_from adds
sums_one sums zero c row h = sym (set-get_or sums c [])
sums_one sums (suc n) c row h =
    let g = add_row (get_or sums c []) row in
    let l : c < length (set sums c g) = rw (length-set sums c g) h in
    sums_one (set sums c g) n c row l ∙ rw (get_or-set_same sums c g [] h, set-set sums c g (adds n g row))

-- ---- refills from training rows that are all one row, by as many positions of either
Only : Row → List Row → Type 0
Only row training = (0 < length training) × ((p : ℕ) → p < length training → get_or training p [] ≡ row)

module _ (draws : List ℕ) (row : Row) where
  refills : (training training' : List Row) (n : ℕ) (pool pool' counts : List ℕ) (sums : List Row) → Only row training → Only row training' → Below (length training) pool → Below (length training') pool'
      → length pool ≡ length pool' → update_from draws training n pool counts sums ≡ update_from draws training' n pool' counts sums
  unfolding update_from Only
  refills training training' n pool pool' [] sums o o' b b' e = refl
  refills training training' n pool pool' (c ∷ counts) [] o o' b b' e = refl
  refills training training' n pool pool' (suc c ∷ counts) (s ∷ sums) o o' b b' e =
      ap (λ (l : List Row). times_inverse (suc c) s ∷ l) (refills training training' n pool pool' counts sums o o' b b' e)
  refills training training' n [] [] (zero ∷ counts) (s ∷ sums) o o' b b' e =
      rw (o.1 (drawn draws n % length training) (mod-lt _ o.0), o'.1 (drawn draws n % length training') (mod-lt _ o'.0))
      (ap (λ (l : List Row). row ∷ l) (refills training training' (suc n) [] [] counts sums o o' b b' e))
  refills training training' n [] (q ∷ pool') (zero ∷ counts) (s ∷ sums) o o' b b' e = absurd (suc-ne-zero (length pool') (sym e))
  refills training training' n (p ∷ pool) [] (zero ∷ counts) (s ∷ sums) o o' b b' e = absurd (suc-ne-zero (length pool) e)
  refills training training' n (p ∷ pool) (q ∷ pool') (zero ∷ counts) (s ∷ sums) o o' b b' e =
      rw (o.1 p (b 0 (omega arith)), o'.1 q (b' 0 (omega arith)))
      (ap (λ (l : List Row). row ∷ l) (refills training training' n pool pool' counts sums o o' (λ i h. b (suc i) (suc-le-suc h)) (λ i h. b' (suc i) (suc-le-suc h)) (omega (arith, e))))

after_alike : (n : ℕ) (pool pool' counts : List ℕ) → length pool ≡ length pool' → draws_after n pool counts ≡ draws_after n pool' counts
unfolding draws_after
after_alike n pool pool' [] e = refl
after_alike n pool pool' (suc c ∷ counts) e = after_alike n pool pool' counts e
after_alike n [] [] (zero ∷ counts) e = after_alike (suc n) [] [] counts e
after_alike n [] (q ∷ pool') (zero ∷ counts) e = absurd (suc-ne-zero (length pool') (sym e))
after_alike n (p ∷ pool) [] (zero ∷ counts) e = absurd (suc-ne-zero (length pool) e)
after_alike n (p ∷ pool) (q ∷ pool') (zero ∷ counts) e = after_alike n pool pool' counts (omega (arith, e))

only_these : (n : ℕ) (row : Row) → 0 < n → Only row (replicate n row)
unfolding Only
only_these n row h = rw (length-replicate n row) (h, λ p l. get_or-replicate n p row [] l)

only_one : (row : Row) → Only row (row ∷ [])
unfolding Only
only_one row = only_these 1 row (omega arith)

-- ---- one iteration: the label of the one row has all the rows, and the others are empty
module _ {k dim block count : ℕ} {row sum : Row} {spare : List ℕ} (a : Alike k dim block count row sum spare) where
  the_sum : adds count (zero_row dim) row ≡ sum
  unfolding adds
  the_sum = ap (λ (l : List Row). get_or l 0 []) (sym (sums_one (zero_row dim ∷ []) count 0 row (omega arith)) ∙ a.summed)

  pub alike_update : (draws : List ℕ) (centroids : List Row) (n : ℕ) → label_in (nearest centroids row) < k
      → let c = label_in (nearest centroids row) in
      let counts = set (replicate k 0) c count in
      update draws k dim block (replicate count row) n (nearests centroids (replicate count row))
      ≡ record { centroids = update_from draws (row ∷ []) n spare counts (set (replicate k (zero_row dim)) c sum); made = draws_after n spare counts }
  unfolding update nearests Only
  alike_update draws centroids n h =
      let c : ℕ = label_in (nearest centroids row) in
      let rows : List Row = replicate count row in
      let found : List (Option Nearest) = nearests centroids rows in
      let counts : List ℕ = set (replicate k 0) c count in
      let sums : List Row = set (replicate k (zero_row dim)) c sum in
      let far : List ℕ = pool block (distances_of found) in
      let f : found ≡ replicate count (nearest centroids row) = map_one (nearest centroids) count row in
      let labelled : labels_of found ≡ replicate count c = rw f (map_one label_in count (nearest centroids row)) in
      let lc : c < length {A = ℕ} (replicate k 0) = rw (length-replicate {A = ℕ} k 0) h in
      let ls : c < length (replicate k (zero_row dim)) = rw (length-replicate k (zero_row dim)) h in
      let z : get_or (replicate k 0) c 0 + count ≡ count = rw (get_or-replicate {A = ℕ} k c 0 0 h) (omega arith) in
      let counted : counts_from (replicate k 0) (labels_of found) ≡ counts = rw labelled (counts_one (replicate k 0) count c lc ∙ ap (set (replicate k 0) c) z) in
      let summed : sums_from (replicate k (zero_row dim)) (labels_of found) rows ≡ sums
      = rw labelled (sums_one (replicate k (zero_row dim)) count c row ls ∙ rw (get_or-replicate k c (zero_row dim) [] h, the_sum)) in
      let sized : length (distances_of found) ≡ count = length-map found _ ∙ (length-map rows _ ∙ length-replicate count row) in
      let few : length counts ≤ k = rw (length-set (replicate k 0) c count, length-replicate {A = ℕ} k 0) (omega arith) in
      let held : length (take k far) ≡ length spare = a.pooled (distances_of found) sized in
      let inside : Below (length rows) (take k far) = rw (length-replicate count row ∙ sym sized) (below_take _ k far (pool_below block (distances_of found))) in
      same_fit _ _ _
      (ap (λ (l : List ℕ). update_from draws rows n far l (sums_from (replicate k (zero_row dim)) (labels_of found) rows)) counted
      ∙ (ap (update_from draws rows n far counts) summed
      ∙ (sym (update_cut draws rows n k far counts sums few) ∙ refills draws row rows (row ∷ []) n (take k far) spare counts sums (only_these count row a.some) (only_one row) inside a.first held)))
      (ap (draws_after n far) counted ∙ (sym (after_cut n k far counts few) ∙ after_alike n (take k far) spare counts held))

  -- so the update with that label's counts and sums is the iteration's
  pub alike_drawn : {old new : Draws} (centroids : List Row) {rows : List Row} (c : ℕ) {counts : List ℕ} {totals : List Row} → c ≡ label_in (nearest centroids row) → c < k
      → counts ≡ set (replicate k 0) c count → totals ≡ set (replicate k (zero_row dim)) c sum
      → Drawn old new rows (λ n. update_from old.list.now (row ∷ []) n spare counts totals) (λ n. draws_after n spare counts)
      → Drawn old new rows (λ n. (update old.list.now k dim block (replicate count row) n (nearests centroids (replicate count row))).centroids)
      (λ n. (update old.list.now k dim block (replicate count row) n (nearests centroids (replicate count row))).made)
  alike_drawn {old} {new} centroids {rows} c {counts} {totals} e l p q d = record {
    kept = d.kept;
    steps = λ n s.
        let u = alike_update old.list.now centroids n (rw (← e) l) in
        let t = d.steps n s in
        (rw (u, ← e, ← p, ← q) t.0, rw (u, ← e, ← p) t.1);
  }

-- the norm of the first row
pub norm_first : (dim n : ℕ) (training norms : List Float) → 0 < n → norms ≡ norms_of (rows_from dim n training) → take 1 norms ≡ norms_of (row_at training dim 0 ∷ [])
unfolding rows_from
norm_first dim zero training norms h e = absurd (not-suc-le-zero h)
norm_first dim (suc n) training norms h e = rw (zero-mul, e)
