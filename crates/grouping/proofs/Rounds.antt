-- What `give_row` leaves, the rounds of balancing, and cells that are lent as rows. Assumes nothing.
use mathlib.Core.Path.{◌≡◌, refl, sym, ap, ◌∙◌}
use mathlib.Core.List.{List, []}
use mathlib.Core.Bool.{true}
use mathlib.Core.Logic.{◌⊎◌, inl, inr}
use Prim.Native.Nat.{ℕ, zero, suc, ◌+◌, ◌-◌, ◌*◌, ◌/◌, ◌≤◌, ◌<◌}
use native.Mathlib.Nat.{le-div_iff_mul-le, div-le_self, div-zero, mul-div_cancel}
use native.Mathlib.Omega.{arith}
use lib.Dec.{ltb}
use borrow.Author.Tests.{lt-ltb, le-ltb, ltb-true}
use lib.ListN.{length, get_or, set, take, drop}
use lib.Ieee.{Float, lt}
use Rattle.sums.specs.Rows.{Row, rows_from, row_at}
use Rattle.sums.specs.Table.{rows_of}
use Rattle.sums.specs.declared.readings.Rows.{Rows}
use Rattle.sums.specs.Sums.{zero32, count32}
use Rattle.sums.specs.Cells.{Below}
use Rattle.sums.proofs.Rows.{row_at_lem, rows_front}
use Rattle.grouping.specs.Parts.{sizes_of, flat}
use Rattle.grouping.specs.Balance.{allowed, seek, moved, giver, taker, round, balanced, moves, closest_of, toward}
use Rattle.grouping.specs.PartsInside.{table_of, Laid, total}
use Rattle.grouping.proofs.Lists.{cond_same, below_same}
use Rattle.grouping.proofs.Layouts.{sizes_length, sizes_at, sizes_total, start_le, part_at, cut, cut_flat, cut_sizes}
use Rattle.grouping.proofs.Allowances.{plain, allowance, share_allowed, over_test}
use Rattle.grouping.proofs.Fair.{sizes_moved, moved_flat}

-- ---- one row moved
module _
    (part sizes : List ℕ) (g r : ℕ) (hg : g < length sizes) (hr : r < length sizes) (ne : r ≡ g → ⊥) (ps : List (List ℕ)) (laid : Laid ps part sizes) (j : ℕ)
    (hj : j < get_or sizes g 0) where
  hg' : g < length ps
  hg' = omega (arith, ap length laid.1, sizes_length ps)

  hr' : r < length ps
  hr' = omega (arith, ap length laid.1, sizes_length ps)

  hj' : j < length (get_or ps g [])
  hj' = omega (arith, ap (λ (z : List ℕ). get_or z g 0) laid.1, sizes_at ps g)

  pub moved_sized : (sizes' : List ℕ) → sizes' ≡ set (set sizes g (get_or sizes g 0 - 1)) r (get_or sizes r 0 + 1) → sizes' ≡ sizes_of (moved g r j ps)
  moved_sized sizes' e = e ∙ rw (laid.1, sizes_at ps g, sizes_at ps r) (sym (sizes_moved ps g r j hg' hr' ne hj'))

  moved_below : (m : ℕ) (part' : List ℕ) → Below m part → part' ≡ flat (moved g r j ps) → Below m part'
  moved_below m part' b e = rw e (below_same m (flat (moved g r j ps)) (flat ps) (moved_flat ps g r j hg' hr' ne hj') (rw laid.0 at b))

-- ---- the row found and moved
module _
    (rows centroids : Rows) (part sizes part' sizes' : List ℕ) (g r from end j : ℕ) (hg : g < length sizes) (hr : r < length sizes) (ne : r ≡ g → ⊥)
    (hj : j < get_or sizes g 0) (goes : (ps : List (List ℕ)) → Laid ps part sizes → Laid (moved g r j ps) part' sizes') where
  pub given_row : length sizes ≡ centroids.count → from ≡ total (drop (g + 1) sizes) → end ≡ from + get_or sizes g 0
      → j ≡ closest_of (rows_of rows) (row_at centroids.values.now centroids.dim r) (take (end - from) (drop from part))
      → (ps : List (List ℕ)) → Laid ps part sizes → Laid (moved g r (toward (rows_of rows) (rows_of centroids) r (get_or ps g [])) ps) part' sizes'
  given_row k f e found ps laid =
      let t : j ≡ toward (rows_of rows) (rows_of centroids) r (get_or ps g [])
      = found ∙ rw (row_at_lem centroids.dim centroids.count centroids.values.now r [] (rw (← k) hr), part_at part sizes ps laid.0 laid.1 g from end hg f e) in
      rw (← t) (goes ps laid)

  pub given_below : total sizes ≡ length part → (m : ℕ) → Below m part → Below m part'
  given_below t m b =
      let laid : Laid (cut sizes part) part sizes = (cut_flat sizes part t, cut_sizes sizes part t) in
      moved_below part sizes g r hg hr ne (cut sizes part) laid j hj m part' b (goes (cut sizes part) laid).0

-- parts that move together still make up their stretch
pub moved_total : (part sizes : List ℕ) {part' sizes' : List ℕ} (after : List (List ℕ) → List (List ℕ)) → total sizes ≡ length part
    → ((ps : List (List ℕ)) → Laid ps part sizes → Laid (after ps) part' sizes') → total sizes' ≡ length part'
moved_total part sizes {part'} {sizes'} after t goes =
    let laid = goes (cut sizes part) (cut_flat sizes part t, cut_sizes sizes part t) in
    sizes_total (after (cut sizes part)) part' sizes' laid.0 laid.1

-- ---- the rounds
module _ (which : ℕ → List ℕ → ℕ) (sh al n : ℕ) (ps : List (List ℕ)) where
  -- a round with a giver and a taker
  module _ (hg : giver al ps < length ps) (hr : taker sh ps < length ps) where
    balanced_on : balanced which sh al (suc n) ps ≡ balanced which sh al n (round which sh al ps)
    unfolding balanced
    balanced_on = rw (lt-ltb _ _ hg, lt-ltb _ _ hr)

    moves_on : moves which sh al (suc n) ps ≡ suc (moves which sh al n (round which sh al ps))
    unfolding moves
    moves_on = rw (lt-ltb _ _ hg, lt-ltb _ _ hr)

  -- a round with no giver, or with no taker
  balanced_off : (length ps ≤ giver al ps) ⊎ (length ps ≤ taker sh ps) → balanced which sh al (suc n) ps ≡ ps
  unfolding balanced
  balanced_off (inl h) = rw (le-ltb _ _ h)
  balanced_off (inr h) = rw (le-ltb (taker sh ps) (length ps) h) (cond_same (ltb (giver al ps) (length ps)) ps)

  moves_off : (length ps ≤ giver al ps) ⊎ (length ps ≤ taker sh ps) → moves which sh al (suc n) ps ≡ 0
  unfolding moves
  moves_off (inl h) = rw (le-ltb _ _ h)
  moves_off (inr h) = rw (le-ltb (taker sh ps) (length ps) h) (cond_same (ltb (giver al ps) (length ps)) 0)

  none_left : balanced which sh al 0 ps ≡ ps
  unfolding balanced
  none_left = refl

  none_counted : moves which sh al 0 ps ≡ 0
  unfolding moves
  none_counted = refl

-- n rounds done: the rounds left lead from what stands now to what is to stand
pub record Reached (which : ℕ → List ℕ → ℕ) (sh al : ℕ) (ps : List (List ℕ)) (part sizes : List ℕ) (n : ℕ) : Type 0 where
  pub qs : List (List ℕ)
  pub laid : Laid qs part sizes
  pub left : balanced which sh al (10 - n) qs ≡ balanced which sh al 10 ps
  pub count : n + moves which sh al (10 - n) qs ≡ moves which sh al 10 ps

-- all rounds done: what stands then, and how many rows moved
abbrev pub Done : (ℕ → List ℕ → ℕ) → ℕ → ℕ → List (List ℕ) → List ℕ → List ℕ → ℕ → Type 0
Done which sh al ps part sizes n = Laid (balanced which sh al 10 ps) part sizes × (n ≡ moves which sh al 10 ps)

pub reach_start : (which : ℕ → List ℕ → ℕ) (sh al : ℕ) (ps : List (List ℕ)) (part sizes : List ℕ) → Laid ps part sizes → Reached which sh al ps part sizes 0
reach_start which sh al ps part sizes l = record { qs = ps; laid = l; left = refl; count = omega arith }

module _ {which : ℕ → List ℕ → ℕ} {sh al : ℕ} {ps : List (List ℕ)} {part sizes : List ℕ} {n : ℕ} (h : Reached which sh al ps part sizes n) where
  finish : balanced which sh al (10 - n) h.qs ≡ h.qs → moves which sh al (10 - n) h.qs ≡ 0 → Done which sh al ps part sizes n
  finish b m =
      let e : h.qs ≡ balanced which sh al 10 ps = sym b ∙ h.left in
      (rw (← e) h.laid, omega (arith, h.count, m))

  pub reach_end : 10 ≤ n → Done which sh al ps part sizes n
  reach_end k =
      let z : 10 - n ≡ 0 = omega arith in
      finish (rw z (none_left which sh al n h.qs)) (rw z (none_counted which sh al n h.qs))

  sized : length sizes ≡ length h.qs
  sized = ap length h.laid.1 ∙ sizes_length h.qs

  pub reach_off : n < 10 → (length sizes ≤ seek (λ m. ltb al m) sizes) ⊎ (length sizes ≤ seek (λ m. ltb m sh) sizes) → Done which sh al ps part sizes n
  reach_off k w =
      let z : 10 - n ≡ suc (9 - n) = omega arith in
      let o = off w in
      finish (rw z (balanced_off which sh al (9 - n) h.qs o)) (rw z (moves_off which sh al (9 - n) h.qs o))
    where
      off : (length sizes ≤ seek (λ m. ltb al m) sizes) ⊎ (length sizes ≤ seek (λ m. ltb m sh) sizes)
          → (length h.qs ≤ giver al h.qs) ⊎ (length h.qs ≤ taker sh h.qs)
      off (inl l) = inl (rw (sized, h.laid.1) at l)
      off (inr l) = inr (rw (sized, h.laid.1) at l)

  module _ (k : n < 10) (g r : ℕ) (eg : g ≡ seek (λ m. ltb al m) sizes) (er : r ≡ seek (λ m. ltb m sh) sizes) (hg : g < length sizes) (hr : r < length sizes) where
    eg' : g ≡ giver al h.qs
    eg' = rw h.laid.1 at eg

    er' : r ≡ taker sh h.qs
    er' = rw h.laid.1 at er

    hg'' : giver al h.qs < length h.qs
    hg'' = rw (← eg', ← sized) hg

    hr'' : taker sh h.qs < length h.qs
    hr'' = rw (← er', ← sized) hr

    pub reach_on : (part' sizes' : List ℕ) → ((qs : List (List ℕ)) → Laid qs part sizes → Laid (moved g r (which r (get_or qs g [])) qs) part' sizes')
        → Reached which sh al ps part' sizes' (n + 1)
    reach_on part' sizes' p =
        let z : 10 - n ≡ suc (10 - (n + 1)) = omega arith in
        record {
          qs = round which sh al h.qs;
          laid = rw (← eg', ← er') (p h.qs h.laid);
          left = sym (balanced_on which sh al (10 - (n + 1)) h.qs hg'' hr'') ∙ (rw z at h.left);
          count = omega (arith, rw z at h.count, moves_on which sh al (10 - (n + 1)) h.qs hg'' hr'');
        }

-- ---- the share and the allowance that the code makes, from n rows and k parts
pub record Sharing (n k : ℕ) (weight : Float) : Type 0 where
  pub some : 0 < k
  pub enough : k ≤ n
  pub few : n ≤ 4096
  pub above : lt zero32 weight ≡ true

module _ {n k : ℕ} {weight : Float} (h : Sharing n k weight) where
  grown : plain (allowance (n / k) weight) × (n / k ≤ allowed (n / k) weight)
  grown =
      let p : 1 ≤ n / k = (le-div_iff_mul-le h.some).1 (omega (arith, h.enough)) in
      let q : n / k ≤ 4096 = omega (arith, div-le_self n k, h.few) in
      share_allowed (n / k) weight p q h.above

  module _ (sizes : List ℕ) (t : total sizes ≤ n) where
    pub size_test : (i : ℕ) → i < length sizes → lt (allowance (n / k) weight) (count32 (get_or sizes i 0)) ≡ ltb (allowed (n / k) weight) (get_or sizes i 0)
    size_test i l = over_test (n / k) (get_or sizes i 0) weight (omega (arith, start_le sizes i l, h.few)) grown.0

    -- what is above the allowance has a row to give, and is not what is below the share
    module _ (g r : ℕ) (l : g < length sizes) (o : lt (allowance (n / k) weight) (count32 (get_or sizes g 0)) ≡ true) (u : get_or sizes r 0 < n / k) where
      over : allowed (n / k) weight < get_or sizes g 0
      over = ltb-true _ _ (sym (size_test g l) ∙ o)

      pub giver_has : 0 < get_or sizes g 0
      giver_has = omega (arith, over)

      pub giver_other : r ≡ g → ⊥
      giver_other e = omega (arith, ap (λ (i : ℕ). get_or sizes i 0) e, over, u, grown.1)

-- what holds at each round, whatever parts the slices hold
pub record Balancing (rows centroids : List Row) (weight : Float) (m : ℕ) (part₀ sizes₀ part sizes : List ℕ) (n : ℕ) : Type 0 where
  pub few : n ≤ 10
  pub shared : Sharing (length part₀) (length sizes₀) weight
  pub kept : length part ≡ length part₀
  pub kept' : length sizes ≡ length sizes₀
  pub whole : total sizes ≡ length part
  pub below : Below m part
  pub so_far : (ps : List (List ℕ)) → Laid ps part₀ sizes₀
      → Reached (toward rows centroids) (length part₀ / length sizes₀) (allowed (length part₀ / length sizes₀) weight) ps part sizes n

-- the parts balanced, and how many rows moved
abbrev pub Balanced : List Row → List Row → ℕ → Float → List (List ℕ) → List ℕ → List ℕ → ℕ → Type 0
Balanced rows centroids share weight ps part sizes n = Done (toward rows centroids) share (allowed share weight) ps part sizes n

-- ---- cells that are lent as rows

-- where there is a whole row, it has a value
pub wide : (dim : ℕ) (cells : List Float) (n : ℕ) → n ≡ length cells / dim → 0 < n → 0 < dim
wide zero cells n e h = absurd (omega (arith, e, div-zero (length cells)))
wide (suc dim) cells n e h = omega arith

-- the whole rows in front are all of them
pub whole_front : (dim : ℕ) (cells : List Float) (n : ℕ) → n ≡ length cells / dim → rows_from dim n (take (n * dim) cells) ≡ table_of dim cells
whole_front dim cells n e = rows_front dim n (n * dim) cells (omega arith) ∙ rw e refl

-- and of rows that are whole none is left over
pub whole_table : (rows : Rows) → 0 < rows.dim → table_of rows.dim rows.values.now ≡ rows_of rows
whole_table rows some = ap (λ n. rows_from rows.dim n rows.values.now) (ap (λ n. n / rows.dim) rows.whole ∙ mul-div_cancel rows.count some)
