-- The cells that an accepted grouping call leaves are a sound grouping: from what grouping's CellPromises say of them. Assumes nothing.
use Prim.Native.Nat.{ℕ, zero, suc, ◌+◌, ◌-◌, ◌*◌, ◌≤◌, ◌<◌, suc-le-suc, zero-le}
use mathlib.Core.Path.{◌≡◌, refl, sym, ◌∙◌}
use mathlib.Core.Bool.{Bool, true, false}
use mathlib.Core.List.{List, [], ◌∷◌}
use native.Mathlib.Omega.{arith}
use borrow.Author.Tests.{eqb-true, eqb-false, eq-eqb, leb-true, leb-false, le-leb, lt-ltb}
use lib.Dec.{eqb, leb}
use lib.ListN.{length, get_or, take}
use lib.Seq.{length-take-le, get_or-take}
use Rattle.sums.specs.Refusals.{blank_cell}
use Rattle.sums.proofs.Weighs.{weigh, one, count_of}
use Rattle.results.specs.Grouping.{Stored, rising, sound}
use Rattle.results.proofs.Promises.{times_count, listed_sound, rise_sizes}

-- ---- where each row below n stands once and no more stand there, nothing else does
-- how many are n or above
abbrev others : ℕ → List ℕ → ℕ
others n l = weigh (λ y. one (leb n y)) l

others_none : (l : List ℕ) → others 0 l ≡ length l
others_none [] = refl
others_none (y ∷ l) = rw (le-leb 0 y zero-le, others_none l) (omega arith)

others_step : (n : ℕ) (l : List ℕ) → others n l ≡ count_of n l + others (suc n) l
others_step n [] = omega arith
others_step n (y ∷ l) = go (eqb y n) refl (leb n y) refl (leb (suc n) y) refl (others_step n l)
  where
    go : (a : Bool) → eqb y n ≡ a → (b : Bool) → leb n y ≡ b → (c : Bool) → leb (suc n) y ≡ c → others n l ≡ count_of n l + others (suc n) l
        → one b + others n l ≡ one a + count_of n l + (one c + others (suc n) l)
    go true p true q false r h = omega (arith, h)
    go false p true q true r h = omega (arith, h)
    go false p false q false r h = omega (arith, h)
    go true p true q true r h = absurd (omega (arith, eqb-true y n p, leb-true (suc n) y r))
    go true p false q true r h = absurd (omega (arith, eqb-true y n p, leb-true (suc n) y r))
    go true p false q false r h = absurd (omega (arith, eqb-true y n p, leb-false n y q))
    go false p true q false r h = absurd (eqb-false y n p (omega (arith, leb-true n y q, leb-false (suc n) y r)))
    go false p false q true r h = absurd (omega (arith, leb-false n y q, leb-true (suc n) y r))

others_few : (n : ℕ) (l : List ℕ) → ((x : ℕ) → x < n → count_of x l ≡ 1) → length l ≡ n + others n l
others_few zero l h = omega (arith, others_none l)
others_few (suc n) l h = omega (arith, others_few n l (λ x k. h x (omega arith)), others_step n l, h n (omega arith))

count_others : (n x : ℕ) (l : List ℕ) → n ≤ x → count_of x l ≤ others n l
count_others n x [] h = omega arith
count_others n x (y ∷ l) h = go (eqb y x) refl (leb n y) refl (count_others n x l h)
  where
    go : (a : Bool) → eqb y x ≡ a → (b : Bool) → leb n y ≡ b → count_of x l ≤ others n l → one a + count_of x l ≤ one b + others n l
    go true p true q k = omega (arith, k)
    go true p false q k = absurd (omega (arith, eqb-true y x p, leb-false n y q))
    go false p true q k = omega (arith, k)
    go false p false q k = omega (arith, k)

-- ---- ends by index
rise_by : (start : ℕ) (ends : List ℕ) (rows : ℕ) → ((i : ℕ) → i < length ends → get_or (start ∷ ends) i 0 < get_or ends i 0)
    → get_or (start ∷ ends) (length ends) 0 ≡ rows → rising start ends rows ≡ true
unfolding rising
rise_by start [] rows h e = eq-eqb start rows e
rise_by start (end ∷ ends) rows h e = rw (lt-ltb start end (h 0 (suc-le-suc zero-le))) (rise_by end ends rows (λ i k. h (suc i) (suc-le-suc k)) e)

pub count_none : (n : ℕ) (l : List ℕ) → length l ≡ n → ((x : ℕ) → x < n → count_of x l ≡ 1) → (x : ℕ) → n ≤ x → count_of x l ≡ 0
count_none n l long once x h = omega (arith, count_others n x l h, others_few n l once, long)

-- what grouping promises of its cells (Cells and Means), of means as their 32 bits
pub record Left (t : Stored) : Type 0 where
  pub rows_most : t.rows ≤ 4096
  pub dim_least : 1 ≤ t.dim
  pub dim_most : t.dim ≤ 64
  pub once : (x : ℕ) → x < t.rows → count_of x t.order ≡ 1
  pub all : length t.order ≡ t.rows
  pub larger : (i : ℕ) → i < t.groups → get_or (0 ∷ t.ends) i 0 < get_or t.ends i 0
  pub last : 0 < t.rows → get_or t.ends (t.groups - 1) 0 ≡ t.rows
  pub end_cells : length t.ends ≡ t.rows
  pub ends_blank : (i : ℕ) → t.groups ≤ i → i < t.rows → get_or t.ends i 0 ≡ blank_cell
  pub most : t.groups ≤ t.rows
  pub mean_cells : length t.means ≡ t.rows * t.dim
  pub means_blank : (i : ℕ) → t.groups * t.dim ≤ i → i < t.rows * t.dim → get_or t.means i 0 ≡ 0

front_at : (k : ℕ) (l : List ℕ) (i : ℕ) → i ≤ k → get_or (0 ∷ take k l) i 0 ≡ get_or (0 ∷ l) i 0
front_at k l zero h = refl
front_at k l (suc i) h = get_or-take k l i 0 h

last_is : (t : Stored) → Left t → (k : ℕ) → t.groups ≡ k → get_or (0 ∷ t.ends) k 0 ≡ t.rows
last_is t d zero e = go t.rows refl
  where
    go : (n : ℕ) → t.rows ≡ n → 0 ≡ t.rows
    go zero f = sym f
    go (suc n) f =
        let z : t.groups - 1 ≡ 0 = omega (arith, e) in
        absurd (omega (arith, rw z at (d.last (omega (arith, f))), d.ends_blank 0 (omega (arith, e)) (omega (arith, f)), d.rows_most))
last_is t d (suc k) e = let z : t.groups - 1 ≡ k = omega (arith, e) in rw z at (d.last (omega (arith, d.most, e)))

-- they are sound: the writer takes every accepted grouping
pub left_sound : (t : Stored) → Left t → sound t ≡ true
left_sound t d =
    let k = t.groups in
    let long : length (take t.groups t.ends) ≡ t.groups = length-take-le t.groups t.ends (omega (arith, d.end_cells, d.most)) in
    let rise = rise_by 0 (take t.groups t.ends) t.rows
    (λ i h. rw (front_at t.groups t.ends i (omega (arith, rw long at h)), get_or-take t.groups t.ends i 0 (rw long at h)) (d.larger i (rw long at h)))
    (rw long (front_at t.groups t.ends t.groups (omega arith) ∙ last_is t d t.groups refl)) in
    let r = rise_sizes 0 (take t.groups t.ends) t.rows rise in
    listed_sound t
    (record {
      rows_most = d.rows_most;
      dim_least = d.dim_least;
      dim_most = d.dim_most;
      cells = record { order_long = d.all; ends_long = d.end_cells; means_long = d.mean_cells };
      fewer = d.most;
      each = λ x h. times_count x t.order ∙ d.once x h;
      no_other = λ x h. times_count x t.order ∙ count_none t.rows t.order d.all d.once x h;
      above = λ i h. r.0 i (rw long h);
      sum = omega (arith, r.1);
      ends_blank = d.ends_blank;
      means_blank = d.means_blank;
    })
