-- The loops that test a grouping's cells. Assumes nothing.
use Prim.Native.Nat.{ℕ, suc, ◌+◌, ◌≤◌, ◌<◌}
use mathlib.Core.Path.{◌≡◌, refl, sym, ap, ◌∙◌}
use mathlib.Core.Bool.{Bool, true, false, ◌&&◌, cond}
use mathlib.Core.List.{List, [], ◌∷◌, ◌++◌}
use native.Mathlib.Numerals.{add-one}
use native.Mathlib.Omega.{arith}
use borrow.Author.Tests.{eqb-true, eqb-false, eq-eqb, ne_eqb}
use lib.Dec.{eqb}
use lib.ListN.{length, get_or, set, take, drop, replicate, length-set, drop_of_length-le}
use lib.Seq.{drop-cons, take-suc, ext_get_or, get_or-set_same, get_or-set_other}
use Rattle.sums.specs.Tables.{tabulate}
use Rattle.sums.proofs.Tables.{length_tab, get_d_tab, tab_const}
use Rattle.sums.proofs.Fronts.{take_few}
use Rattle.results.specs.Grouping.{all_pass, all_are, all_below, times_in, times_each, each_once}

-- ---- every cell passes
module _ (test : ℕ → Bool) (l : List ℕ) (i : ℕ) (r : Bool) where
  pass_turn : i < length l → all_pass test (drop i l) ≡ (test (get_or l i 0) && all_pass test (drop (suc i) l))
  unfolding all_pass
  pass_turn h = rw (drop-cons l i 0 h)

  pub pass_on : i < length l → test (get_or l i 0) ≡ true → all_pass test (drop i l) ≡ r → all_pass test (drop (i + 1) l) ≡ r
  pass_on h s p = rw (add-one i) (sym (rw s at (pass_turn h)) ∙ p)

  pub pass_not : i < length l → test (get_or l i 0) ≡ false → all_pass test (drop i l) ≡ r → false ≡ r
  pass_not h s p = sym (rw s at (pass_turn h)) ∙ p

  pub pass_end : length l ≤ i → all_pass test (drop i l) ≡ r → true ≡ r
  unfolding all_pass
  pass_end h p = sym (ap (all_pass test) (drop_of_length-le l {i = i} h)) ∙ p

-- ---- how often each row is listed
pub times_append : (x : ℕ) (a b : List ℕ) → times_in x (a ++ b) ≡ times_in x a + times_in x b
unfolding times_in
times_append x [] b = omega arith
times_append x (y ∷ a) b = omega (arith, times_append x a b)

pub times_few : (x : ℕ) (l : List ℕ) → times_in x l ≤ length l
unfolding times_in
times_few x [] = omega arith
times_few x (y ∷ l) = go (eqb y x) (times_few x l)
  where
    go : (b : Bool) → times_in x l ≤ length l → cond b 1 0 + times_in x l ≤ suc (length l)
    go true h = omega arith
    go false h = omega arith

times_more : (x : ℕ) (l : List ℕ) (i : ℕ) → i < length l → times_in x (take (i + 1) l) ≡ times_in x (take i l) + cond (eqb (get_or l i 0) x) 1 0
unfolding times_in
times_more x l i h = rw (add-one i, take-suc l i 0 h) (times_append x (take i l) (get_or l i 0 ∷ []) ∙ omega arith)

tab_set : (f g : ℕ → ℕ) (n k v : ℕ) → k < n → g k ≡ v → ((x : ℕ) → (x ≡ k → ⊥) → g x ≡ f x) → set (tabulate f n) k v ≡ tabulate g n
tab_set f g n k v h e o =
    ext_get_or 0 (set (tabulate f n) k v) (tabulate g n) (length-set (tabulate f n) k v ∙ length_tab f n ∙ sym (length_tab g n))
    (λ i p. go i (rw (length-set (tabulate f n) k v, length_tab f n) at p) (eqb i k) refl)
  where
    go : (i : ℕ) → i < n → (b : Bool) → eqb i k ≡ b → get_or (set (tabulate f n) k v) i 0 ≡ get_or (tabulate g n) i 0
    go i p true q =
        let s = eqb-true i k q in
        rw s (get_or-set_same (tabulate f n) k v 0 (rw (length_tab f n) h) ∙ sym e ∙ sym (get_d_tab g n k 0 h))
    go i p false q =
        let s = eqb-false i k q in
        get_or-set_other (tabulate f n) k i v 0 s ∙ get_d_tab f n i 0 p ∙ sym (o i s) ∙ sym (get_d_tab g n i 0 p)

module _ (n : ℕ) (l seen : List ℕ) (i : ℕ) (done : seen ≡ times_each n (take i l)) where
  -- what a mark holds, and how much at most
  pub mark_at : (k : ℕ) → k < n → get_or seen k 0 ≡ times_in k (take i l)
  mark_at k h = rw done (get_d_tab (λ x. times_in x (take i l)) n k 0 h)

  pub mark_few : (k : ℕ) → k < n → get_or seen k 0 ≤ i
  mark_few k h = omega (arith, mark_at k h, times_few k (take i l), take_few i l)

  -- a turn
  pub mark_more : (k : ℕ) → k ≡ get_or l i 0 → i < length l → k < n → set seen k (get_or seen k 0 + 1) ≡ times_each n (take (i + 1) l)
  mark_more k e h m =
      rw (mark_at k m, done)
      (tab_set (λ x. times_in x (take i l)) (λ x. times_in x (take (i + 1) l)) n k (times_in k (take i l) + 1) m
      (times_more k l i h ∙ rw (eq-eqb (get_or l i 0) k (sym e)))
      (λ x o. times_more x l i h ∙ rw (ne_eqb (get_or l i 0) x (λ q. o (sym q ∙ sym e))) (omega arith)))

pub mark_none : (n : ℕ) (l seen : List ℕ) → seen ≡ replicate n 0 → seen ≡ times_each n (take 0 l)
unfolding times_in
mark_none n l seen e = e ∙ sym (tab_const 0 n)

-- ---- each row once
pub once_not : (m : ℕ) (l : List ℕ) → m ≡ length l → all_below m l ≡ false → false ≡ each_once (length l) l
unfolding each_once
once_not m l e h = rw (rw e at h)

pub once_is : (m : ℕ) (l seen : List ℕ) (r : Bool) → m ≡ length l → all_below m l ≡ true → seen ≡ times_each m l → r ≡ all_are 1 seen → r ≡ each_once (length l) l
unfolding each_once
once_is m l seen r e h s a = a ∙ ap (λ (x : List ℕ). all_are 1 x) s ∙ rw e (sym (ap (λ (b : Bool). b && all_are 1 (times_each (length l) l)) (rw e at h)))
