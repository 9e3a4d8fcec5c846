-- General laws on lists, weights and bounds, that could stand below this crate. Assumes nothing.
use mathlib.Core.Path.{◌≡◌, refl, ap, ◌∙◌}
use mathlib.Core.List.{List, [], ◌∷◌, ◌++◌, append_assoc}
use mathlib.Core.Bool.{Bool, true, false, cond}
use Prim.Native.Nat.{ℕ, zero, suc, ◌+◌, ◌-◌, ◌<◌}
use native.Mathlib.Numerals.{add-one}
use native.Mathlib.Omega.{arith}
use lib.Dec.{leb}
use borrow.Author.Tests.{leb-false, lt-leb}
use lib.ListN.{length, take, drop, get_or, set, length-append, length-drop}
use lib.Seq.{take_at, drop_at, split_at, append_snoc, get_or-drop, drop-drop}
use Rattle.sums.specs.Cells.{Below}
use Rattle.sums.proofs.Belows.{below_tail}
use Rattle.sums.proofs.Weighs.{weigh, one, Same}

module _ {A : Type 0} where
  pub cond_same : (b : Bool) (x : A) → cond b x x ≡ x
  cond_same true x = refl
  cond_same false x = refl

  pub drop_more : (n : ℕ) (a b : List A) → drop n a ≡ drop n b → drop (suc n) a ≡ drop (suc n) b
  drop_more n a b e = rw (← add-one n, ← drop-drop 1 n a, ← drop-drop 1 n b, e)

  pub take_two : (a b d e : List A) (n : ℕ) → length a + length b ≡ n → take n (a ++ ((b ++ d) ++ e)) ≡ a ++ b
  take_two a b d e n p = rw (append_assoc b d e, ← append_assoc a b (d ++ e)) (take_at (a ++ b) (d ++ e) n (length-append a b ∙ p))

  pub drop_past : (p : List A) (y : A) (ys : List A) (n : ℕ) → length p ≡ n → drop (suc n) (p ++ y ∷ ys) ≡ ys
  drop_past p y ys n e = rw (← append_snoc p y ys) (drop_at (p ++ y ∷ []) ys (suc n) (length-append p (y ∷ []) ∙ omega arith))

  -- a list cut around two of its places
  pub two_places : (ps : List A) (d : A) (a b : ℕ) → a < b → b < length ps
      → ps ≡ take a ps ++ get_or ps a d ∷ (take (b - suc a) (drop (suc a) ps) ++ get_or ps b d ∷ drop (suc b) ps)
  two_places ps d a b p q =
      let n = b - suc a in
      let e : suc a + n ≡ b = omega arith in
      let f : suc a + suc n ≡ suc b = omega arith in
      let h : n < length (drop (suc a) ps) = rw length-drop (omega arith) in
      split_at ps a d (omega arith)
      ∙ ap (λ z. take a ps ++ get_or ps a d ∷ z) (split_at (drop (suc a) ps) n d h ∙ rw (get_or-drop, drop-drop, e, f))

-- l without what stands at j
abbrev pub without : ℕ → List ℕ → List ℕ
without j l = take j l ++ drop (suc j) l

pub weigh_without : (f : ℕ → ℕ) (l : List ℕ) (j : ℕ) → j < length l → weigh f (without j l) + f (get_or l j 0) ≡ weigh f l
weigh_without f [] j h = absurd (omega arith)
weigh_without f (x ∷ xs) zero h = omega arith
weigh_without f (x ∷ xs) (suc j) h = omega (arith, weigh_without f xs j (omega arith))

pub length_without : (l : List ℕ) (j : ℕ) → j < length l → length (without j l) + 1 ≡ length l
length_without [] j h = absurd (omega arith)
length_without (x ∷ xs) zero h = omega arith
length_without (x ∷ xs) (suc j) h = omega (arith, length_without xs j (omega arith))

pub weigh_set : (f : ℕ → ℕ) (l : List ℕ) (i v : ℕ) → i < length l → weigh f (set l i v) + f (get_or l i 0) ≡ weigh f l + f v
weigh_set f [] i v h = absurd (omega arith)
weigh_set f (x ∷ xs) zero v h = omega arith
weigh_set f (x ∷ xs) (suc i) v h = omega (arith, weigh_set f xs i v (omega arith))

-- a bound is a weighing, so the same rows have it in any order
pub below_weigh : (m : ℕ) (l : List ℕ) → Below m l → weigh (λ x. one (leb m x)) l ≡ 0
below_weigh m [] h = refl
below_weigh m (x ∷ l) h = omega (arith, ap one (lt-leb m x (h 0 (omega arith))), below_weigh m l (below_tail m x l h))

pub weigh_below : (m : ℕ) (l : List ℕ) → weigh (λ x. one (leb m x)) l ≡ 0 → Below m l
weigh_below m [] h i p = absurd (omega arith)
weigh_below m (x ∷ l) h i p = go (leb m x) refl i p h (weigh_below m l)
  where
    go : (b : Bool) → leb m x ≡ b → (i : ℕ) → i < suc (length l) → one b + weigh (λ y. one (leb m y)) l ≡ 0
        → (weigh (λ y. one (leb m y)) l ≡ 0 → Below m l) → get_or (x ∷ l) i 0 < m
    go true e i p z ih = absurd (omega arith)
    go false e zero p z ih = leb-false m x e
    go false e (suc i) p z ih = ih (omega arith) i (omega arith)

pub below_same : (m : ℕ) (a b : List ℕ) → Same a b → Below m b → Below m a
below_same m a b s h = weigh_below m a (s (λ x. one (leb m x)) ∙ below_weigh m b h)
