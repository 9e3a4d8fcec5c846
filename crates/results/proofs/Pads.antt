-- Cells padded with blanks: the values, the blanks past them, and back. Assumes nothing.
use Prim.Native.Nat.{ℕ, zero, suc, ◌-◌, ◌≤◌}
use mathlib.Core.Path.{◌≡◌, refl, sym, ap, ◌∙◌}
use mathlib.Core.Bool.{true}
use mathlib.Core.List.{List, [], ◌∷◌, ◌++◌}
use native.Mathlib.Omega.{arith}
use borrow.Author.Tests.{eqb-true, eq-eqb}
use lib.Dec.{eqb}
use lib.ListN.{length, take, drop, replicate, length-drop, take-append-drop}
use lib.Seq.{take_at, drop_at, length-take-le}
use Rattle.sums.specs.Refusals.{padded}
use Rattle.sums.proofs.Refusing.{padded_none, padded_is, both}
use Rattle.results.specs.Grouping.{all_pass, all_are}

module _ (blank n k : ℕ) (xs : List ℕ) (long : length xs ≡ k) (fits : k ≤ n) where
  pub padded_front : take k (padded blank n xs) ≡ xs
  padded_front = ap (take k) (padded_is blank n (n - length xs) xs (omega arith)) ∙ take_at xs _ k long

  pub padded_rest : drop k (padded blank n xs) ≡ replicate (n - k) blank
  padded_rest = ap (drop k) (padded_is blank n (n - length xs) xs (omega arith)) ∙ drop_at xs _ k long ∙ ap (λ (m : ℕ). replicate (n - m) blank) long

pub all_blank : (v n : ℕ) → all_are v (replicate n v) ≡ true
unfolding all_pass
all_blank v zero = refl
all_blank v (suc n) = rw (eq-eqb v v refl, all_blank v n)

pub are_blank : (v : ℕ) (l : List ℕ) → all_are v l ≡ true → l ≡ replicate (length l) v
unfolding all_pass
are_blank v [] e = refl
are_blank v (x ∷ l) e =
    let h = both (eqb x v) (all_are v l) e in
    ap (λ (y : ℕ). y ∷ l) (eqb-true x v h.0) ∙ ap (λ (m : List ℕ). v ∷ m) (are_blank v l h.1)

-- cells whose rest is blank are their front, padded
pub padded_back : (blank n k : ℕ) (l : List ℕ) → length l ≡ n → k ≤ n → all_are blank (drop k l) ≡ true → padded blank n (take k l) ≡ l
padded_back blank n k l long fits e =
    let p : length (take k l) ≡ k = length-take-le k l (omega arith) in
    let q : length (drop k l) ≡ n - k = length-drop k l ∙ ap (λ (m : ℕ). m - k) long in
    padded_is blank n (n - length (take k l)) (take k l) (omega arith)
    ∙ ap (λ (m : ℕ). take k l ++ replicate (n - m) blank) p
    ∙ ap (λ (m : ℕ). take k l ++ replicate m blank) (sym q)
    ∙ ap (λ (m : List ℕ). take k l ++ m) (sym (are_blank blank (drop k l) e))
    ∙ take-append-drop k l

-- values put over the front of blanks
pub over_blanks : (blank n k : ℕ) (l xs : List ℕ) → l ≡ replicate n blank → length xs ≡ k → k ≤ n → xs ++ drop k l ≡ padded blank n xs
over_blanks blank n k l xs e long fits =
    ap (λ (m : List ℕ). xs ++ m)
    (ap (drop k) (e ∙ sym (padded_none blank n ∙ refl)) ∙ drop_blanks)
    ∙ sym (padded_is blank n (n - length xs) xs (omega arith) ∙ ap (λ (m : ℕ). xs ++ replicate (n - m) blank) long)
  where
    drop_blanks : drop k (padded blank n []) ≡ replicate (n - k) blank
    drop_blanks = ap (drop k) (padded_none blank n) ∙ go n k fits
      where
        go : (n k : ℕ) → k ≤ n → drop k (replicate n blank) ≡ replicate (n - k) blank
        go n zero h = let e : n - 0 ≡ n = omega arith in rw e
        go zero (suc k) h = absurd (omega arith)
        go (suc n) (suc k) h = let e : suc n - suc k ≡ n - k = omega arith in rw e (go n k (omega arith))
