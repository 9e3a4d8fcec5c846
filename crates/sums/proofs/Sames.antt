-- Two lists of numbers compared from the front. Assumes nothing.
use Rattle.std.proofs.Common.{◌≡◌, ℕ, suc, ◌+◌, ◌<◌, ◌≤◌, Bool, true, false, ◌&&◌, eqb, List, [], ◌∷◌, length, get_or, drop, sym, refl, ap, ◌∙◌, add-one, arith, drop_of_length-le, drop-cons, eq-eqb, ne_eqb}
use mathlib.Core.Bool.{and-false}
use Rattle.sums.specs.Refusals.{same_all}

pub same_short : (xs ys : List ℕ) → (length xs ≡ length ys → ⊥) → same_all xs ys ≡ false
unfolding same_all
same_short [] [] h = absurd (h refl)
same_short [] (y ∷ ys) h = refl
same_short (x ∷ xs) [] h = refl
same_short (x ∷ xs) (y ∷ ys) h = rw (same_short xs ys (λ e. h (ap suc e))) (and-false (eqb x y))

-- a turn of a loop over both, and its end
pub same_turn : (xs ys : List ℕ) (i : ℕ) → i < length xs → i < length ys
    → same_all (drop i xs) (drop i ys) ≡ (eqb (get_or xs i 0) (get_or ys i 0) && same_all (drop (suc i) xs) (drop (suc i) ys))
unfolding same_all
same_turn xs ys i h k = rw (drop-cons xs i 0 h, drop-cons ys i 0 k)

pub same_none : (xs ys : List ℕ) (i : ℕ) → length xs ≤ i → length ys ≤ i → same_all (drop i xs) (drop i ys) ≡ true
unfolding same_all
same_none xs ys i h k = rw (drop_of_length-le xs {i = i} h, drop_of_length-le ys {i = i} k)

-- of lists that are as long as each other: where both have the same at i the rest decides
module _ (xs ys : List ℕ) (i : ℕ) (r : Bool) where
  pub same_on : i < length xs → length xs ≡ length ys → get_or xs i 0 ≡ get_or ys i 0
      → same_all (drop i xs) (drop i ys) ≡ r → same_all (drop (i + 1) xs) (drop (i + 1) ys) ≡ r
  same_on h e s p = rw (add-one i) (sym (rw (eq-eqb _ _ s) at (same_turn xs ys i h (omega arith))) ∙ p)

  pub same_not : i < length xs → length xs ≡ length ys → (get_or xs i 0 ≡ get_or ys i 0 → ⊥) → same_all (drop i xs) (drop i ys) ≡ r → false ≡ r
  same_not h e s p = sym (rw (ne_eqb _ _ s) at (same_turn xs ys i h (omega arith))) ∙ p

  pub same_end : length xs ≤ i → length xs ≡ length ys → same_all (drop i xs) (drop i ys) ≡ r → true ≡ r
  same_end h e p = sym (same_none xs ys i h (omega arith)) ∙ p
