-- The number that refuses a call is that of the first test that fails, and 0 where all pass; cells padded with blanks. Assumes nothing.
use Rattle.std.proofs.Common.{◌≡◌, ℕ, zero, suc, ◌+◌, ◌<◌, ◌≤◌, Bool, true, false, ◌&&◌, leb, List, [], ◌∷◌, ◌++◌, length, get_or, set, replicate, sym, refl, ap, ◌∙◌, suc-le-suc, zero-le, le_of_suc-le-suc, not-suc-le-zero, suc-ne-zero, arith, eqb-true, leb-true}
use mathlib.Core.Bool.{false≢true}
use native.Mathlib.Nat.{suc_inj}
use lib.ListN.{get_or-replicate}
use Rattle.sums.specs.Refusals.{within, same_all, lowest_from, padded, Cleared}

pub both : (a b : Bool) → (a && b) ≡ true → (a ≡ true) × (b ≡ true)
both true b e = (refl, e)
both false b e = absurd (false≢true e)

pub within_is : (low high n : ℕ) → within low high n ≡ true → (low ≤ n) × (n ≤ high)
within_is low high n e =
    let h = both (leb low n) (leb n high) e in
    (leb-true low n h.0, leb-true n high h.1)

-- lists of lengths that are the same
pub and_same : {a a' b b' : Bool} → a ≡ a' → b ≡ b' → (a && b) ≡ (a' && b')
and_same e f = rw (e, f)

pub same_cons : (m n : ℕ) (ms ns : List ℕ) → same_all (m ∷ ms) (n ∷ ns) ≡ true → (m ≡ n) × (same_all ms ns ≡ true)
unfolding same_all
same_cons m n ms ns e =
    let h = both _ _ e in
    (eqb-true m n h.0, h.1)

pub same_is : (ms ns : List ℕ) → same_all ms ns ≡ true → ms ≡ ns
unfolding same_all
same_is [] [] e = refl
same_is [] (n ∷ ns) e = absurd (false≢true e)
same_is (m ∷ ms) [] e = absurd (false≢true e)
same_is (m ∷ ms) (n ∷ ns) e = let h = same_cons m n ms ns e in rw (h.0, same_is ms ns h.1)

abbrev pub AllTrue : List Bool → Type 0
AllTrue [] = Unit {0}
AllTrue (b ∷ l) = (b ≡ true) × AllTrue l

pub passed : (i : ℕ) (l : List Bool) → lowest_from (suc i) l ≡ 0 → AllTrue l
unfolding lowest_from
passed i [] e = tt
passed i (true ∷ l) e = (refl, passed (suc i) l e)
passed i (false ∷ l) e = absurd (suc-ne-zero i e)

pub lowest_none : (i : ℕ) (l : List Bool) → AllTrue l → lowest_from i l ≡ 0
unfolding lowest_from
lowest_none i [] h = refl
lowest_none i (b ∷ l) h = rw h.0 (lowest_none (suc i) l h.1)

-- test j of the list, from 0, is the first that fails
abbrev pub FirstFails : ℕ → List Bool → Type 0
FirstFails j [] = ⊥
FirstFails zero (b ∷ l) = b ≡ false
FirstFails (suc j) (b ∷ l) = (b ≡ true) × FirstFails j l

-- its number is given, and no other's
pub lowest_when : (i j : ℕ) (l : List Bool) → FirstFails j l → lowest_from i l ≡ i + j
unfolding lowest_from
lowest_when i j [] h = absurd h
lowest_when i zero (b ∷ l) h = rw h (omega arith)
lowest_when i (suc j) (b ∷ l) h = rw h.0 (lowest_when (suc i) j l h.1 ∙ omega arith)

lowest_least : (i : ℕ) (l : List Bool) → 0 < lowest_from i l → i ≤ lowest_from i l
unfolding lowest_from
lowest_least i [] h = absurd (omega arith)
lowest_least i (true ∷ l) h = omega (arith, lowest_least (suc i) l h)
lowest_least i (false ∷ l) h = omega arith

pub lowest_most : (i : ℕ) (l : List Bool) → lowest_from (suc i) l ≤ i + length l
unfolding lowest_from
lowest_most i [] = omega arith
lowest_most i (true ∷ l) = omega (arith, lowest_most (suc i) l)
lowest_most i (false ∷ l) = omega arith

pub lowest_only : (i j : ℕ) (l : List Bool) → lowest_from (suc i) l ≡ suc i + j → FirstFails j l
unfolding lowest_from
lowest_only i j [] e = absurd (omega (arith, e))
lowest_only i zero (true ∷ l) e = absurd (omega (arith, e, lowest_least (suc (suc i)) l (omega (arith, e))))
lowest_only i zero (false ∷ l) e = refl
lowest_only i (suc j) (true ∷ l) e = (refl, lowest_only (suc i) j l (e ∙ omega arith))
lowest_only i (suc j) (false ∷ l) e = absurd (omega (arith, e))

pub above_none : (n : ℕ) → (n ≡ 0 → ⊥) → 0 < n
above_none zero h = absurd (h refl)
above_none (suc n) h = suc-le-suc zero-le

module _ {A : Type 0} where
  -- cells padded to as many as there are, or from none
  pub padded_all : (blank : A) (n : ℕ) (xs : List A) → length xs ≡ n → padded blank n xs ≡ xs
  unfolding padded
  padded_all blank zero [] e = refl
  padded_all blank zero (x ∷ xs) e = absurd (suc-ne-zero (length xs) e)
  padded_all blank (suc n) [] e = absurd (suc-ne-zero n (sym e))
  padded_all blank (suc n) (x ∷ xs) e = ap (λ (l : List A). x ∷ l) (padded_all blank n xs (suc_inj e))

  pub padded_none : (blank : A) (n : ℕ) → padded blank n [] ≡ replicate n blank
  unfolding padded
  padded_none blank zero = refl
  padded_none blank (suc n) = ap (λ (l : List A). blank ∷ l) (padded_none blank n)

  -- the values, and so many blanks
  pub padded_is : (blank : A) (n m : ℕ) (xs : List A) → n ≡ length xs + m → padded blank n xs ≡ xs ++ replicate m blank
  unfolding padded
  padded_is blank n m [] e = padded_none blank n ∙ (let f : n ≡ m = omega arith in rw f)
  padded_is blank zero m (x ∷ xs) e = absurd (omega arith)
  padded_is blank (suc n) m (x ∷ xs) e = ap (λ (l : List A). x ∷ l) (padded_is blank n m xs (omega arith))

  -- there are as many cells as were lent
  pub padded_length : (blank : A) (n : ℕ) (xs : List A) → length (padded blank n xs) ≡ n
  unfolding padded
  padded_length blank zero xs = refl
  padded_length blank (suc n) [] = ap suc (padded_length blank n [])
  padded_length blank (suc n) (x ∷ xs) = ap suc (padded_length blank n xs)

  -- one value more
  pub padded_more : (blank : A) (n : ℕ) (xs : List A) (v : A) → length xs < n → set (padded blank n xs) (length xs) v ≡ padded blank n (xs ++ (v ∷ []))
  unfolding padded
  padded_more blank zero xs v h = absurd (not-suc-le-zero h)
  padded_more blank (suc n) [] v h = refl
  padded_more blank (suc n) (x ∷ xs) v h = ap (λ (l : List A). x ∷ l) (padded_more blank n xs v (le_of_suc-le-suc h))

  -- the cells that hold a value, and those past them
  pub padded_at : (blank : A) (n : ℕ) (xs : List A) (i : ℕ) (d : A) → length xs ≤ n → i < length xs → get_or (padded blank n xs) i d ≡ get_or xs i d
  unfolding padded
  padded_at blank n [] i d h k = absurd (not-suc-le-zero k)
  padded_at blank zero (x ∷ xs) i d h k = absurd (not-suc-le-zero h)
  padded_at blank (suc n) (x ∷ xs) zero d h k = refl
  padded_at blank (suc n) (x ∷ xs) (suc i) d h k = padded_at blank n xs i d (le_of_suc-le-suc h) (le_of_suc-le-suc k)

  pub padded_past : (blank : A) (n : ℕ) (xs : List A) (i : ℕ) (d : A) → length xs ≤ i → i < n → get_or (padded blank n xs) i d ≡ blank
  unfolding padded
  padded_past blank n [] i d h k = rw (padded_none blank n) (get_or-replicate n i blank d k)
  padded_past blank zero (x ∷ xs) i d h k = absurd (not-suc-le-zero k)
  padded_past blank (suc n) (x ∷ xs) zero d h k = absurd (not-suc-le-zero h)
  padded_past blank (suc n) (x ∷ xs) (suc i) d h k = padded_past blank n xs i d (le_of_suc-le-suc h) (le_of_suc-le-suc k)

-- two work slices of one length that both end cleared hold the same
pub cleared_same : {A : Type 0} (blank : A) (cells cells' : List A) → Cleared blank cells → Cleared blank cells' → length cells ≡ length cells' → cells ≡ cells'
cleared_same {A} blank cells cells' c c' e = c ∙ (ap (λ (n : ℕ). replicate n blank) e ∙ sym c')
