-- Searches through a list for the first number that passes a test, for any test. Assumes nothing.
use mathlib.Core.Path.{◌≡◌, refl}
use mathlib.Core.List.{List, [], ◌∷◌}
use mathlib.Core.Bool.{Bool, true, false, cond}
use Prim.Native.Nat.{ℕ, suc, ◌+◌, ◌≤◌, ◌<◌}
use native.Mathlib.Numerals.{add-one}
use native.Mathlib.Omega.{arith}
use lib.ListN.{length, get_or, drop}
use lib.Seq.{drop-cons}
use Rattle.grouping.specs.Balance.{seek}

-- what is found passes
pub seek_hit : (p : ℕ → Bool) (l : List ℕ) → seek p l < length l → p (get_or l (seek p l) 0) ≡ true
unfolding seek
seek_hit p [] h = absurd (omega arith)
seek_hit p (x ∷ xs) h = go (p x) refl h (seek_hit p xs)
  where
    go : (b : Bool) → p x ≡ b → cond b 0 (suc (seek p xs)) < suc (length xs) → (seek p xs < length xs → p (get_or xs (seek p xs) 0) ≡ true)
        → p (get_or (x ∷ xs) (cond b 0 (suc (seek p xs))) 0) ≡ true
    go true e h ih = e
    go false e h ih = ih (omega arith)

-- where nothing is found, nothing passes
pub seek_miss : (p : ℕ → Bool) (x : ℕ) (xs : List ℕ) → suc (length xs) ≤ seek p (x ∷ xs) → (p x ≡ false) × (length xs ≤ seek p xs)
unfolding seek
seek_miss p x xs = go (p x) refl
  where
    go : (b : Bool) → p x ≡ b → suc (length xs) ≤ cond b 0 (suc (seek p xs)) → (p x ≡ false) × (length xs ≤ seek p xs)
    go true e h = absurd (omega arith)
    go false e h = (e, omega arith)

-- a search that has passed i numbers
pub record Seeking (p : ℕ → Bool) (l : List ℕ) (i : ℕ) : Type 0 where
  pub within : i ≤ length l
  pub passed : i + seek p (drop i l) ≡ seek p l

module _ {p : ℕ → Bool} {l : List ℕ} {i : ℕ} (h : Seeking p l i) where
  pub seeking_none : length l ≤ i → length l ≤ seek p l
  seeking_none k = omega (arith, h.passed)

  pub seeking_found : i < length l → p (get_or l i 0) ≡ true → i ≡ seek p l
  unfolding seek
  seeking_found k t = omega (arith, rw (drop-cons l i 0 k, t) at h.passed)

  pub seeking_on : i < length l → p (get_or l i 0) ≡ false → Seeking p l (i + 1)
  unfolding seek
  seeking_on k t = record { within = omega arith; passed = rw (add-one i) (omega (arith, rw (drop-cons l i 0 k, t) at h.passed)) }

pub seeking_start : (p : ℕ → Bool) (l : List ℕ) → Seeking p l 0
seeking_start p l = record { within = omega arith; passed = omega arith }
