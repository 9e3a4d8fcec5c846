-- The allowance: a size above it as a float is a size above it cut to a whole number, and cut it is no less than the share. Assumes nothing.
use mathlib.Core.Path.{◌≡◌, refl, sym, ap, ◌∙◌}
use mathlib.Core.Bool.{Bool, true, false}
use Prim.Native.Nat.{ℕ, ◌+◌, ◌-◌, ◌*◌, ◌/◌, ◌^◌, ◌≤◌, ◌<◌, min}
use native.Mathlib.Nat.{mul-one, mul_right_comm, div-lt_iff_lt-mul, lt_of_mul-lt-mul_right, mul-lt-mul_of_pos_right, le_refl, le-div_iff_mul-le}
use native.Mathlib.Omega.{arith}
use borrow.Author.Tests.{le-ltb, ltb-true, ltb-false, ne_eqb}
use lib.Dec.{T, ltb, eqb, ltb→lt}
use lib.IntN.{pos}
use lib.Ieee.{Float, nan, inf, fin, binary32, up, down, lt, le, of_int, round, sum, add, mul, to_unsigned}
use lib.Ieee.Exact.{HasValue}
use lib.Ieee.Back.{round_whole}
use lib.Ieee.Fits.{down_pos}
use lib.Ieee.Order.{round_mono}
use lib.Ieee.Positive.{positive, above, above_of_le, positive_of_value, own_value, cross→le, values_of_le, mul_at, mul_mono}
use Rattle.sums.specs.Sums.{zero32, one32, count32}
use Rattle.grouping.specs.Balance.{allowed}

-- ---- general laws of floats and whole numbers, for any width
-- neither negative nor NaN
abbrev pub plain : Float → Type 0
plain nan = ⊥
plain (inf true) = ⊥
plain (inf false) = Unit {0}
plain (fin true m e) = ⊥
plain (fin false m e) = Unit {0}

-- two tests that mean the same
same_test : (a b c d : ℕ) → (a < b → c < d) → (c < d → a < b) → ltb a b ≡ ltb c d
same_test a b c d f g = go (ltb a b) refl (ltb c d) refl
  where
    go : (s : Bool) → ltb a b ≡ s → (t : Bool) → ltb c d ≡ t → ltb a b ≡ ltb c d
    go true e true e' = e ∙ sym e'
    go true e false e' = absurd (omega (arith, f (ltb-true a b e), ltb-false c d e'))
    go false e true e' = absurd (omega (arith, g (ltb-true c d e'), ltb-false a b e))
    go false e false e' = e ∙ sym e'

against : (w : ℕ) (a y : Float) (n : ℕ) → n < 2 ^ w → plain a → HasValue y false n 1 → lt a y ≡ ltb (to_unsigned w a) n
unfolding lt to_unsigned
against w nan y n h p v = absurd p
against w (inf true) y n h p v = absurd p
against w (inf false) nan n h p v = absurd v
against w (inf false) (inf t) n h p v = absurd v
against w (inf false) (fin t m e) n h p v = sym (le-ltb (2 ^ w - 1) n (omega arith))
against w (fin true m e) y n h p v = absurd p
against w (fin false m e) nan n h p v = absurd v
against w (fin false m e) (inf t) n h p v = absurd v
against w (fin false m e) (fin t m' e') n h p v =
    let A = m * up e in
    let D = down e in
    let D' = down e' in
    let q : m' * up e' ≡ n * D' = sym (mul-one (m' * up e')) ∙ v.1 in
    let z : m' * up e' * D ≡ n * D * D' = ap (λ (x : ℕ). x * D) q ∙ mul_right_comm n D' D in
    rw (v.0, z)
    (same_test (A * D') (n * D * D') (min (A / D) (2 ^ w - 1)) n
    (λ l. let k : A / D < n = (div-lt_iff_lt-mul (down_pos e)).1 (lt_of_mul-lt-mul_right D' l) in omega arith)
    (λ l. let k : A / D < n = omega arith in mul-lt-mul_of_pos_right ((div-lt_iff_lt-mul (down_pos e)).0 k) (down_pos e')))

-- whole numbers that 32 bits hold exactly are compared as floats or cut, alike
pub above_cut : (w : ℕ) (a : Float) (n : ℕ) → n < 2 ^ w → n < 16777216 → plain a → lt a (count32 n) ≡ ltb (to_unsigned w a) n
unfolding of_int
above_cut w a n h l p = against w a (round binary32 false n 1) n h p (round_whole binary32 false n (omega arith))

-- ---- the share grown by the weight
abbrev one-rounded : Float
one-rounded = round binary32 false 1 1

one_value : HasValue one-rounded false 1 1
one_value = round_whole binary32 false 1 (omega arith)

one-positive : T (positive one-rounded)
one-positive = positive_of_value one-rounded 1 1 one_value (omega arith)

-- one and a weight above zero
one_more : (w : Float) → T (lt zero32 w) → T (le one-rounded (add binary32 (fin false 1 (pos 0)) w))
unfolding lt le add sum
one_more nan h = absurd h
one_more (inf true) h = absurd h
one_more (inf false) h = tt
one_more (fin true n d) h = absurd h
one_more (fin false n d) h =
    round_mono binary32 1 1 (1 * up (pos 0) * down d + n * up d * down (pos 0)) (down (pos 0) * down d) (omega arith) (omega (arith, down_pos d)) (omega arith)

module _ (s : ℕ) (p : 0 < s) (q : s < 16777216) where
  value : HasValue (round binary32 false s 1) false s 1
  value = round_whole binary32 false s (omega arith)

  is_positive : T (positive (round binary32 false s 1))
  is_positive = positive_of_value (round binary32 false s 1) s 1 value p

  grown : (x : Float) → T (le one-rounded x) → T (le (round binary32 false s 1) (mul binary32 (round binary32 false s 1) x))
  unfolding le lt mul
  grown x h = go x h (above_of_le one-rounded x one-positive h)
    where
      itself : T (le (round binary32 false s 1) (round binary32 false s 1))
      itself = cross→le (round binary32 false s 1) (round binary32 false s 1) is_positive is_positive (le_refl _)

      by_one : mul binary32 (round binary32 false s 1) one-rounded ≡ round binary32 false s 1
      by_one =
          mul_at binary32 (round binary32 false s 1) one-rounded s 1 1 1 is_positive one-positive (omega arith) (omega arith) value one_value
          ∙ ap (λ (z : ℕ). round binary32 false z 1) (mul-one s)

      endless : (y : Float) → T (positive y) → T (le y (mul binary32 y (inf false)))
      endless nan h = absurd h
      endless (inf t) h = absurd h
      endless (fin true m e) h = absurd h
      endless (fin false m e) h = let z : eqb m 0 ≡ false = ne_eqb m 0 (λ k. omega (arith, ltb→lt 0 m h)) in rw z tt

      go : (x : Float) → T (le one-rounded x) → T (above x) → T (le (round binary32 false s 1) (mul binary32 (round binary32 false s 1) x))
      go nan h a = absurd a
      go (inf true) h a = absurd a
      go (inf false) h a = endless (round binary32 false s 1) is_positive
      go (fin true m e) h a = absurd a
      go (fin false m e) h a =
          rw by_one at
          (mul_mono binary32 (round binary32 false s 1) (round binary32 false s 1) one-rounded (fin false m e) is_positive is_positive one-positive a itself h)

  -- at least s, cut
  cut : (w : ℕ) (y : Float) → s < 2 ^ w → T (le (round binary32 false s 1) y) → plain y × (s ≤ to_unsigned w y)
  unfolding to_unsigned
  cut w y l h = go y h (above_of_le (round binary32 false s 1) y is_positive h)
    where
      go : (y : Float) → T (le (round binary32 false s 1) y) → T (above y) → plain y × (s ≤ to_unsigned w y)
      go nan h a = absurd a
      go (inf true) h a = absurd a
      go (inf false) h a = (tt, omega arith)
      go (fin true m e) h a = absurd a
      go (fin false m e) h a =
          let v = values_of_le (round binary32 false s 1) (fin false m e) s 1 (m * up e) (down e) is_positive a value (own_value (fin false m e) a) h in
          let k : s ≤ m * up e / down e = (le-div_iff_mul-le (down_pos e)).1 (omega arith) in
          (tt, omega arith)

-- the allowance before it is cut to a whole number
unfoldable pub allowance : ℕ → Float → Float
allowance share weight = mul binary32 (count32 share) (add binary32 one32 weight)

-- the share grown by a weight above zero is a plain number, and cut it is no less than the share
pub share_allowed : (s : ℕ) (w : Float) → 0 < s → s ≤ 4096 → lt zero32 w ≡ true → plain (allowance s w) × (s ≤ allowed s w)
unfolding of_int allowance allowed
share_allowed s w p q h =
    let k : s < 16777216 = omega arith in
    let t : T (lt zero32 w) = rw h tt in
    cut s p k 64 (mul binary32 (round binary32 false s 1) (add binary32 (fin false 1 (pos 0)) w)) (omega arith) (grown s p k (add binary32 (fin false 1 (pos 0)) w) (one_more w t))

-- the code's test is the definition's
pub over_test : (s n : ℕ) (w : Float) → n ≤ 4096 → plain (allowance s w) → lt (allowance s w) (count32 n) ≡ ltb (allowed s w) n
unfolding allowance allowed
over_test s n w h p = above_cut 64 (allowance s w) n (omega arith) (omega arith) p
