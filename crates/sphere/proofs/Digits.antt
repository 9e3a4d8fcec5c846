-- The digits of M · 2 ^ k, and what the root's digits are taken from. Assumes nothing.
use Prim.Native.Nat.{ℕ, zero, suc, ◌+◌, ◌-◌, ◌*◌, ◌/◌, ◌^◌, ◌≤◌, ◌<◌}
use mathlib.Core.Path.{◌≡◌, refl, sym, ap, ◌∙◌}
use native.Mathlib.Nat.{le_antisymm, le_trans, lt_of_lt_of_le, lt_of_le_of_lt, lt_of_not-le, lt_irrefl, mul_assoc, mul-le-mul_left, mul-le-mul_right, mul_left_comm, pow-succ'}
use native.Mathlib.Omega.{arith}
use lib.Pow.{pow-add, pow_mono, shl_lt, shl-shr}
use lib.Ieee.{size}
use lib.Ieee.Digits.{size-lt, size-le, size_reaches}
use Rattle.sphere.specs.Root.{whole_root, dropped, scaled, digits_of}
use Rattle.sphere.proofs.Squares.{Ready, Around, whole_root_lem, half_up}

pub pow_lt_back : (i p : ℕ) → 2 ^ i < 2 ^ p → i < p
pow_lt_back i p h = lt_of_not-le (λ (g : p ≤ i). lt_irrefl (2 ^ i) (lt_of_lt_of_le h (pow_mono g)))

pub four : (d : ℕ) → 4 ^ d ≡ 2 ^ (d + d)
four zero = refl
four (suc d) =
    let e : 2 + (d + d) ≡ suc d + suc d = omega arith in
    pow-succ' 4 d ∙ ap (λ (x : ℕ). 4 * x) (four d) ∙ sym (pow-add 2 2 (d + d)) ∙ ap (λ (x : ℕ). 2 ^ x) e

-- what is above 0 has digits, and the first of them is a one
size_pos : (m : ℕ) → 0 < m → 0 < size m
size_pos m h = go (size m) refl
  where
    go : (s : ℕ) → size m ≡ s → 0 < s
    go zero e = absurd (omega (arith, rw e at (size-lt m)))
    go (suc s) e = omega arith

size_least : (m : ℕ) → 0 < m → 2 ^ (size m - 1) ≤ m
size_least m h = let p = size_pos m h in size_reaches m (size m - 1) (omega arith)

pub size_shift : (m k : ℕ) → 0 < m → size (m * 2 ^ k) ≡ size m + k
size_shift m k h =
    let p = size_pos m h in
    let a : size (m * 2 ^ k) ≤ size m + k = size-le (m * 2 ^ k) (size m + k) (shl_lt (size m) k (size-lt m)) in
    let b : 2 ^ (size m - 1 + k) ≤ m * 2 ^ k = rw pow-add (mul-le-mul_right (2 ^ k) (size_least m h)) in
    let c : size m - 1 + k < size (m * 2 ^ k) = pow_lt_back (size m - 1 + k) (size (m * 2 ^ k)) (lt_of_le_of_lt b (size-lt (m * 2 ^ k))) in
    le_antisymm a (omega arith)

module _ (m k : ℕ) (some : 0 < m) (short : m < 16777216) where
  pub sized : (size m ≤ 24) × (0 < size m)
  sized = (size-le m 24 short, size_pos m some)

  pub dropped_is : dropped (m * 2 ^ k) ≡ (size m + k) / 2
  unfolding dropped
  dropped_is = rw (size_shift m k some)

  -- how far m is shifted
  pub shift : (25 + 2 * dropped (m * 2 ^ k) ≤ k + 49) × ((k + 49 - 2 * dropped (m * 2 ^ k) + size m ≤ 50) × (49 ≤ k + 49 - 2 * dropped (m * 2 ^ k) + size m))
  shift =
      let d = dropped_is in
      let s = sized in
      (omega (arith, d, s), (omega (arith, d, s), omega (arith, d, s)))

  abbrev pub places : ℕ
  places = k + 49 - 2 * dropped (m * 2 ^ k)

  whole : m * 2 ^ k * 2 ^ 49 ≡ m * 2 ^ places * 4 ^ dropped (m * 2 ^ k)
  whole =
      let d = dropped (m * 2 ^ k) in
      let e : k + 49 ≡ places + (d + d) = omega (arith, shift) in
      mul_assoc m (2 ^ k) (2 ^ 49) ∙ ap (λ (x : ℕ). m * x) (sym (pow-add 2 k 49) ∙ ap (λ (x : ℕ). 2 ^ x) e ∙ pow-add 2 places (d + d) ∙ ap (λ (x : ℕ). 2 ^ places * x) (sym (four d)))
      ∙ sym (mul_assoc m (2 ^ places) (4 ^ d))

  pub scaled_is : scaled (m * 2 ^ k) ≡ m * 2 ^ places
  unfolding scaled
  scaled_is =
      let d = dropped (m * 2 ^ k) in
      rw (whole, four d, shl-shr (m * 2 ^ places) (d + d))

  pub scaled_exact : scaled (m * 2 ^ k) * 4 ^ dropped (m * 2 ^ k) ≡ m * 2 ^ k * 2 ^ 49
  scaled_exact = rw scaled_is (sym whole)

  pub ready : Ready (m * 2 ^ places)
  ready =
      let s = sized in
      let p = shift in
      let e : 2 ^ 48 ≤ 2 ^ (size m - 1 + places) = pow_mono {i = 48} {j = size m - 1 + places} (omega arith) in
      let f : 2 ^ (size m - 1 + places) ≤ m * 2 ^ places = rw pow-add (mul-le-mul_right (2 ^ places) (size_least m some)) in
      let g : m * 2 ^ places ≤ m * 2 ^ (50 - size m) = mul-le-mul_left m (pow_mono {i = places} {j = 50 - size m} (omega arith)) in
      let i : (m + 1) * 2 ^ (50 - size m) ≤ 2 ^ size m * 2 ^ (50 - size m) = mul-le-mul_right (2 ^ (50 - size m)) (omega (arith, size-lt m)) in
      let t : size m + (50 - size m) ≡ 50 = omega arith in
      let j : 2 ^ size m * 2 ^ (50 - size m) ≡ 2 ^ 50 = sym (pow-add 2 (size m) (50 - size m)) ∙ ap (λ (x : ℕ). 2 ^ x) t in
      let l : 2 ^ 26 ≤ 2 ^ (50 - size m) = pow_mono {i = 26} {j = 50 - size m} (omega arith) in
      let o : places ≡ suc (places - 1) = omega arith in
      let q : m * 2 ^ places ≡ 2 * (m * 2 ^ (places - 1)) = ap (λ (x : ℕ). m * 2 ^ x) o ∙ ap (λ (x : ℕ). m * x) (pow-succ' 2 (places - 1)) ∙ mul_left_comm m 2 (2 ^ (places - 1)) in
      record { low = le_trans e f; high = omega (arith, g, i, j, l); even = omega (arith, q) }

  pub around : Around (digits_of (m * 2 ^ k)) (m * 2 ^ places)
  unfolding digits_of
  around =
      let r = ready in
      rw scaled_is (half_up (whole_root 25 (m * 2 ^ places)) (m * 2 ^ places) (whole_root_lem 25 (m * 2 ^ places) (omega (arith, r.high))) r)
