-- The code's own numbers: leading zeros counted, digits shifted, a pattern put together. Assumes nothing.
use Prim.Native.Nat.{ℕ, suc, ◌+◌, ◌-◌, ◌*◌, ◌/◌, ◌%◌, ◌^◌, ◌≤◌, ◌<◌}
use mathlib.Core.Path.{◌≡◌, sym, ap}
use native.Mathlib.Nat.{lt_of_le_of_lt, mod-eq_of_lt}
use native.Mathlib.Omega.{arith}
use lib.Count.{count_leading_zeros, leading_top}
use lib.Ieee.{binary32, of_bits, size}
use lib.Ieee.Digits.{size-lt, size-le}
use Rattle.sphere.specs.Root.{whole_root, dropped, scaled, digits_of, root_units}
use Rattle.sphere.proofs.Squares.{Ready}
use Rattle.sphere.proofs.Digits.{pow_lt_back, sized, dropped_is, scaled_is, ready, around}
use Rattle.sphere.proofs.Patterns.{pattern}

leading : (m : ℕ) → 0 < m → m < 4294967296 → 32 - count_leading_zeros 32 m ≡ size m
leading m h k =
    let t = leading_top 32 m h k in
    let a : size m ≤ suc t.0 = size-le m (suc t.0) t.3 in
    let b : t.0 < size m = pow_lt_back t.0 (size m) (lt_of_le_of_lt t.2 (size-lt m)) in
    omega (arith, t.1)

abbrev pub halved : ℕ → ℕ → ℕ
halved m k = (32 - count_leading_zeros 32 m + k) / 2

abbrev pub moved : ℕ → ℕ → ℕ
moved m k = (m * 2 ^ (k + 49 - 2 * halved m k)) % 18446744073709551616

module _ (m k : ℕ) (some : 0 < m) (short : m < 16777216) where
  pub halved_is : halved m k ≡ dropped (m * 2 ^ k)
  halved_is = rw (leading m some (omega arith)) (sym (dropped_is m k some short))

  pub moved_is : moved m k ≡ scaled (m * 2 ^ k)
  moved_is =
      let r = ready m k some short in
      rw (halved_is, scaled_is m k some short) (mod-eq_of_lt (omega (arith, r.high)))

  pub moved_ready : Ready (moved m k)
  moved_ready = rw (moved_is, scaled_is m k some short) (ready m k some short)

  pub digits_are : (whole_root 25 (moved m k) + 1) / 2 ≡ digits_of (m * 2 ^ k)
  unfolding digits_of
  digits_are = ap (λ (x : ℕ). (whole_root 25 x + 1) / 2) moved_is

  pub kept : (r : ℕ) → r ≡ whole_root 25 (moved m k) → (8388608 ≤ (r + 1) / 2) × ((r + 1) / 2 < 16777216)
  kept r e = let a = around m k some short in rw (e, digits_are) (a.least, a.most)

  pub halves : k < 254 → halved m k ≤ 138
  halves h = omega (arith, halved_is, dropped_is m k some short, sized m k some short)

  pub made : k < 254 → of_bits binary32 ((halved m k + 51) * 8388608 + (whole_root 25 (moved m k) + 1) / 2) ≡ root_units (m * 2 ^ k)
  unfolding root_units
  made h =
      let a = around m k some short in
      let f : dropped (m * 2 ^ k) + 51 < 254 = omega (arith, halves h, halved_is) in
      rw (digits_are, halved_is) (pattern (dropped (m * 2 ^ k) + 51) (digits_of (m * 2 ^ k)) f a.least a.most)
