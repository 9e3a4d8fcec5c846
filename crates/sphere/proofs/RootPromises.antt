-- What a reader is told of the root: it is the nearest float, and infinity gives infinity. Assumes nothing.
use Prim.Native.Nat.{ℕ, ◌+◌, ◌-◌, ◌*◌, ◌/◌, ◌%◌, ◌^◌, ◌≤◌, ◌<◌}
use mathlib.Core.Path.{◌≡◌, refl, ap}
use mathlib.Core.Bool.{Bool, true, false, false≢true}
use native.Mathlib.Nat.{mul_assoc, mul-pos, mul-lt-mul_of_pos_right, mul-le-mul_right}
use native.Mathlib.Omega.{arith}
use borrow.Author.Tests.{ltb-true, ltb-false}
use lib.Dec.{T, ltb}
use lib.Pow.{pow-add, pow_pos}
use lib.Ieee.{Float, nan, inf, fin, binary32, odd, to_bits, fits, lt}
use lib.Ieee.Digits.{Equals, odd_val}
use lib.Ieee.Exact.{odd_sign}
use lib.Ieee.Positive.{num, den, den_pos}
use Rattle.sums.specs.Sums.{zero32, infinity}
use Rattle.sphere.specs.Root.{dropped, digits_of, root_units, root_of}
use Rattle.sphere.specs.Nearest.{Nearest}
use Rattle.sphere.proofs.Digits.{places, four, scaled_is, scaled_exact, ready, around}
use Rattle.sphere.proofs.Cases.{finite_bits, root_odd, odd_some, small_bits, large_bits}

pub root-infinity : root_of infinity ≡ infinity
unfolding root_of
root-infinity = refl

-- ---- a positive finite float as digits · 2 ^ places of the smallest values
pub record Parts (x : Float) : Type 0 where
  pub q : ℕ
  pub k : ℕ
  pub is : x ≡ odd 24 false q k 149
  pub short : q < 16777216

pub by_bits : (x : Float) → T (fits binary32 x) → to_bits binary32 x < 2139095040 → Parts x
by_bits x f h = go (ltb (to_bits binary32 x) 8388608) refl
  where
    go : (b : Bool) → ltb (to_bits binary32 x) 8388608 ≡ b → Parts x
    go true e = let l = ltb-true (to_bits binary32 x) 8388608 e in record { q = to_bits binary32 x; k = 0; is = small_bits x f l; short = omega arith }
    go false e =
        let l = ltb-false (to_bits binary32 x) 8388608 e in
        record { q = to_bits binary32 x % 8388608 + 8388608; k = to_bits binary32 x / 8388608 - 1; is = large_bits x f l h; short = omega arith }

pub parts : (x : Float) → T (fits binary32 x) → lt zero32 x ≡ true → lt x infinity ≡ true → Parts x
unfolding lt
parts nan f h l = absurd (false≢true h)
parts (inf true) f h l = absurd (false≢true h)
parts (inf false) f h l = absurd (false≢true l)
parts (fin true m e) f h l = absurd (false≢true h)
parts (fin false m e) f h l = by_bits (fin false m e) f (finite_bits m e f)

-- ---- so many smallest values, as a fraction
equal_num : (x : Float) (a c : ℕ) → Equals x a c → num x * c ≡ a * den x
equal_num nan a c v = absurd v
equal_num (inf s) a c v = absurd v
equal_num (fin s m e) a c v = v

pub units_num : (x : Float) (q k : ℕ) → x ≡ odd 24 false q k 149 → num x * 2 ^ 149 ≡ q * 2 ^ k * den x
units_num x q k e = rw e (equal_num (odd 24 false q k 149) (q * 2 ^ k) (2 ^ 149) (odd_val 24 false q k 149))

-- w is what the digits are the root of, at its place; b, s and t stand for 2 ^ 149, 2 ^ 49 and 4 ^ 51
grown : (b s t a c n w p : ℕ) → 4 * b ≡ s * t → a * b ≡ n * c → w * p ≡ n * s → 4 * a * (b * b) ≡ w * (p * t * c)
grown b s t a c n w p e g h =
    let i : w * p * (c * t) ≡ n * s * (c * t) = ap (λ (y : ℕ). y * (c * t)) h in
    let j : a * b * (4 * b) ≡ n * c * (4 * b) = ap (λ (y : ℕ). y * (4 * b)) g in
    let k : n * c * (4 * b) ≡ n * c * (s * t) = ap (λ (y : ℕ). n * c * y) e in
    omega (arith, i, j, k)

within : (a b w p c : ℕ) → 4 * a * b ≡ w * (p * c) → 281474976710656 * (p * c) ≤ w * (p * c) → 70368744177664 * p * c ≤ a * b
within a b w p c e h = omega arith

pub root_nearest : (x : Float) → T (fits binary32 x) → lt zero32 x ≡ true → lt x infinity ≡ true → Nearest x (root_of x)
unfolding root_units
root_nearest x f h l =
    let p = parts x f h l in
    let s = odd_some x p.q p.k p.is h in
    let n = p.q * 2 ^ p.k in
    let d = dropped n in
    let w = p.q * 2 ^ places p.q p.k s p.short in
    let z : w * 4 ^ d ≡ n * 2 ^ 49 = rw (scaled_is p.q p.k s p.short) at (scaled_exact p.q p.k s p.short) in
    let t : 4 * num x * 2 ^ 298 ≡ w * (4 ^ (d + 51) * den x) = rw pow-add (grown (2 ^ 149) (2 ^ 49) (4 ^ 51) (num x) (den x) n w (4 ^ d) refl (units_num x p.q p.k p.is) z) in
    let c = 4 ^ (d + 51) * den x in
    let some : 0 < c = mul-pos (rw four (pow_pos (d + 51 + (d + 51)))) (den_pos x) in
    let a = around p.q p.k s p.short in
    let r = ready p.q p.k s p.short in
    record {
      n = digits_of n;
      u = d + 51;
      least = a.least;
      most = a.most;
      value = rw (root_odd x p.q p.k p.is h) (odd_sign 24 false (digits_of n) (d + 51) 149);
      above = rw (t, mul_assoc ((2 * digits_of n - 1) * (2 * digits_of n - 1)) (4 ^ (d + 51)) (den x)) (mul-lt-mul_of_pos_right a.above some);
      under = rw (t, mul_assoc ((2 * digits_of n + 1) * (2 * digits_of n + 1)) (4 ^ (d + 51)) (den x)) (mul-lt-mul_of_pos_right a.under some);
      inside = within (num x) (2 ^ 298) w (4 ^ (d + 51)) (den x) t (mul-le-mul_right c r.low);
    }
