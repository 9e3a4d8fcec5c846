-- The bit patterns of the positive finite floats, and the whole number of smallest values that each stands for. Assumes nothing.
use Prim.Native.Nat.{ℕ, zero, suc, ◌+◌, ◌-◌, ◌*◌, ◌/◌, ◌%◌, ◌^◌, ◌≤◌, ◌<◌}
use mathlib.Core.Path.{◌≡◌, ap, ◌∙◌}
use mathlib.Core.Bool.{false}
use native.Mathlib.Nat.{mod-eq_of_lt, mul-div_cancel}
use native.Mathlib.Omega.{arith}
use borrow.Author.Tests.{lt-leb, ne_eqb}
use lib.Ieee.{Float, nan, inf, fin, binary32, odd, of_fields, of_bits}
use lib.Ieee.Digits.{Equals, odd_val}
use lib.Ieee.Fits.{down_pos}
use Rattle.sphere.specs.Root.{units_of}

-- no sign, and a field below that of infinity
fields : (b : ℕ) → b < 2139095040 → of_bits binary32 b ≡ of_fields binary32 false (b / 8388608) (b % 8388608)
unfolding of_bits
fields b h =
    let s : b < 2147483648 = omega arith in
    rw (lt-leb 2147483648 b s, mod-eq_of_lt s)

field : (x t : ℕ) → 0 < x → x < 255 → of_fields binary32 false x t ≡ odd 24 false (8388608 + t) (x - 1) 149
unfolding of_fields
field zero t h k = absurd (omega arith)
field (suc x) t h k = rw (ne_eqb (suc x) 255 (λ e. omega arith)) (ap (λ (y : ℕ). odd 24 false (8388608 + t) y 149) (omega arith))

pub normal : (b : ℕ) → 8388608 ≤ b → b < 2139095040 → of_bits binary32 b ≡ odd 24 false (b % 8388608 + 8388608) (b / 8388608 - 1) 149
normal b h k =
    fields b k ∙ field (b / 8388608) (b % 8388608) (omega arith) (omega arith)
    ∙ ap (λ (y : ℕ). odd 24 false y (b / 8388608 - 1) 149) (omega arith)

pub subnormal : (b : ℕ) → b < 8388608 → of_bits binary32 b ≡ odd 24 false b 0 149
unfolding of_fields
subnormal b h =
    let q : b / 8388608 ≡ 0 = omega arith in
    let r : b % 8388608 ≡ b = omega arith in
    fields b (omega arith) ∙ rw (q, r)

-- n of 24 digits and the field f
pub pattern : (f n : ℕ) → f < 254 → 8388608 ≤ n → n < 16777216 → of_bits binary32 (f * 8388608 + n) ≡ odd 24 false n f 149
pattern f n k h l =
    let q : (f * 8388608 + n) / 8388608 - 1 ≡ f = omega arith in
    let r : (f * 8388608 + n) % 8388608 + 8388608 ≡ n = omega arith in
    normal (f * 8388608 + n) (omega arith) (omega arith) ∙ rw (q, r)

units_value : (x : Float) (a : ℕ) → Equals x a (2 ^ 149) → units_of x ≡ a
units_value nan a e = absurd e
units_value (inf s) a e = absurd e
units_value (fin s m d) a e = rw e (mul-div_cancel a (down_pos d))

pub units_odd : (q k : ℕ) → units_of (odd 24 false q k 149) ≡ q * 2 ^ k
units_odd q k = units_value (odd 24 false q k 149) (q * 2 ^ k) (odd_val 24 false q k 149)
