-- From the digits to every other float: none is as near to the exact root. Assumes nothing.
use Prim.Native.Nat.{ℕ, zero, suc, ◌+◌, ◌-◌, ◌*◌, ◌^◌, ◌≤◌, ◌<◌}
use mathlib.Core.Path.{◌≡◌, refl, sym, ap, ◌∙◌}
use mathlib.Core.Bool.{Bool, true, false, not, false≢true, true≢false}
use mathlib.Core.Logic.{◌⊎◌, inl, inr}
use native.Mathlib.Nat.{zero-mul, mul-pos, mul_assoc, mul-le-mul, mul-le-mul_right, mul-lt-mul_of_pos_right, lt_of_mul-lt-mul_right, lt_of_lt_of_le, lt_of_le_of_lt, pow-succ'}
use native.Mathlib.Omega.{arith}
use borrow.Author.Tests.{ltb-true, ltb-false, le-ltb}
use lib.Dec.{T, ltb, leb, leb→le, nleb→lt}
use lib.IntN.{ℤ}
use lib.Pow.{pow-add, pow_pos, pow_mono}
use lib.Ieee.{Float, nan, inf, fin, binary32, up, down, fits, lt}
use lib.Ieee.Fits.{down_pos}
use lib.Ieee.Positive.{num, den, den_pos}
use Rattle.sums.specs.Sums.{zero32, infinity}
use Rattle.sphere.specs.Root.{root_of}
use Rattle.sphere.specs.Nearest.{Nearest, Closest, middle, parted}
use Rattle.sphere.proofs.Digits.{four}
use Rattle.sphere.proofs.Cases.{finite_bits, some_below}
use Rattle.sphere.proofs.RootPromises.{by_bits, units_num, root_nearest}

-- ---- two floats of 24 digits, in smallest values: they are at least 2 ^ u apart, but below 2 ^ 23 · 2 ^ u

-- q · 2 ^ j is a multiple of 2 ^ u, or lies below 2 ^ 23 · 2 ^ u
grid : (q j u : ℕ) → q < 16777216 → ((i : ℕ) × (q * 2 ^ j ≡ i * 2 ^ u)) ⊎ (q * 2 ^ j < 8388608 * 2 ^ u)
grid q j u s = go (leb u j) (leb→le u j) (nleb→lt u j)
  where
    go : (b : Bool) → (T b → u ≤ j) → (T (not b) → j < u) → ((i : ℕ) × (q * 2 ^ j ≡ i * 2 ^ u)) ⊎ (q * 2 ^ j < 8388608 * 2 ^ u)
    go true y n =
        let h = y tt in
        let e : j ≡ j - u + u = omega arith in
        inl (q * 2 ^ (j - u), ap (λ (x : ℕ). q * x) (ap (λ (x : ℕ). 2 ^ x) e ∙ pow-add 2 (j - u) u) ∙ sym (mul_assoc q (2 ^ (j - u)) (2 ^ u)))
    go false y n =
        let h = n tt in
        let e : u ≡ suc (u - 1) = omega arith in
        let p : 2 ^ u ≡ 2 * 2 ^ (u - 1) = ap (λ (x : ℕ). 2 ^ x) e ∙ pow-succ' 2 (u - 1) in
        let l : j ≤ u - 1 = omega arith in
        let a : q * 2 ^ j < 16777216 * 2 ^ j = mul-lt-mul_of_pos_right s (pow_pos j) in
        inr (omega (arith, a, pow_mono l, p))

-- one multiple below another is a whole 2 ^ u below
next : (i n p : ℕ) → i * p < n * p → i * p + p ≤ n * p
next i n p h = let l : suc i ≤ n = lt_of_mul-lt-mul_right p h in omega (arith, mul-le-mul_right p l)

below_gap : (q j n u : ℕ) → q < 16777216 → 8388608 ≤ n → q * 2 ^ j < n * 2 ^ u → (q * 2 ^ j + 2 ^ u ≤ n * 2 ^ u) ⊎ (n ≡ 8388608)
below_gap q j n u s l h =
    elim (grid q j u s) [
      | inl g ↦ inl (rw g.1 (next g.0 n (2 ^ u) (rw g.1 at h)))
      | inr g ↦ go (leb n 8388608) (leb→le n 8388608) (nleb→lt n 8388608) g
    ]
  where
    go : (b : Bool) → (T b → n ≤ 8388608) → (T (not b) → 8388608 < n) → q * 2 ^ j < 8388608 * 2 ^ u → (q * 2 ^ j + 2 ^ u ≤ n * 2 ^ u) ⊎ (n ≡ 8388608)
    go true y m g = inr (omega (arith, y tt))
    go false y m g = inl (omega (arith, mul-le-mul_right (2 ^ u) (m tt)))

above_gap : (q j n u : ℕ) → q < 16777216 → 8388608 ≤ n → n * 2 ^ u < q * 2 ^ j → n * 2 ^ u + 2 ^ u ≤ q * 2 ^ j
above_gap q j n u s l h =
    elim (grid q j u s) [
      | inl g ↦ rw g.1 (next n g.0 (2 ^ u) (rw g.1 at h))
      | inr g ↦ absurd (omega (arith, mul-le-mul_right (2 ^ u) l))
    ]

-- ---- their middle, squared

square : (n p : ℕ) → n * p * (n * p) ≡ n * n * (p * p)
square n p = omega arith

powers : (u : ℕ) → 2 ^ u * 2 ^ u ≡ 4 ^ u
powers u = sym (four u ∙ pow-add 2 u u)

-- v is at most (2n - 1) · 2 ^ u
under_middle : (v n u d x : ℕ) → v + 2 ^ u ≤ 2 * n * 2 ^ u → 8388608 ≤ n → (2 * n - 1) * (2 * n - 1) * 4 ^ u * d < x → v * v * d < x
under_middle v n u d x h l a =
    let e : 2 * n ≡ 2 * n - 1 + 1 = omega arith in
    let g : v + 2 ^ u ≤ (2 * n - 1 + 1) * 2 ^ u = rw e at h in
    let k : v ≤ (2 * n - 1) * 2 ^ u = omega (arith, g) in
    let m : v * v ≤ (2 * n - 1) * 2 ^ u * ((2 * n - 1) * 2 ^ u) = mul-le-mul k k in
    lt_of_le_of_lt (mul-le-mul_right d (rw (square (2 * n - 1) (2 ^ u), powers u) at m)) a

over_middle : (v n u d x : ℕ) → 2 * n * 2 ^ u + 2 ^ u ≤ v → x < (2 * n + 1) * (2 * n + 1) * 4 ^ u * d → x < v * v * d
over_middle v n u d x h a =
    let k : (2 * n + 1) * 2 ^ u ≤ v = omega arith in
    let m : (2 * n + 1) * 2 ^ u * ((2 * n + 1) * 2 ^ u) ≤ v * v = mul-le-mul k k in
    lt_of_lt_of_le a (mul-le-mul_right d (rw (square (2 * n + 1) (2 ^ u), powers u) at m))

-- where floats lie closer
least_middle : (v u d a : ℕ) → 0 < d → v < 16777216 * 2 ^ u → 8388608 * 8388608 * 4 ^ u * d ≤ a → v * v * d < 4 * a
least_middle v u d a s h l =
    let k : v + 1 ≤ 16777216 * 2 ^ u = omega arith in
    let m : (v + 1) * (v + 1) ≤ 16777216 * 2 ^ u * (16777216 * 2 ^ u) = mul-le-mul k k in
    let o : (v + 1) * (v + 1) ≤ 16777216 * 16777216 * 4 ^ u = rw (square 16777216 (2 ^ u), powers u) at m in
    let p : v * v < 16777216 * 16777216 * 4 ^ u = omega (arith, o) in
    let r : v * v * d < 16777216 * 16777216 * 4 ^ u * d = mul-lt-mul_of_pos_right p s in
    omega (arith, r, l)

-- ---- from smallest values to fractions: a is a numerator, d a denominator, b stands for 2 ^ 149

in_units : (b a a' d d' v v' : ℕ) → 0 < b → a * b ≡ v * d → a' * b ≡ v' * d' → a * d' < a' * d → v < v'
in_units b a a' d d' v v' s e e' h =
    let m : a * d' * b < a' * d * b = mul-lt-mul_of_pos_right h s in
    let i : a * b * d' ≡ v * d * d' = ap (λ (x : ℕ). x * d') e in
    let j : a' * b * d ≡ v' * d' * d = ap (λ (x : ℕ). x * d) e' in
    lt_of_mul-lt-mul_right (d * d') (omega (arith, m, i, j))

middle_units : (b a a' d d' v v' : ℕ) → a * b ≡ v * d → a' * b ≡ v' * d' → (a * d' + a' * d) * b ≡ (v + v') * (d * d')
middle_units b a a' d d' v v' e e' =
    let i : a * b * d' ≡ v * d * d' = ap (λ (x : ℕ). x * d') e in
    let j : a' * b * d ≡ v' * d' * d = ap (λ (x : ℕ). x * d) e' in
    omega (arith, i, j)

module _ (m v p b d a : ℕ) (some : 0 < p * p) (e : m * b ≡ v * p) where
  squared : m * b * (m * b) * d ≡ v * p * (v * p) * d
  squared = ap (λ (x : ℕ). x * x * d) e

  lower_back : v * v * d < 4 * a * (b * b) → m * m * d < 4 * a * (p * p)
  lower_back h =
      let k : v * v * d * (p * p) < 4 * a * (b * b) * (p * p) = mul-lt-mul_of_pos_right h some in
      let s = squared in
      let g : m * m * d * (b * b) < 4 * a * (p * p) * (b * b) = omega (arith, k, s) in
      lt_of_mul-lt-mul_right (b * b) g

  higher_back : 4 * a * (b * b) < v * v * d → 4 * a * (p * p) < m * m * d
  higher_back h =
      let k : 4 * a * (b * b) * (p * p) < v * v * d * (p * p) = mul-lt-mul_of_pos_right h some in
      let s = squared in
      let g : 4 * a * (p * p) * (b * b) < m * m * d * (b * b) = omega (arith, k, s) in
      lt_of_mul-lt-mul_right (b * b) g

-- ---- every float that is not below zero is such digits

record Units (y : Float) : Type 0 where
  q : ℕ
  k : ℕ
  short : q < 16777216
  is : num y * 2 ^ 149 ≡ q * 2 ^ k * den y

zeros : (a b c d : ℕ) → 0 * a * b ≡ 0 * c * d
zeros a b c d = omega arith

units_of_lem : (s : Bool) (m : ℕ) (e : ℤ) → T (fits binary32 (fin s m e)) → lt (fin s m e) zero32 ≡ false → Units (fin s m e)
unfolding lt
units_of_lem s zero e f h = record { q = 0; k = 0; short = omega arith; is = zeros (up e) (2 ^ 149) 1 (down e) }
units_of_lem true (suc m) e f h = absurd (true≢false (sym (some_below m (down e) e) ∙ h))
units_of_lem false (suc m) e f h =
    let p = by_bits (fin false (suc m) e) f (finite_bits (suc m) e f) in
    record { q = p.q; k = p.k; short = p.short; is = units_num (fin false (suc m) e) p.q p.k p.is }

nothing : (a c : ℕ) → ltb 0 (a * 1 + 0 * 1 * c) ≡ false → (d : ℕ) → a * d ≡ 0
nothing a c h d = let e : a ≡ 0 = omega (arith, ltb-false 0 (a * 1 + 0 * 1 * c) h) in rw (e, zero-mul)

-- y and r as numerators over one denominator
less : (s t : Bool) (m n : ℕ) (d e : ℤ) → t ≡ false → lt (fin s m d) zero32 ≡ false → lt (fin s m d) (fin t n e) ≡ true → m * up d * down e < n * up e * down d
unfolding lt
less s true m n d e i z h = absurd (true≢false i)
less false false m n d e i z h = ltb-true (m * up d * down e) (n * up e * down d) h
less true false m n d e i z h = omega (arith, ltb-true 0 (m * up d * down e + n * up e * down d) h, nothing (m * up d) (down d) z (down e))

more : (s t : Bool) (m n : ℕ) (d e : ℤ) → t ≡ false → lt (fin t n e) (fin s m d) ≡ true → (s ≡ false) × (n * up e * down d < m * up d * down e)
unfolding lt
more s true m n d e i h = absurd (true≢false i)
more true false m n d e i h = absurd (false≢true h)
more false false m n d e i h = (refl, ltb-true (n * up e * down d) (m * up d * down e) h)

unsigned : (s : Bool) (m : ℕ) (d : ℤ) → s ≡ false → lt (fin s m d) zero32 ≡ false
unfolding lt
unsigned true m d i = absurd (true≢false i)
unsigned false m d i = le-ltb (m * up d * 1) (0 * 1 * down d) (omega (arith, zero-mul (down d)))

module _ (x : Float) (t : Bool) (m : ℕ) (e : ℤ) (r : Nearest x (fin t m e)) (s : Bool) (n : ℕ) (d : ℤ) (f : T (fits binary32 (fin s n d))) (z : lt (fin s n d) zero32 ≡ false) where
  abbrev y : Units (fin s n d)
  y = units_of_lem s n d f z

  abbrev v : ℕ
  v = y.q * 2 ^ y.k

  abbrev w : ℕ
  w = r.n * 2 ^ r.u

  apart : 0 < down d * down e * (down d * down e)
  apart = let p = mul-pos (down_pos d) (down_pos e) in mul-pos p p

  both : (n * up d * down e + m * up e * down d) * 2 ^ 149 ≡ (v + w) * (down d * down e)
  both = middle_units (2 ^ 149) (n * up d) (m * up e) (down d) (down e) v w y.is r.value.1

  lower_at : lt (fin s n d) (fin t m e) ≡ true → middle (fin t m e) (fin s n d) * middle (fin t m e) (fin s n d) * den x < 4 * num x * parted (fin t m e) (fin s n d)
  lower_at h =
      let l : v < w = in_units (2 ^ 149) (n * up d) (m * up e) (down d) (down e) v w (pow_pos 149) y.is r.value.1 (less s t n m d e r.value.0 z h) in
      lower_back (middle (fin t m e) (fin s n d)) (v + w) (down d * down e) (2 ^ 149) (den x) (num x) apart both
      (elim (below_gap y.q y.k r.n r.u y.short r.least l) [
        | inl g ↦ under_middle (v + w) r.n r.u (den x) (4 * num x * 2 ^ 298) (omega (arith, g)) r.least r.above
        | inr g ↦
            let i : w ≡ 8388608 * 2 ^ r.u = ap (λ (a : ℕ). a * 2 ^ r.u) g in
            rw (mul_assoc 4 (num x) (2 ^ 298)) (least_middle (v + w) r.u (den x) (num x * 2 ^ 298) (den_pos x) (omega (arith, i, l)) r.inside)
      ])

  higher_at : lt (fin t m e) (fin s n d) ≡ true → 4 * num x * parted (fin t m e) (fin s n d) < middle (fin t m e) (fin s n d) * middle (fin t m e) (fin s n d) * den x
  higher_at h =
      let l : w < v = in_units (2 ^ 149) (m * up e) (n * up d) (down e) (down d) w v (pow_pos 149) r.value.1 y.is (more s t n m d e r.value.0 h).1 in
      higher_back (middle (fin t m e) (fin s n d)) (v + w) (down d * down e) (2 ^ 149) (den x) (num x) apart both
      (over_middle (v + w) r.n r.u (den x) (4 * num x * 2 ^ 298) (omega (arith, above_gap y.q y.k r.n r.u y.short r.least l)) r.under)

lower : (x : Float) (t : Bool) (m : ℕ) (e : ℤ) → Nearest x (fin t m e) → (y : Float) → T (fits binary32 y) → lt y zero32 ≡ false → lt y (fin t m e) ≡ true
    → middle (fin t m e) y * middle (fin t m e) y * den x < 4 * num x * parted (fin t m e) y
unfolding lt
lower x t m e r nan f z h = absurd (false≢true h)
lower x t m e r (inf true) f z h = absurd (true≢false z)
lower x t m e r (inf false) f z h = absurd (false≢true h)
lower x t m e r (fin s n d) f z h = lower_at x t m e r s n d f z h

higher : (x : Float) (t : Bool) (m : ℕ) (e : ℤ) → Nearest x (fin t m e) → (y : Float) → T (fits binary32 y) → lt y infinity ≡ true → lt (fin t m e) y ≡ true
    → 4 * num x * parted (fin t m e) y < middle (fin t m e) y * middle (fin t m e) y * den x
unfolding lt
higher x t m e r nan f z h = absurd (false≢true z)
higher x t m e r (inf true) f z h = absurd (false≢true h)
higher x t m e r (inf false) f z h = absurd (false≢true z)
higher x t m e r (fin s n d) f z h = higher_at x t m e r s n d f (unsigned s n d (more s t n m d e r.value.0 h).0) h

pub nearest_closest : (x r : Float) → Nearest x r → Closest x r
nearest_closest x nan r = absurd r.value
nearest_closest x (inf t) r = absurd r.value
nearest_closest x (fin t m e) r = record { lower = lower x t m e r; higher = higher x t m e r }

pub root_closest : (x : Float) → T (fits binary32 x) → lt zero32 x ≡ true → lt x infinity ≡ true → Closest x (root_of x)
root_closest x f h l = nearest_closest x (root_of x) (root_nearest x f h l)
