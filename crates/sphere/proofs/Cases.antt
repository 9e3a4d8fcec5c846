-- The root by the kind of float: below zero, zero and NaN, infinity, positive and finite. Assumes nothing.
use Prim.Native.Nat.{ℕ, zero, suc, ◌+◌, ◌-◌, ◌*◌, ◌/◌, ◌%◌, ◌^◌, ◌≤◌, ◌<◌}
use mathlib.Core.Path.{◌≡◌, refl, sym, ap, subst, ◌∙◌}
use mathlib.Core.Bool.{Bool, true, false, not, cond, false≢true, true≢false}
use native.Mathlib.Nat.{zero-mul, mul-pos, zero-lt-suc}
use native.Mathlib.Omega.{arith}
use borrow.Author.Tests.{ltb-true, leb-false, lt-ltb}
use lib.Dec.{T, ltb, leb, leb→le, nleb→lt, eqb}
use lib.IntN.{ℤ}
use lib.Ieee.{Float, nan, inf, fin, binary32, up, down, odd, of_fields, of_bits, to_bits, fits, is_nan, lt}
use lib.Ieee.Bits.{of_bits-to_bits, to_bits-lt}
use lib.Ieee.Digits.{Equals, odd_val}
use lib.Ieee.Exact.{HasValue, odd_sign}
use lib.Ieee.Fits.{up_pos}
use Rattle.sums.specs.Sums.{zero32}
use Rattle.sphere.specs.Root.{units_of, root_units, root_of}
use Rattle.sphere.proofs.Patterns.{normal, subnormal, units_odd}

no_less : (a b : ℕ) → ltb a (0 * 1 * b) ≡ true → ⊥
no_less a b e = omega (arith, ltb-true a (0 * 1 * b) e, zero-mul b)

no_zero : (a b : ℕ) → ltb 0 (0 * a * 1 + 0 * 1 * b) ≡ true → ⊥
no_zero a b e = omega (arith, ltb-true 0 (0 * a * 1 + 0 * 1 * b) e, zero-mul a, zero-mul b)

no_self : (a b : ℕ) → ltb (0 * 1 * b) (0 * a * 1) ≡ true → ⊥
no_self a b e = omega (arith, ltb-true (0 * 1 * b) (0 * a * 1) e, zero-mul a)

some : (m b : ℕ) (e : ℤ) → ltb (0 * 1 * b) (suc m * up e * 1) ≡ true
some m b e = lt-ltb (0 * 1 * b) (suc m * up e * 1) (omega (arith, zero-mul b, mul-pos (zero-lt-suc m) (up_pos e)))

pub some_below : (m b : ℕ) (e : ℤ) → ltb 0 (suc m * up e * 1 + 0 * 1 * b) ≡ true
some_below m b e = lt-ltb 0 (suc m * up e * 1 + 0 * 1 * b) (omega (arith, mul-pos (zero-lt-suc m) (up_pos e)))

pub root_below : (x : Float) → lt x zero32 ≡ true → nan ≡ root_of x
unfolding lt root_of
root_below nan h = absurd (false≢true h)
root_below (inf true) h = refl
root_below (inf false) h = absurd (false≢true h)
root_below (fin true zero e) h = absurd (no_zero (up e) (down e) h)
root_below (fin true (suc m) e) h = refl
root_below (fin false m e) h = absurd (no_less (m * up e * 1) (down e) h)

pub root_self : (x : Float) → lt x zero32 ≡ false → lt zero32 x ≡ false → x ≡ root_of x
unfolding lt root_of
root_self nan h k = refl
root_self (inf true) h k = absurd (true≢false h)
root_self (inf false) h k = absurd (true≢false k)
root_self (fin s zero e) h k = refl
root_self (fin true (suc m) e) h k = absurd (true≢false (sym (some_below m (down e) e) ∙ h))
root_self (fin false (suc m) e) h k = absurd (true≢false (sym (some m (down e) e) ∙ k))

pub root_finite : (x : Float) (a c : ℕ) → Equals x a c → lt zero32 x ≡ true → root_of x ≡ root_units (units_of x)
unfolding lt root_of
root_finite nan a c v h = absurd v
root_finite (inf s) a c v h = absurd v
root_finite (fin true m e) a c v h = absurd (false≢true h)
root_finite (fin false zero e) a c v h = absurd (no_self (up e) (down e) h)
root_finite (fin false (suc m) e) a c v h = refl

-- q · 2 ^ k smallest values
pub root_odd : (x : Float) (q k : ℕ) → x ≡ odd 24 false q k 149 → lt zero32 x ≡ true → root_of x ≡ root_units (q * 2 ^ k)
root_odd x q k e h =
    let g : lt zero32 (odd 24 false q k 149) ≡ true = rw e at h in
    rw e (root_finite (odd 24 false q k 149) (q * 2 ^ k) (2 ^ 149) (odd_val 24 false q k 149) g ∙ ap root_units (units_odd q k))

pub odd_some : (x : Float) (q k : ℕ) → x ≡ odd 24 false q k 149 → lt zero32 x ≡ true → 0 < q
unfolding odd lt
odd_some x zero k e h = absurd (false≢true (rw e at h))
odd_some x (suc q) k e h = zero-lt-suc q

-- ---- the patterns of infinity and of what lies past it are of no positive finite float

signed : (y : Float) (m a c : ℕ) (e : ℤ) → HasValue y true a c → y ≡ fin false m e → ⊥
signed y m a c e v h = let w : HasValue (fin false m e) true a c = subst (λ (z : Float). HasValue z true a c) h v in false≢true w.0

endless : (t : Bool) (s : Bool) (m : ℕ) (e : ℤ) → cond t (inf s) nan ≡ fin false m e → ⊥
endless true s m e h = let z : ◌≡◌ {A = ℕ} 0 1 = cc in omega arith
endless false s m e h = let z : ◌≡◌ {A = ℕ} 0 1 = cc in omega arith

no_sign : (x t m : ℕ) (e : ℤ) → of_fields binary32 true x t ≡ fin false m e → ⊥
unfolding of_fields
no_sign zero t m e h = signed (odd 24 true t 0 149) m (t * 2 ^ 0) (2 ^ 149) e (odd_sign 24 true t 0 149) h
no_sign (suc x) t m e h = go (eqb (suc x) 255) h
  where
    go : (b : Bool) → cond b (cond (eqb t 0) (inf true) nan) (odd 24 true (8388608 + t) x 149) ≡ fin false m e → ⊥
    go true g = endless (eqb t 0) true m e g
    go false g = signed (odd 24 true (8388608 + t) x 149) m ((8388608 + t) * 2 ^ x) (2 ^ 149) e (odd_sign 24 true (8388608 + t) x 149) g

no_top : (t m : ℕ) (e : ℤ) → of_fields binary32 false 255 t ≡ fin false m e → ⊥
unfolding of_fields
no_top t m e h = endless (eqb t 0) false m e h

at_top : (b m : ℕ) (e : ℤ) → b < 4294967296 → of_bits binary32 b ≡ fin false m e → b < 2139095040
unfolding of_bits
at_top b m e l h = go (leb 2147483648 b) refl (leb 2139095040 b) (leb→le 2139095040 b) (nleb→lt 2139095040 b)
  where
    go : (s : Bool) → leb 2147483648 b ≡ s → (t : Bool) → (T t → 2139095040 ≤ b) → (T (not t) → b < 2139095040) → b < 2139095040
    go true p t y n = absurd (no_sign (b % 2147483648 / 8388608) (b % 8388608) m e (rw p at h))
    go false p true y n =
        let a : b < 2147483648 = omega (arith, leb-false 2147483648 b p) in
        let q : b % 2147483648 / 8388608 ≡ 255 = omega (arith, y tt) in
        absurd (no_top (b % 8388608) m e (rw (p, q) at h))
    go false p false y n = n tt

pub finite_bits : (m : ℕ) (e : ℤ) → T (fits binary32 (fin false m e)) → to_bits binary32 (fin false m e) < 2139095040
finite_bits m e f = at_top (to_bits binary32 (fin false m e)) m e (to_bits-lt binary32 (fin false m e) f) (of_bits-to_bits binary32 (fin false m e) f)

pub root_above : (x : Float) → T (fits binary32 x) → lt zero32 x ≡ true → 2139095040 ≤ to_bits binary32 x → x ≡ root_of x
unfolding lt root_of
root_above nan f h k = absurd (false≢true h)
root_above (inf true) f h k = absurd (false≢true h)
root_above (inf false) f h k = refl
root_above (fin true m e) f h k = absurd (false≢true h)
root_above (fin false m e) f h k = absurd (omega (arith, finite_bits m e f))

-- what is above something is no NaN
pub above_known : (x : Float) → lt zero32 x ≡ true → T (not (is_nan x))
unfolding lt is_nan
above_known nan h = absurd (false≢true h)
above_known (inf s) h = tt
above_known (fin s m e) h = tt

-- ---- a float by its bits

pub small_bits : (x : Float) → T (fits binary32 x) → to_bits binary32 x < 8388608 → x ≡ odd 24 false (to_bits binary32 x) 0 149
small_bits x f h = sym (of_bits-to_bits binary32 x f) ∙ subnormal (to_bits binary32 x) h

pub large_bits : (x : Float) → T (fits binary32 x) → 8388608 ≤ to_bits binary32 x → to_bits binary32 x < 2139095040
    → x ≡ odd 24 false (to_bits binary32 x % 8388608 + 8388608) (to_bits binary32 x / 8388608 - 1) 149
large_bits x f h k = sym (of_bits-to_bits binary32 x f) ∙ normal (to_bits binary32 x) h k
