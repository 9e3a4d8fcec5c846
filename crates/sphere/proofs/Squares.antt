-- The whole part of a root, and its half rounded. Assumes nothing.
use Prim.Native.Nat.{ℕ, zero, suc, ◌+◌, ◌-◌, ◌*◌, ◌/◌, ◌%◌, ◌^◌, ◌≤◌, ◌<◌}
use mathlib.Core.Path.{◌≡◌, refl}
use mathlib.Core.Bool.{Bool, true, false, not, cond}
use native.Mathlib.Nat.{le_antisymm, mul-le-mul, pow-succ'}
use native.Mathlib.Omega.{arith}
use lib.Dec.{T, leb, leb→le, nleb→lt}
use Rattle.sphere.specs.Root.{whole_root}

-- ---- the whole part of a root

-- r is the whole part of the root of w
abbrev pub Whole : ℕ → ℕ → Type 0
Whole r w = (r * r ≤ w) × (w < (r + 1) * (r + 1))

quarter : (j w : ℕ) → w < 4 ^ suc j → w / 4 < 4 ^ j
quarter j w h = omega (arith, pow-succ' 4 j)

step : (w a : ℕ) → Whole a (w / 4) → Whole (cond (leb ((2 * a + 1) * (2 * a + 1)) w) (2 * a + 1) (2 * a)) w
step w a h = go (leb ((2 * a + 1) * (2 * a + 1)) w) (leb→le ((2 * a + 1) * (2 * a + 1)) w) (nleb→lt ((2 * a + 1) * (2 * a + 1)) w)
  where
    go : (b : Bool) → (T b → (2 * a + 1) * (2 * a + 1) ≤ w) → (T (not b) → w < (2 * a + 1) * (2 * a + 1)) → Whole (cond b (2 * a + 1) (2 * a)) w
    go true y n = (y tt, omega (arith, h.1))
    go false y n = (omega (arith, h.0), n tt)

pub whole_root_lem : (j w : ℕ) → w < 4 ^ j → Whole (whole_root j w) w
unfolding whole_root
whole_root_lem zero w h = (omega arith, omega arith)
whole_root_lem (suc j) w h = step w (whole_root j (w / 4)) (whole_root_lem j (w / 4) (quarter j w h))

at_most : (a b w : ℕ) → a * a ≤ w → w < (b + 1) * (b + 1) → a ≤ b
at_most a b w h k = go (leb a b) (leb→le a b) (nleb→lt a b)
  where
    go : (t : Bool) → (T t → a ≤ b) → (T (not t) → b < a) → a ≤ b
    go true y n = y tt
    go false y n = let l : b + 1 ≤ a = omega (arith, n tt) in absurd (omega (arith, mul-le-mul l l))

-- there is one
pub whole_one : (a b w : ℕ) → Whole a w → Whole b w → a ≡ b
whole_one a b w h k = le_antisymm (at_most a b w h.0 k.1) (at_most b a w k.0 h.1)

-- ---- its half, rounded

-- n has 24 digits, and w lies strictly between the squares of 2n - 1 and 2n + 1
pub record Around (n w : ℕ) : Type 0 where
  pub least : 8388608 ≤ n
  pub most : n < 16777216
  pub above : (2 * n - 1) * (2 * n - 1) < w
  pub under : w < (2 * n + 1) * (2 * n + 1)

-- w has 49 or 50 digits and is even, and the root of a larger one would round up to 2 ^ 24
pub record Ready (w : ℕ) : Type 0 where
  pub low : 281474976710656 ≤ w
  pub high : w + 67108864 ≤ 1125899906842624
  pub even : w % 2 ≡ 0

wide : (q w : ℕ) → Whole q w → Ready w → (16777216 ≤ q) × (q < 33554431)
wide q w h r = (at_most 16777216 q w (omega (arith, r.low)) h.1, small (leb 33554431 q) (leb→le 33554431 q) (nleb→lt 33554431 q))
  where
    small : (t : Bool) → (T t → 33554431 ≤ q) → (T (not t) → q < 33554431) → q < 33554431
    small true y n = absurd (omega (arith, mul-le-mul (y tt) (y tt), h.0, r.high))
    small false y n = n tt

-- q is 2h, or 2h + 1
half_even : (h w : ℕ) → Whole (2 * h) w → Ready w → Around h w
half_even zero w p r = absurd (omega (arith, p.1, r.low))
half_even (suc g) w p r =
    let b = wide (2 * suc g) w p r in
    let e : 2 * suc g - 1 ≡ 2 * g + 1 = omega arith in
    record { least = omega (arith, b.0); most = omega (arith, b.1); above = rw e (omega (arith, p.0)); under = p.1 }

half_odd : (h w : ℕ) → Whole (2 * h + 1) w → Ready w → Around (suc h) w
half_odd h w p r =
    let b = wide (2 * h + 1) w p r in
    let e : 2 * suc h - 1 ≡ 2 * h + 1 = omega arith in
    record { least = omega (arith, b.0); most = omega (arith, b.1); above = rw e (omega (arith, p.0, r.even)); under = omega (arith, p.1) }

pub half_up : (q w : ℕ) → Whole q w → Ready w → Around ((q + 1) / 2) w
half_up q w p r = go (q % 2) refl (omega arith)
  where
    go : (t : ℕ) → q % 2 ≡ t → t < 2 → Around ((q + 1) / 2) w
    go zero e l =
        let a : q ≡ 2 * (q / 2) = omega arith in
        let b : (q + 1) / 2 ≡ q / 2 = omega arith in
        rw b (half_even (q / 2) w (rw a at p) r)
    go (suc t) e l =
        let a : q ≡ 2 * (q / 2) + 1 = omega arith in
        let b : (q + 1) / 2 ≡ suc (q / 2) = omega arith in
        rw b (half_odd (q / 2) w (rw a at p) r)
