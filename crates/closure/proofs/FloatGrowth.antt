-- General laws: a float of a format times a factor of at least one is at least itself, and a sum of squares has no minus sign. Assumes nothing.
use mathlib.Core.Path.{◌≡◌, refl, sym, ap, ◌∙◌}
use mathlib.Core.Bool.{Bool, true, false, ◌&&◌, cond, false≢true}
use mathlib.Core.List.{[], ◌∷◌}
use Prim.Native.Nat.{ℕ, zero, suc, ◌+◌, ◌-◌, ◌*◌, ◌%◌, ◌^◌, ◌≤◌, ◌<◌}
use native.Mathlib.Nat.{mul_assoc, mul_comm, mul_left_comm, mul_right_comm, mul-one, one-mul, zero-mul, lt_of_mul-lt-mul_right, le_of_suc-le-suc, mul-pos, mul-le-mul_right, mul-lt-mul_of_pos_right, le_of_eq, not-le_of_lt, lt_of_not-le}
use native.Mathlib.Omega.{arith}
use borrow.Author.Tests.{eqb-true, le-ltb}
use lib.IntN.{ℤ, pos, negsuc}
use lib.Dec.{T, ltb, leb, eqb, ltb→lt, leb→le}
use lib.Pow.{pow-add, pow_pos, pow-lt}
use lib.Ieee.{Float, Format, nan, inf, fin, binary32, binary64, prec, emax, low, up, down, odd, units, round, sum, add, mul, sub, lt, le, eq, fits, is_nan}
use lib.Ieee.Fits.{down_pos, round_is, add-fits, mul-fits}
use lib.Ieee.Digits.{back}
use lib.Ieee.Exact.{HasValue, round_exact}
use lib.Ieee.Order.{round_mono, le_of_values}
use lib.Ieee.Positive.{above_of_le, le→cross}
use Rattle.sums.specs.Rows.{Row}
use Rattle.sums.specs.Sums.{zero32, one32, square, sum_from, apart_of}
use Rattle.sums.proofs.Refusing.{both}
use Rattle.sums.proofs.Floats.{le_trans}

-- ---- rounding keeps what the format holds
pow_le : (i j : ℕ) → 2 ^ i ≤ 2 ^ j → i ≤ j
pow_le i j h = le_of_suc-le-suc (lt_of_not-le (λ (g : suc j ≤ i). not-le_of_lt (pow-lt g) h))

-- m·u/d, where u/d is 2^j of the format's smallest values
kept_at : (f : Format) (m u d j : ℕ) → 0 < d → m < 2 ^ prec f → u * 2 ^ low f ≡ 2 ^ j * d → m * u < 2 ^ suc (emax f) * d
    → HasValue (round f false (m * u) d) false (m * u) d
kept_at f m u d j D small e fine =
    let whole : m * u * 2 ^ low f ≡ m * 2 ^ j * d = mul_assoc m u (2 ^ low f) ∙ ap (λ (x : ℕ). m * x) e ∙ sym (mul_assoc m (2 ^ j) d) in
    let more : m * u * 2 ^ low f < 2 ^ suc (emax f) * d * 2 ^ low f = mul-lt-mul_of_pos_right fine (pow_pos (low f)) in
    let end : 2 ^ suc (emax f) * d * 2 ^ low f ≡ 2 ^ (low f + suc (emax f)) * d
    = mul_right_comm (2 ^ suc (emax f)) d (2 ^ low f) ∙ ap (λ (x : ℕ). x * d) (mul_comm (2 ^ suc (emax f)) (2 ^ low f) ∙ sym (pow-add 2 (low f) (suc (emax f)))) in
    round_exact f false (m * u) d m j D small (lt_of_mul-lt-mul_right d (rw (whole, end) at more)) whole

parts : (a b c d : Bool) → T (a && b && c && d) → T b × (T c × T d)
parts true true true true h = (tt, (tt, tt))
parts true true true false h = absurd h
parts true true false d h = absurd h
parts true false c d h = absurd h
parts false b c d h = absurd h

kept : (f : Format) (m : ℕ) (e : ℤ) → T (fits f (fin false m e)) → HasValue (round f false (m * up e) (down e)) false (m * up e) (down e)
unfolding fits
kept f zero e h = round_exact f false (0 * up e) (down e) 0 0 (down_pos e) (pow_pos (prec f)) (pow_pos (low f + suc (emax f))) (simp zero-mul)
kept f (suc m) (pos k) h =
    let p = parts (eqb (suc m % 2) 1) (ltb (suc m) (2 ^ prec f)) (leb 1 (2 ^ low f)) (ltb (suc m * 2 ^ k) (2 ^ suc (emax f) * 1)) h in
    kept_at f (suc m) (2 ^ k) 1 (k + low f) (pow_pos 0) (ltb→lt (suc m) (2 ^ prec f) p.0) (sym (mul-one (2 ^ (k + low f)) ∙ pow-add 2 k (low f)))
    (ltb→lt (suc m * 2 ^ k) (2 ^ suc (emax f) * 1) p.1.1)
kept f (suc m) (negsuc k) h =
    let p = parts (eqb (suc m % 2) 1) (ltb (suc m) (2 ^ prec f)) (leb (2 ^ suc k) (2 ^ low f)) (ltb (suc m * 1) (2 ^ suc (emax f) * 2 ^ suc k)) h in
    let deep : suc k ≤ low f = pow_le (suc k) (low f) (leb→le (2 ^ suc k) (2 ^ low f) p.1.0) in
    let e : 1 * 2 ^ low f ≡ 2 ^ (low f - suc k) * 2 ^ suc k
    = one-mul (2 ^ low f) ∙ (ap (λ (x : ℕ). 2 ^ x) (sym (back (low f) (suc k) deep)) ∙ pow-add 2 (low f - suc k) (suc k)) in
    kept_at f (suc m) 1 (2 ^ suc k) (low f - suc k) (pow_pos (suc k)) (ltb→lt (suc m) (2 ^ prec f) p.0) e
    (ltb→lt (suc m * 1) (2 ^ suc (emax f) * 2 ^ suc k) p.1.1)

-- ---- no minus sign
abbrev pub Plus : Float → Type 0
Plus nan = Unit {0}
Plus (inf s) = s ≡ false
Plus (fin s m e) = s ≡ false

odd_plus : (d q k l : ℕ) → Plus (odd d false q k l)
unfolding odd
odd_plus d zero k l = refl
odd_plus d (suc q) k l = refl

units_plus : (f : Format) (q k : ℕ) → Plus (units f false q k)
unfolding units
units_plus f q k = go (ltb (q * 2 ^ k) (2 ^ (low f + suc (emax f))))
  where
    go : (b : Bool) → Plus (cond b (odd (suc (prec f)) false q k (low f)) (inf false))
    go true = odd_plus (suc (prec f)) q k (low f)
    go false = refl

round_plus : (f : Format) (a b : ℕ) → Plus (round f false a b)
round_plus f a b = rw (round_is f false a b) (units_plus f _ _)

add_plus : (f : Format) (x y : Float) → Plus x → Plus y → Plus (add f x y)
unfolding add sum
add_plus f nan y p q = tt
add_plus f (inf s) nan p q = tt
add_plus f (fin s m e) nan p q = tt
add_plus f (inf true) (inf t) p q = absurd (false≢true (sym p))
add_plus f (inf false) (inf true) p q = absurd (false≢true (sym q))
add_plus f (inf false) (inf false) p q = refl
add_plus f (inf s) (fin t n d) p q = p
add_plus f (fin s m e) (inf t) p q = q
add_plus f (fin true m e) (fin t n d) p q = absurd (false≢true (sym p))
add_plus f (fin false m e) (fin true n d) p q = absurd (false≢true (sym q))
add_plus f (fin false m e) (fin false n d) p q = round_plus f (m * up e * down d + n * up d * down e) (down e * down d)

self_plus : (f : Format) (x : Float) → Plus (mul f x x)
unfolding mul
self_plus f nan = tt
self_plus f (inf true) = refl
self_plus f (inf false) = refl
self_plus f (fin true m e) = round_plus f (m * up e * (m * up e)) (down e * down e)
self_plus f (fin false m e) = round_plus f (m * up e * (m * up e)) (down e * down e)

maybe_plus : (b : Bool) → Plus (cond b nan (inf false))
maybe_plus true = tt
maybe_plus false = refl

mul_plus : (f : Format) (x y : Float) → Plus x → Plus y → Plus (mul f x y)
unfolding mul
mul_plus f nan y p q = tt
mul_plus f (inf s) nan p q = tt
mul_plus f (fin s m e) nan p q = tt
mul_plus f (inf true) (inf t) p q = absurd (false≢true (sym p))
mul_plus f (inf false) (inf true) p q = absurd (false≢true (sym q))
mul_plus f (inf false) (inf false) p q = refl
mul_plus f (inf true) (fin t n d) p q = absurd (false≢true (sym p))
mul_plus f (inf false) (fin true n d) p q = absurd (false≢true (sym q))
mul_plus f (inf false) (fin false n d) p q = maybe_plus (eqb n 0)
mul_plus f (fin true m e) (inf t) p q = absurd (false≢true (sym p))
mul_plus f (fin false m e) (inf true) p q = absurd (false≢true (sym q))
mul_plus f (fin false m e) (inf false) p q = maybe_plus (eqb m 0)
mul_plus f (fin true m e) (fin t n d) p q = absurd (false≢true (sym p))
mul_plus f (fin false m e) (fin true n d) p q = absurd (false≢true (sym q))
mul_plus f (fin false m e) (fin false n d) p q = round_plus f (m * up e * (n * up d)) (down e * down d)

-- what each addition keeps, a sum keeps
sum_keeps : (P : Float → Type 0) (f : Format) (term : Float → Float → Float) → ((s x y : Float) → P s → P (add f s (term x y)))
    → (s : Float) (xs ys : Row) → P s → P (sum_from f term s xs ys)
unfolding sum_from
sum_keeps P f term step s [] ys p = p
sum_keeps P f term step s (x ∷ xs) [] p = p
sum_keeps P f term step s (x ∷ xs) (y ∷ ys) p = sum_keeps P f term step (add f s (term x y)) xs ys (step s x y p)

-- a squared distance has no minus sign, and the format holds it
pub apart_plus : (xs ys : Row) → Plus (apart_of xs ys)
unfolding apart_of
apart_plus xs ys = sum_keeps Plus binary32 square (λ s x y p. add_plus binary32 s (square x y) p (self_plus binary32 (sub binary32 x y))) zero32 xs ys refl

pub apart_fits : (xs ys : Row) → T (fits binary32 (apart_of xs ys))
unfolding apart_of
apart_fits xs ys = sum_keeps (λ x. T (fits binary32 x)) binary32 square (λ s x y p. add-fits binary32 s (square x y)) zero32 xs ys (unfold fits in tt)

-- ---- growth
true_of : (b : Bool) → T b → b ≡ true
true_of true h = refl
true_of false h = absurd h

one_kept : (f : Format) → round f false 1 1 ≡ one32
unfolding round
one_kept binary32 = refl
one_kept binary64 = refl

from_one : (f : Format) (a c : ℕ) → 0 < c → c ≤ a → T (le one32 (round f false a c))
from_one f a c C h = rw (one_kept f) at (round_mono f 1 1 a c (pow_pos 0) C (omega arith))

zero_of : (a b : ℕ) (c : Bool) → (eqb a b && c) ≡ true → a ≡ b
zero_of a b c h = eqb-true a b (both (eqb a b) c h).0

-- one and something of at least zero
pub one_more : (f : Format) (x : Float) → le zero32 x ≡ true → T (le one32 (add f one32 x))
unfolding le lt eq add sum
one_more f nan h = absurd (false≢true h)
one_more f (inf true) h = absurd (false≢true h)
one_more f (inf false) h = tt
one_more f (fin false n d) h = from_one f (1 * 1 * down d + n * up d * 1) (1 * down d) (omega (arith, down_pos d)) (omega arith)
one_more f (fin true n d) h =
    let z : 0 * down d ≡ n * up d * 1 = zero_of (0 * down d) (n * up d * 1) (eqb (0 * down d) 0) h in
    rw (le-ltb (1 * down d) (n * up d * 1) (omega (arith, z, zero-mul (down d))))
    (from_one f (1 * down d - n * up d * 1) (1 * down d) (omega (arith, down_pos d)) (omega (arith, z, zero-mul (down d))))

-- a factor of at least one
inf_grows : (f : Format) (y : Float) → T (le one32 y) → is_nan (mul f (inf false) y) ≡ false → le (inf false) (mul f (inf false) y) ≡ true
unfolding le lt eq mul is_nan
inf_grows f nan h e = absurd h
inf_grows f (inf true) h e = absurd h
inf_grows f (inf false) h e = refl
inf_grows f (fin true n g) h e = absurd (above_of_le one32 (fin true n g) tt h)
inf_grows f (fin false n g) h e = go (eqb n 0) e
  where
    go : (b : Bool) → is_nan (cond b nan (inf false)) ≡ false → le (inf false) (cond b nan (inf false)) ≡ true
    go true e = absurd (false≢true (sym e))
    go false e = refl

wider : (x d g n : ℕ) → g ≤ n → x * (d * g) ≤ x * n * d
wider x d g n h = simp (mul_assoc, mul_comm) (simp (mul_comm, mul_left_comm) at (mul-le-mul_right (x * d) h))

fin_grows : (f : Format) (m : ℕ) (d : ℤ) (y : Float) → T (fits f (fin false m d)) → T (le one32 y) → is_nan (mul f (fin false m d) y) ≡ false
    → le (fin false m d) (mul f (fin false m d) y) ≡ true
unfolding le lt eq mul is_nan
fin_grows f m d nan k h e = absurd h
fin_grows f m d (inf true) k h e = absurd h
fin_grows f m d (inf false) k h e = go (eqb m 0) e
  where
    go : (b : Bool) → is_nan (cond b nan (inf false)) ≡ false → le (fin false m d) (cond b nan (inf false)) ≡ true
    go true e = absurd (false≢true (sym e))
    go false e = refl
fin_grows f m d (fin true n g) k h e = absurd (above_of_le one32 (fin true n g) tt h)
fin_grows f m d (fin false n g) k h e =
    let x = fin false m d in
    let y = fin false n g in
    let own = kept f m d k in
    let cross : 1 * 1 * down g ≤ n * up g * 1 = le→cross one32 y tt (above_of_le one32 y tt h) h in
    le_trans x (round f false (m * up d) (down d)) (round f false (m * up d * (n * up g)) (down d * down g))
    (true_of _ (le_of_values x (round f false (m * up d) (down d)) (m * up d) (down d) (m * up d) (down d) (down_pos d) (down_pos d) (refl, refl) own (le_of_eq refl)))
    (true_of _ (round_mono f (m * up d) (down d) (m * up d * (n * up g)) (down d * down g) (down_pos d) (mul-pos (down_pos d) (down_pos g)) (wider (m * up d) (down d) (down g) (n * up g) (omega (arith, cross)))))

pub product_grows : (f : Format) (x y : Float) → T (fits f x) → Plus x → T (le one32 y) → is_nan (mul f x y) ≡ false → le x (mul f x y) ≡ true
unfolding mul is_nan
product_grows f nan y k p h e = absurd (false≢true (sym e))
product_grows f (inf true) y k p h e = absurd (false≢true (sym p))
product_grows f (inf false) y k p h e = inf_grows f y h e
product_grows f (fin true m d) y k p h e = absurd (false≢true (sym p))
product_grows f (fin false m d) y k p h e = fin_grows f m d y k h e

plus_of : (y : Float) → T (le one32 y) → Plus y
unfolding le lt eq
plus_of nan h = absurd h
plus_of (inf true) h = absurd h
plus_of (inf false) h = refl
plus_of (fin true n g) h = absurd (above_of_le one32 (fin true n g) tt h)
plus_of (fin false n g) h = refl

known_factor : (f : Format) (x y : Float) → is_nan (mul f x y) ≡ false → is_nan x ≡ false
unfolding mul is_nan
known_factor f nan y e = e
known_factor f (inf s) y e = refl
known_factor f (fin s m d) y e = refl

-- the same factor taken twice
pub twice_grows : (f : Format) (x y : Float) → T (fits f x) → Plus x → T (le one32 y) → is_nan (mul f (mul f x y) y) ≡ false → le x (mul f (mul f x y) y) ≡ true
twice_grows f x y k p h e =
    le_trans x (mul f x y) (mul f (mul f x y) y)
    (product_grows f x y k p h (known_factor f (mul f x y) y e))
    (product_grows f (mul f x y) y (mul-fits f x y) (mul_plus f x y p (plus_of y h)) h e)
