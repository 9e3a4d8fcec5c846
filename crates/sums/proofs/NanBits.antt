-- A NaN: what differs from itself, and what its patterns stand for. Assumes nothing.
use Rattle.std.proofs.Common.{◌≡◌, ℕ, ◌*◌, ◌%◌, ◌<◌, ◌≤◌, true, false, not, ◌&&◌, T, eqb, sym, refl, ap, ◌∙◌, le-ltb, lt-ltb, eq-eqb}
use mathlib.Core.Bool.{false≢true}
use lib.Ieee.{Float, nan, inf, fin, binary32, up, down, eq, ne, of_bits, is_nan, nan_bits}
use lib.Ieee.Bits.{nan_bits_is, nan_bits_above}

is_nan_lem : (x : Float) → is_nan x ≡ true → nan ≡ x
unfolding is_nan
is_nan_lem nan e = refl
is_nan_lem (inf s) e = absurd (false≢true e)
is_nan_lem (fin s m x) e = absurd (false≢true e)

level_self : (m : ℕ) → (eqb m m && true) ≡ true
level_self m = rw (eq-eqb m m refl)

pub ne_self : (x : Float) → ne x x ≡ is_nan x
unfolding ne eq is_nan
ne_self nan = refl
ne_self (inf true) = refl
ne_self (inf false) = refl
ne_self (fin true m e) = ap not (level_self (m * up e * down e))
ne_self (fin false m e) = ap not (level_self (m * up e * down e))

-- a test of x against itself, taken or not
pub nan_known : (x : Float) → ne x x ≡ true → nan ≡ x
nan_known x e = is_nan_lem x (sym (ne_self x) ∙ e)

pub no_nan_known : (x : Float) → ne x x ≡ false → T (not (is_nan x))
no_nan_known x e = rw (sym (ne_self x) ∙ e) tt

pub nan_pattern : (n : ℕ) → 2139095040 < n % 2147483648 → nan ≡ of_bits binary32 n
nan_pattern n h = is_nan_lem (of_bits binary32 n) (sym (nan_bits_is binary32 n) ∙ (nan_bits_above binary32 n ∙ lt-ltb _ _ h))

pub no_nan : (n : ℕ) → n % 2147483648 ≤ 2139095040 → T (not (nan_bits binary32 n))
no_nan n h = let e : nan_bits binary32 n ≡ false = nan_bits_above binary32 n ∙ le-ltb _ _ h in rw e tt
