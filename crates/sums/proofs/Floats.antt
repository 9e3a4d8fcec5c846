-- The order of floats, for all of them: with a NaN no premise holds. Assumes nothing.
use Rattle.std.proofs.Common.{◌≡◌, ℕ, ◌+◌, ◌*◌, ◌<◌, ◌≤◌, Bool, true, false, not, ◌&&◌, ◌||◌, eqb, ltb, ◌⊎◌, sym, refl, ap, ◌∙◌, inl, inr, mul-le-mul_right, mul_assoc, mul_comm, add-mul, lt_of_mul-lt-mul_right, mul-lt-mul_of_pos_right, zero-mul, arith, ltb-false, ltb-true, le-ltb, lt-ltb, eq-eqb, eqb-true}
use mathlib.Core.Bool.{or-true, false≢true}
use lib.Ieee.{Float, nan, inf, fin, lt, le, eq, up, down, below, level, is_nan}
use lib.Ieee.Fits.{down_pos}
use Rattle.sums.proofs.Refusing.{both}
use borrow.Author.Tests.{not-true}

pub ltb_asym : (a b : ℕ) → ltb a b ≡ true → ltb b a ≡ false
ltb_asym a b e = le-ltb b a (omega (arith, ltb-true a b e))

pub lt_asym : (x y : Float) → lt x y ≡ true → lt y x ≡ false
unfolding lt
lt_asym nan nan e = refl
lt_asym nan (inf t) e = refl
lt_asym nan (fin t n d) e = refl
lt_asym (inf s) nan e = refl
lt_asym (inf true) (inf true) e = refl
lt_asym (inf true) (inf false) e = refl
lt_asym (inf false) (inf t) e = absurd (false≢true e)
lt_asym (inf s) (fin t n d) e = ap not e
lt_asym (fin s m e') nan e = refl
lt_asym (fin s m e') (inf t) e = not-true t e
lt_asym (fin true m e') (fin true n d) e = ltb_asym (n * up d * down e') (m * up e' * down d) e
lt_asym (fin true m e') (fin false n d) e = refl
lt_asym (fin false m e') (fin true n d) e = absurd (false≢true e)
lt_asym (fin false m e') (fin false n d) e = ltb_asym (m * up e' * down d) (n * up d * down e') e

-- what a signed number adds on its own side, and on the other
abbrev own : Bool → ℕ → ℕ
own false a = a
own true a = 0

abbrev other : Bool → ℕ → ℕ
other false a = 0
other true a = a

below_lt : (s : Bool) (a : ℕ) (t : Bool) (b : ℕ) → below s a t b ≡ true → own s a + other t b < own t b + other s a
below_lt false a false b e = omega (arith, ltb-true a b e)
below_lt false a true b e = absurd (false≢true e)
below_lt true a false b e = omega (arith, ltb-true 0 (a + b) e)
below_lt true a true b e = omega (arith, ltb-true b a e)

lt_below : (s : Bool) (a : ℕ) (t : Bool) (b : ℕ) → own s a + other t b < own t b + other s a → below s a t b ≡ true
lt_below false a false b h = lt-ltb a b (omega arith)
lt_below false a true b h = absurd (omega arith)
lt_below true a false b h = lt-ltb 0 (a + b) (omega arith)
lt_below true a true b h = lt-ltb b a (omega arith)

level_eq : (s : Bool) (a : ℕ) (t : Bool) (b : ℕ) → level s a t b ≡ true → own s a + other t b ≡ own t b + other s a
level_eq false a false b e = omega (arith, eqb-true a b (both (eqb a b) true e).0)
level_eq false a true b e = omega (arith, eqb-true a b (both (eqb a b) (eqb a 0) e).0, eqb-true a 0 (both (eqb a b) (eqb a 0) e).1)
level_eq true a false b e = omega (arith, eqb-true a b (both (eqb a b) (eqb a 0) e).0, eqb-true a 0 (both (eqb a b) (eqb a 0) e).1)
level_eq true a true b e = omega (arith, eqb-true a b (both (eqb a b) true e).0)

or_either : (a b : Bool) → a || b ≡ true → (a ≡ true) ⊎ (b ≡ true)
or_either true b e = inl refl
or_either false b e = inr e

own_mul : (s : Bool) (a c : ℕ) → own s (a * c) ≡ own s a * c
own_mul false a c = refl
own_mul true a c = sym (zero-mul c)

other_mul : (s : Bool) (a c : ℕ) → other s (a * c) ≡ other s a * c
other_mul false a c = sym (zero-mul c)
other_mul true a c = refl

-- a/x − a'/x ≤ b/y − b'/y < c/z − c'/z, over the denominators
cross : (a a' b b' c c' x y z : ℕ) → 0 < x → a * y + b' * x ≤ b * x + a' * y → b * z + c' * y < c * y + b' * z → a * z + c' * x < c * x + a' * z
cross a a' b b' c c' x y z px h k =
    let h' : (a * y + b' * x) * z ≤ (b * x + a' * y) * z = mul-le-mul_right z h in
    let k' : (b * z + c' * y) * x < (c * y + b' * z) * x = mul-lt-mul_of_pos_right k px in
    let h'' = simp (add-mul, mul_assoc) at h' in
    let k'' = simp (add-mul, mul_assoc, mul_comm) at k' in
    lt_of_mul-lt-mul_right y (simp (add-mul, mul_assoc, mul_comm) (omega arith))

-- three finite floats
finite : (s t u : Bool) (m n o x y z : ℕ) → 0 < x
    → own s (m * y) + other t (n * x) ≤ own t (n * x) + other s (m * y)
    → own t (n * z) + other u (o * y) < own u (o * y) + other t (n * z)
    → own s (m * z) + other u (o * x) < own u (o * x) + other s (m * z)
finite s t u m n o x y z px h k =
    simp (own_mul, other_mul)
    (cross (own s m) (other s m) (own t n) (other t n) (own u o) (other u o) x y z px
    (simp (own_mul, other_mul) at h) (simp (own_mul, other_mul) at k))

below_or_level : (s : Bool) (a : ℕ) (t : Bool) (b : ℕ) → below s a t b || level s a t b ≡ true → own s a + other t b ≤ own t b + other s a
below_or_level s a t b e =
    elim (or_either (below s a t b) (level s a t b) e) [ inl p ↦ omega (arith, below_lt s a t b p) | inr p ↦ omega (arith, level_eq s a t b p) ]

pub le_lt_trans : (x y z : Float) → le x y ≡ true → lt y z ≡ true → lt x z ≡ true
unfolding le lt eq
le_lt_trans nan y z h k = absurd (false≢true h)
le_lt_trans (inf s) nan z h k = absurd (false≢true h)
le_lt_trans (fin s m e) nan z h k = absurd (false≢true h)
le_lt_trans (inf true) (inf true) z h k = k
le_lt_trans (inf false) (inf true) z h k = absurd (false≢true h)
le_lt_trans (fin s m e) (inf true) z h k = absurd (false≢true h)
le_lt_trans (inf s) (inf false) nan h k = absurd (false≢true k)
le_lt_trans (fin s m e) (inf false) nan h k = absurd (false≢true k)
le_lt_trans (inf s) (inf false) (inf u) h k = absurd (false≢true k)
le_lt_trans (fin s m e) (inf false) (inf u) h k = absurd (false≢true k)
le_lt_trans (inf s) (inf false) (fin u o g) h k = absurd (false≢true k)
le_lt_trans (fin s m e) (inf false) (fin u o g) h k = absurd (false≢true k)
le_lt_trans (inf s) (fin t n d) nan h k = absurd (false≢true k)
le_lt_trans (fin s m e) (fin t n d) nan h k = absurd (false≢true k)
le_lt_trans (inf true) (fin t n d) (inf u) h k = k
le_lt_trans (inf false) (fin t n d) (inf u) h k = absurd (false≢true h)
le_lt_trans (fin s m e) (fin t n d) (inf u) h k = k
le_lt_trans (inf true) (fin t n d) (fin u o g) h k = refl
le_lt_trans (inf false) (fin t n d) (fin u o g) h k = absurd (false≢true h)
le_lt_trans (fin s m e) (fin t n d) (fin u o g) h k =
    lt_below s (m * up e * down g) u (o * up g * down e)
    (finite s t u (m * up e) (n * up d) (o * up g) (down e) (down d) (down g) (down_pos e)
    (below_or_level s (m * up e * down d) t (n * up d * down e) h)
    (below_lt t (n * up d * down g) u (o * up g * down d) k))

pub lt_le : (x y : Float) → lt x y ≡ true → le x y ≡ true
unfolding le
lt_le x y h = rw h

pub lt_trans : (x y z : Float) → lt x y ≡ true → lt y z ≡ true → lt x z ≡ true
lt_trans x y z p q = le_lt_trans x y z (lt_le x y p) q

pub not_true_false : (b : Bool) → (b ≡ true → ⊥) → b ≡ false
not_true_false true h = absurd (h refl)
not_true_false false h = refl

pub lt_irrefl : (x : Float) → lt x x ≡ false
lt_irrefl x = not_true_false (lt x x) (λ h. false≢true (sym (lt_asym x x h) ∙ h))

-- ---- the order is total but for a NaN

-- ±a and ±b, by their signs
like_sign : (a b : ℕ) → a ≤ b → ((ltb a b || (eqb a b && true)) ≡ true) × ((ltb a b || (eqb b a && true)) ≡ true)
like_sign a b h = go (ltb a b) refl
  where
    go : (t : Bool) → ltb a b ≡ t → ((ltb a b || (eqb a b && true)) ≡ true) × ((ltb a b || (eqb b a && true)) ≡ true)
    go true e = rw e (refl, refl)
    go false e =
        let s : a ≡ b = omega (arith, ltb-false a b e) in
        rw (e, eq-eqb a b s, eq-eqb b a (sym s)) (refl, refl)

either_sign : (a b : ℕ) → (ltb 0 (a + b) || (eqb a b && (false || eqb a 0))) ≡ true
either_sign a b = go (ltb 0 (a + b)) refl
  where
    go : (t : Bool) → ltb 0 (a + b) ≡ t → (ltb 0 (a + b) || (eqb a b && (false || eqb a 0))) ≡ true
    go true e = rw e
    go false e =
        let h = ltb-false 0 (a + b) e in
        let p : a ≡ b = omega (arith, h) in
        let q : a ≡ 0 = omega (arith, h) in
        rw (e, eq-eqb a b p, eq-eqb a 0 q)

zeros_level : (a b : ℕ) → ltb 0 (a + b) ≡ false → (false || (eqb b a && (false || eqb b 0))) ≡ true
zeros_level a b e =
    let h = ltb-false 0 (a + b) e in
    let p : b ≡ a = omega (arith, h) in
    let q : b ≡ 0 = omega (arith, h) in
    rw (eq-eqb b a p, eq-eqb b 0 q)

signed : (s : Bool) (a : ℕ) (t : Bool) (b : ℕ) → below t b s a ≡ false → (below s a t b || level s a t b) ≡ true
signed false a false b e = (like_sign a b (ltb-false b a e)).0
signed false a true b e = zeros_level b a e
signed true a false b e = either_sign a b
signed true a true b e = (like_sign b a (ltb-false a b e)).1

pub le_total : (x y : Float) → is_nan x ≡ false → is_nan y ≡ false → lt y x ≡ false → le x y ≡ true
unfolding is_nan lt le eq
le_total nan y p q e = absurd (false≢true (sym p))
le_total (inf s) nan p q e = absurd (false≢true (sym q))
le_total (fin s m d) nan p q e = absurd (false≢true (sym q))
le_total (inf true) (inf true) p q e = refl
le_total (inf true) (inf false) p q e = refl
le_total (inf false) (inf true) p q e = absurd (false≢true (sym e))
le_total (inf false) (inf false) p q e = refl
le_total (inf true) (fin t n g) p q e = refl
le_total (inf false) (fin t n g) p q e = absurd (false≢true (sym e))
le_total (fin s m d) (inf true) p q e = absurd (false≢true (sym e))
le_total (fin s m d) (inf false) p q e = refl
le_total (fin s m d) (fin t n g) p q e = signed s (m * up d * down g) t (n * up g * down d) e

pub le_known : (x y : Float) → le x y ≡ true → (is_nan x ≡ false) × (is_nan y ≡ false)
unfolding is_nan lt le eq
le_known nan y h = absurd (false≢true h)
le_known (inf s) nan h = absurd (false≢true h)
le_known (fin s m d) nan h = absurd (false≢true h)
le_known (inf s) (inf t) h = (refl, refl)
le_known (inf s) (fin t n g) h = (refl, refl)
le_known (fin s m d) (inf t) h = (refl, refl)
le_known (fin s m d) (fin t n g) h = (refl, refl)

pub le_not_lt : (x y : Float) → le x y ≡ true → lt y x ≡ false
le_not_lt x y h = not_true_false (lt y x) (λ k. false≢true (sym (lt_irrefl x) ∙ le_lt_trans x y x h k))

pub le_trans : (x y z : Float) → le x y ≡ true → le y z ≡ true → le x z ≡ true
le_trans x y z h k =
    le_total x z (le_known x y h).0 (le_known y z k).1
    (not_true_false (lt z x) (λ p. false≢true (sym (le_not_lt x y h) ∙ le_lt_trans y z x k p)))

pub eq_le : (x y : Float) → eq x y ≡ true → le x y ≡ true
unfolding le
eq_le x y h = rw h (or-true (lt x y))

-- who compares equal is not below
pub eq_not_lt : (x y : Float) → eq x y ≡ true → lt y x ≡ false
eq_not_lt x y e = not_true_false (lt y x) (λ h. false≢true (sym (lt_irrefl x) ∙ le_lt_trans x y x (eq_le x y e) h))

-- who is below something is no NaN
pub lt_known : (x y : Float) → lt x y ≡ true → is_nan x ≡ false
unfolding lt is_nan
lt_known nan y e = absurd (false≢true e)
lt_known (inf s) y e = refl
lt_known (fin s m k) y e = refl
