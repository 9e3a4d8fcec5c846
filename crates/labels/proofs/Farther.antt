-- The pool's order: one way only, and with no NaN among the distances whoever does not come before the last comes before nobody. Assumes nothing.
use Prim.Native.Nat.{ℕ, ◌≤◌, ◌<◌}
use mathlib.Core.Path.{◌≡◌, refl, sym, ap, ◌∙◌}
use mathlib.Core.Bool.{Bool, true, false, ◌&&◌, ◌||◌, not, false≢true}
use mathlib.Core.List.{List, [], ◌∷◌, ◌++◌}
use native.Mathlib.Omega.{arith}
use lib.Dec.{ltb}
use lib.Ieee.{Float, nan, lt, le, is_nan}
use lib.ListN.{length, get_or}
use borrow.Author.Tests.{ltb-false, le-ltb}
use Rattle.sums.specs.Ordering.{place}
use Rattle.sums.specs.Cells.{Below}
use Rattle.sums.proofs.Orders.{InOrder}
use Rattle.sums.proofs.Floats.{lt_asym, le_lt_trans, ltb_asym, not_true_false, le_total}
use Rattle.labels.specs.Pool.{farther}
use Rattle.sums.proofs.Belows.{below_head, below_tail}

-- no distance is a NaN
abbrev pub Known : List Float → Type 0
Known ds = (i : ℕ) → i < length ds → is_nan (get_or ds i nan) ≡ false

module _ (ds : List Float) where
  pub farther_asym : (a b : ℕ) → farther ds a b ≡ true → farther ds b a ≡ false
  unfolding farther
  farther_asym a b e = go (lt (get_or ds b nan) (get_or ds a nan)) refl (lt (get_or ds a nan) (get_or ds b nan)) refl (ltb a b) refl e
    where
      go : (x : Bool) → lt (get_or ds b nan) (get_or ds a nan) ≡ x → (y : Bool) → lt (get_or ds a nan) (get_or ds b nan) ≡ y → (z : Bool) → ltb a b ≡ z
          → x || (not y && z) ≡ true → y || (not x && ltb b a) ≡ false
      go true p true q z r h = absurd (false≢true (sym (lt_asym (get_or ds b nan) (get_or ds a nan) p) ∙ q))
      go true p false q z r h = refl
      go false p true q z r h = absurd (false≢true h)
      go false p false q true r h = ltb_asym a b r
      go false p false q false r h = absurd (false≢true h)

  -- not before: not farther, and where not nearer either, not the earlier
  not_before : (a b : ℕ) → farther ds a b ≡ false → (lt (get_or ds b nan) (get_or ds a nan) ≡ false) × (lt (get_or ds a nan) (get_or ds b nan) ≡ false → b ≤ a)
  unfolding farther
  not_before a b e = go (lt (get_or ds b nan) (get_or ds a nan)) (lt (get_or ds a nan) (get_or ds b nan)) (ltb a b) refl e
    where
      go : (x y z : Bool) → ltb a b ≡ z → x || (not y && z) ≡ false → (x ≡ false) × (y ≡ false → b ≤ a)
      go true y z r h = absurd (false≢true (sym h))
      go false true z r h = (refl, λ f. absurd (false≢true (sym f)))
      go false false true r h = absurd (false≢true (sym h))
      go false false false r h = (refl, λ f. ltb-false a b r)

  pub before_not : (a b : ℕ) → lt (get_or ds b nan) (get_or ds a nan) ≡ false → (lt (get_or ds a nan) (get_or ds b nan) ≡ false → b ≤ a) → farther ds a b ≡ false
  unfolding farther
  before_not a b e h = go (lt (get_or ds a nan) (get_or ds b nan)) refl
    where
      go : (y : Bool) → lt (get_or ds a nan) (get_or ds b nan) ≡ y → farther ds a b ≡ false
      go true f = rw (e, f)
      go false f = rw (e, f, le-ltb a b (h f))

  module _ (known : Known ds) where
    -- what is at most the other, by the test that fails
    at_most : (a b : ℕ) → a < length ds → b < length ds → lt (get_or ds a nan) (get_or ds b nan) ≡ false → le (get_or ds b nan) (get_or ds a nan) ≡ true
    at_most a b i j e = le_total (get_or ds b nan) (get_or ds a nan) (known b j) (known a i) e

    -- a, b, c in this order: if neither neighbour is out of place, c is not before a
    pub behind_both : (a b c : ℕ) → a < length ds → b < length ds → c < length ds → farther ds b a ≡ false → farther ds c b ≡ false → farther ds c a ≡ false
    behind_both a b c i j k e f =
        let A = get_or ds a nan in
        let B = get_or ds b nan in
        let C = get_or ds c nan in
        let p = not_before b a e in
        let q = not_before c b f in
        before_not c a
        (not_true_false (lt A C) (λ h. false≢true (sym q.0 ∙ le_lt_trans B A C (at_most a b i j p.0) h)))
        (λ g.
        let u : lt B A ≡ false = not_true_false (lt B A) (λ h. false≢true (sym g ∙ le_lt_trans C B A (at_most b c j k q.0) h)) in
        let v : lt C B ≡ false = not_true_false (lt C B) (λ h. false≢true (sym p.0 ∙ le_lt_trans A C B (at_most c a k i g) h)) in
        omega (arith, p.1 u, q.1 v))

    module _ (p q : ℕ) (i : p < length ds) (e : farther ds p q ≡ false) where
      -- p is not before the first, as it is not before the last
      behind_first : (y : ℕ) (front : List ℕ) → Below (length ds) (y ∷ front ++ (q ∷ [])) → InOrder (farther ds) (y ∷ front ++ (q ∷ [])) → farther ds p y ≡ false
      behind_first y [] b h = behind_both y q p (below_head (length ds) y (q ∷ []) b) (below_head (length ds) q [] (below_tail (length ds) y (q ∷ []) b)) i h.0 e
      behind_first y (z ∷ front) b h =
          let t = below_tail (length ds) y (z ∷ front ++ (q ∷ [])) b in
          behind_both y z p (below_head (length ds) y (z ∷ front ++ (q ∷ [])) b) (below_head (length ds) z (front ++ (q ∷ [])) t) i h.0 (behind_first z front t h.1)

      pub behind_all : (front : List ℕ) → Below (length ds) (front ++ (q ∷ [])) → InOrder (farther ds) (front ++ (q ∷ [])) → place (farther ds) p (front ++ (q ∷ [])) ≡ (front ++ (q ∷ [])) ++ (p ∷ [])
      unfolding place
      behind_all [] b h = rw e
      behind_all (y ∷ []) b h = rw (behind_first y [] b h, e)
      behind_all (y ∷ z ∷ front) b h = rw (behind_first y (z ∷ front) b h) (ap (λ (l : List ℕ). y ∷ l) (behind_all (z ∷ front) (below_tail (length ds) y (z ∷ front ++ (q ∷ [])) b) h.1))
