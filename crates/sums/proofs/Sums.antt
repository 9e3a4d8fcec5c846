-- A turn of a loop that sums: what is left from i on, with one more pair taken. Assumes nothing.
use Rattle.std.proofs.Common.{◌≡◌, ℕ, ◌+◌, ◌<◌, ◌≤◌, [], ◌∷◌, ◌++◌, length, get_or, drop, sym, refl, suc-ne-zero, add-one, drop_of_length-le, drop-cons}
use native.Mathlib.Nat.{suc_inj}
use lib.Ieee.{Float, Format, nan, binary32, add, mul}
use Rattle.sums.specs.Rows.{Row}
use Rattle.sums.specs.Sums.{sum_from, product, dot_of}

module _ (format : Format) (term : Float → Float → Float) where
  pub sum_step : (sum whole : Float) (a b : Row) (i : ℕ) → i < length a → i < length b → sum_from format term sum (drop i a) (drop i b) ≡ whole
      → sum_from format term (add format sum (term (get_or a i nan) (get_or b i nan))) (drop (i + 1) a) (drop (i + 1) b) ≡ whole
  unfolding sum_from
  sum_step sum whole a b i p q e = rw (add-one i) (rw (drop-cons a i nan p, drop-cons b i nan q) at e)

  pub sum_end : (sum whole : Float) (a b : Row) (i : ℕ) → length a ≤ i → sum_from format term sum (drop i a) b ≡ whole → sum ≡ whole
  unfolding sum_from
  sum_end sum whole a b i h e = rw (drop_of_length-le a {i = i} h) at e

  -- the same from the other side: one pair more at the end
  pub sum_snoc : (sum : Float) (a b : Row) (x y : Float) → length a ≡ length b
      → sum_from format term sum (a ++ (x ∷ [])) (b ++ (y ∷ [])) ≡ add format (sum_from format term sum a b) (term x y)
  unfolding sum_from
  sum_snoc sum [] [] x y e = refl
  sum_snoc sum [] (v ∷ b) x y e = absurd (suc-ne-zero (length b) (sym e))
  sum_snoc sum (u ∷ a) [] x y e = absurd (suc-ne-zero (length a) e)
  sum_snoc sum (u ∷ a) (v ∷ b) x y e = sum_snoc (add format sum (term u v)) a b x y (suc_inj e)

pub dot_snoc : (a b : Row) (x y : Float) → length a ≡ length b → dot_of (a ++ (x ∷ [])) (b ++ (y ∷ [])) ≡ add binary32 (dot_of a b) (mul binary32 x y)
unfolding dot_of
dot_snoc a b x y e = sum_snoc binary32 product _ a b x y e
