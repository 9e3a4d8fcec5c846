-- Values compared with stored words, from the front: v stands at i of the list and counts as x, w is word i. Assumes nothing.
use Prim.Native.Nat.{ℕ, ◌+◌, ◌*◌, ◌≤◌, ◌<◌}
use mathlib.Core.Path.{◌≡◌, sym, refl, ap, ◌∙◌}
use mathlib.Core.Bool.{Bool, true, false, ◌&&◌}
use mathlib.Core.List.{List, [], ◌∷◌, map}
use native.Mathlib.Omega.{arith}
use lib.Dec.{eqb}
use lib.ListN.{length, get_or, drop, length-map}
use Rattle.std.specs.Cmp.Lexicographic.{pointwise}
use Rattle.sums.specs.Refusals.{same_all}
use Rattle.sums.proofs.Sames.{same_on, same_not, same_end}
use Rattle.sums.proofs.Tables.{map_at}
use Rattle.words.specs.Bytes.{u32_at, words_from}
use Rattle.words.proofs.ByteLaws.{words_length, word_at}

module _ {A : Type 0} (f : A → ℕ) (vs : List A) (bytes : List ℕ) (i : ℕ) (r : Bool) (s : same_all (drop i (map f vs)) (drop i (words_from (length vs) bytes)) ≡ r) where
  abbrev long : length (map f vs) ≡ length (words_from (length vs) bytes)
  long = length-map vs f ∙ sym (words_length (length vs) bytes)

  -- what v counts as is what stands at i of the values counted
  stands : {v : A} {x : ℕ} → i < length vs → x ≡ f v → v ≡ get_or vs i v → x ≡ get_or (map f vs) i 0
  stands {v = v} h p e = p ∙ (ap f e ∙ sym (map_at f vs i v 0 h))

  pub words_on : {v : A} {x w : ℕ} → i < length vs → x ≡ f v → v ≡ get_or vs i v → w ≡ u32_at bytes (i * 4) → x ≡ w
      → same_all (drop (i + 1) (map f vs)) (drop (i + 1) (words_from (length vs) bytes)) ≡ r
  words_on h p v q e = same_on (map f vs) (words_from (length vs) bytes) i r (omega (arith, h, length-map vs f)) long (sym (stands h p v) ∙ (e ∙ (q ∙ sym (word_at (length vs) bytes i h)))) s

  pub words_not : {v : A} {x w : ℕ} → i < length vs → x ≡ f v → v ≡ get_or vs i v → w ≡ u32_at bytes (i * 4) → (x ≡ w → ⊥) → false ≡ r
  words_not h p v q e = same_not (map f vs) (words_from (length vs) bytes) i r (omega (arith, h, length-map vs f)) long (λ z. e (stands h p v ∙ (z ∙ (word_at (length vs) bytes i h ∙ sym q)))) s

  pub words_end : length vs ≤ i → true ≡ r
  words_end h = same_end (map f vs) (words_from (length vs) bytes) i r (omega (arith, h, length-map vs f)) long s

-- `==` on slices
pub same_slices : (xs ys : List ℕ) → pointwise eqb xs ys ≡ same_all xs ys
unfolding same_all
same_slices [] [] = refl
same_slices [] (y ∷ ys) = refl
same_slices (x ∷ xs) [] = refl
same_slices (x ∷ xs) (y ∷ ys) = ap (λ (r : Bool). eqb x y && r) (same_slices xs ys)
