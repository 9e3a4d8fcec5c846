-- General laws on lists of lists laid one after the other, and on padded cells; and the ends of groups. Assumes nothing.
use mathlib.Core.Path.{◌≡◌, refl, sym, ap, ◌∙◌}
use mathlib.Core.List.{List, [], ◌∷◌, ◌++◌, flatten, flat_map, append-nil, append_assoc}
use Prim.Native.Nat.{ℕ, zero, suc, ◌+◌, ◌-◌, ◌*◌, ◌≤◌, ◌<◌}
use native.Mathlib.Nat.{not-suc-le-zero, le_of_suc-le-suc, zero-mul, suc-mul}
use native.Mathlib.Omega.{arith}
use borrow.Rule.Slice.PartMut.{put_mid}
use lib.ListN.{length, get_or, take, drop, replicate, length-append, length-replicate, replicate-append-replicate}
use lib.Seq.{take_at, drop-append-add}
use Rattle.sums.specs.Refusals.{padded}
use Rattle.sums.proofs.Fronts.{put_at}
use Rattle.sums.proofs.Refusing.{padded_is}
use Rattle.grouping.specs.Groups.{ends_from}

-- ---- general
module _ {A : Type 0} where
  pub flatten_append : (a b : List (List A)) → flatten (a ++ b) ≡ flatten a ++ flatten b
  unfolding flatten
  flatten_append [] b = refl
  flatten_append (g ∷ gs) b = ap (λ (z : List A). g ++ z) (flatten_append gs b) ∙ sym (append_assoc g (flatten gs) (flatten b))

  pub flatten_snoc : (l : List (List A)) (g : List A) → flatten (l ++ (g ∷ [])) ≡ flatten l ++ g
  unfolding flatten
  flatten_snoc l g = flatten_append l (g ∷ []) ∙ ap (λ (z : List A). flatten l ++ z) (append-nil g)

  -- list i is what stands from the end of those before it on
  pub flatten_part : (gs : List (List A)) (i : ℕ) → i < length gs → take (length (get_or gs i [])) (drop (length (flatten (take i gs))) (flatten gs)) ≡ get_or gs i []
  unfolding flatten
  flatten_part [] i h = absurd (not-suc-le-zero h)
  flatten_part (g ∷ gs) zero h = take_at g (flatten gs) (length g) refl
  flatten_part (g ∷ gs) (suc i) h =
      rw (length-append g (flatten (take i gs)), drop-append-add g (flatten gs) (length (flatten (take i gs)))) (flatten_part gs i (le_of_suc-le-suc h))

  -- a part put where the blanks begin
  pub padded_part : (blank : A) (n : ℕ) (xs row : List A) → length xs + length row ≤ n
      → put_mid (length xs) (length row) (padded blank n xs) row ≡ padded blank n (xs ++ row)
  padded_part blank n xs row h =
      let m = n - (length xs + length row) in
      let e : padded blank n xs ≡ xs ++ (replicate (length row) blank ++ replicate m blank)
      = padded_is blank n (length row + m) xs (omega arith) ∙ rw (replicate-append-replicate (length row) m blank) in
      put_at (padded blank n xs) xs (replicate (length row) blank) (replicate m blank) (length xs) (length row) e refl (length-replicate (length row) blank) row
      ∙ sym (padded_is blank n m (xs ++ row) (rw length-append (omega arith)) ∙ append_assoc xs row (replicate m blank))

module _ {A B : Type 0} (f : A → List B) where
  pub flat_map_snoc : (l : List A) (x : A) → flat_map f (l ++ (x ∷ [])) ≡ flat_map f l ++ f x
  unfolding flat_map
  flat_map_snoc [] x = append-nil (f x)
  flat_map_snoc (y ∷ l) x = ap (λ (r : List B). f y ++ r) (flat_map_snoc l x) ∙ sym (append_assoc (f y) (flat_map f l) (f x))

  -- what f gives of element i is part i of all that it gives, each dim long
  pub flat_map_part : (dim : ℕ) → ((x : A) → length (f x) ≡ dim) → (l : List A) (rest : List B) (i : ℕ) (d : A) → i < length l
      → take dim (drop (i * dim) (flat_map f l ++ rest)) ≡ f (get_or l i d)
  unfolding flat_map
  flat_map_part dim h [] rest i d k = absurd (not-suc-le-zero k)
  flat_map_part dim h (x ∷ l) rest zero d k = rw (append_assoc (f x) (flat_map f l) rest, zero-mul dim) (take_at (f x) (flat_map f l ++ rest) dim (h x))
  flat_map_part dim h (x ∷ l) rest (suc i) d k =
      let e : suc i * dim ≡ length (f x) + i * dim = suc-mul i dim ∙ omega (arith, h x) in
      rw (append_assoc (f x) (flat_map f l) rest, e, drop-append-add (f x) (flat_map f l ++ rest) (i * dim)) (flat_map_part dim h l rest i d (le_of_suc-le-suc k))

-- ---- the ends of groups that follow one another from s on
pub ends_length : (s : ℕ) (gs : List (List ℕ)) → length (ends_from s gs) ≡ length gs
unfolding ends_from
ends_length s [] = refl
ends_length s (g ∷ gs) = ap suc (ends_length (s + length g) gs)

pub ends_snoc : (s : ℕ) (l : List (List ℕ)) (g : List ℕ) → ends_from s (l ++ (g ∷ [])) ≡ ends_from s l ++ ((s + length (flatten l) + length g) ∷ [])
unfolding ends_from flatten
ends_snoc s [] g = let e : s + 0 + length g ≡ s + length g = omega arith in rw e
ends_snoc s (h ∷ hs) g =
    let e : s + length h + length (flatten hs) + length g ≡ s + length (h ++ flatten hs) + length g = omega (arith, length-append h (flatten hs)) in
    ap (λ (z : List ℕ). (s + length h) ∷ z) (ends_snoc (s + length h) hs g ∙ rw e)

-- where group i starts, and where it ends
pub start_is : (s : ℕ) (gs : List (List ℕ)) (i : ℕ) → i ≤ length gs → get_or (s ∷ ends_from s gs) i 0 ≡ s + length (flatten (take i gs))
unfolding ends_from flatten
start_is s gs zero h = omega arith
start_is s [] (suc i) h = absurd (not-suc-le-zero h)
start_is s (g ∷ gs) (suc i) h = start_is (s + length g) gs i (le_of_suc-le-suc h) ∙ omega (arith, length-append g (flatten (take i gs)))

pub end_is : (s : ℕ) (gs : List (List ℕ)) (i : ℕ) → i < length gs → get_or (ends_from s gs) i 0 ≡ s + length (flatten (take i gs)) + length (get_or gs i [])
unfolding ends_from flatten
end_is s [] i h = absurd (not-suc-le-zero h)
end_is s (g ∷ gs) zero h = omega arith
end_is s (g ∷ gs) (suc i) h = end_is (s + length g) gs i (le_of_suc-le-suc h) ∙ omega (arith, length-append g (flatten (take i gs)))

pub part_within : (gs : List (List ℕ)) (i : ℕ) → i < length gs → length (flatten (take i gs)) + length (get_or gs i []) ≤ length (flatten gs)
unfolding flatten
part_within [] i h = absurd (omega arith)
part_within (g ∷ gs) zero h = omega (arith, length-append g (flatten gs))
part_within (g ∷ gs) (suc i) h = omega (arith, length-append g (flatten (take i gs)), length-append g (flatten gs), part_within gs i (omega arith))
