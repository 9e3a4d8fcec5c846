-- How many row numbers changed parts, told by the old and the new parts alone: as many as the parts came nearer to the share. Assumes nothing.
use mathlib.Core.Path.{◌≡◌, refl, sym, ap, ◌∙◌}
use mathlib.Core.List.{List, [], ◌∷◌}
use mathlib.Core.Bool.{Bool, true, false}
use Prim.Native.Nat.{ℕ, zero, suc, ◌+◌, ◌-◌, ◌≤◌, ◌<◌}
use native.Mathlib.Nat.{not-suc-le-zero, le_of_suc-le-suc, suc_inj, suc-ne-zero}
use native.Mathlib.Omega.{arith}
use borrow.Author.Tests.{ltb-true, ltb-false, eq-eqb, ne_eqb, eqb-true, eqb-false}
use lib.Dec.{ltb, eqb}
use lib.ListN.{length, get_or}
use Rattle.sums.proofs.Weighs.{weigh, one, count_of, weigh_append, weigh_length}
use Rattle.grouping.specs.Parts.{sizes_of, flat}
use Rattle.grouping.proofs.Fair.{Fair, short_by}

-- how many of q's rows do not stand in p
abbrev pub new_in : List ℕ → List ℕ → ℕ
new_in p q = weigh (λ x. one (eqb (count_of x p) 0)) q

-- how many row numbers stand in another part than before
abbrev pub changed : List (List ℕ) → List (List ℕ) → ℕ
changed [] new = 0
changed (p ∷ old) [] = 0
changed (p ∷ old) (q ∷ new) = new_in p q + changed old new

-- ---- weighing
weigh_same : (f g : ℕ → ℕ) (l : List ℕ) → ((i : ℕ) → i < length l → f (get_or l i 0) ≡ g (get_or l i 0)) → weigh f l ≡ weigh g l
weigh_same f g [] h = refl
weigh_same f g (y ∷ l) h =
    let head : f y ≡ g y = h 0 (omega arith) in
    let rest = weigh_same f g l (λ i k. h (suc i) (omega arith)) in
    omega (arith, head, rest)

weigh_none : (l : List ℕ) → weigh (λ _. 0) l ≡ 0
weigh_none [] = refl
weigh_none (y ∷ l) = omega (arith, weigh_none l)

weigh_both : (f g : ℕ → ℕ) (l : List ℕ) → weigh (λ x. f x + g x) l ≡ weigh f l + weigh g l
weigh_both f g [] = refl
weigh_both f g (y ∷ l) = omega (arith, weigh_both f g l)

turned : (a b : ℕ) → eqb a b ≡ eqb b a
turned a b = go (eqb a b) (eqb b a) refl refl
  where
    go : (s t : Bool) → eqb a b ≡ s → eqb b a ≡ t → s ≡ t
    go true true e d = refl
    go false false e d = refl
    go true false e d = absurd (eqb-false b a d (sym (eqb-true a b e)))
    go false true e d = absurd (eqb-false a b e (sym (eqb-true b a d)))

-- each row of q counted in p, or each row of p counted in q
counted_both : (p q : List ℕ) → weigh (λ x. count_of x p) q ≡ weigh (λ y. count_of y q) p
counted_both [] q = weigh_none q
counted_both (y ∷ p) q =
    let head : weigh (λ x. one (eqb y x)) q ≡ count_of y q = weigh_same (λ x. one (eqb y x)) (λ z. one (eqb z y)) q (λ i k. ap one (turned y (get_or q i 0))) in
    omega (arith, weigh_both (λ x. one (eqb y x)) (λ x. count_of x p) q, head, counted_both p q)

-- a row that stands in l is counted there
stands : (i : ℕ) (l : List ℕ) → i < length l → 0 < count_of (get_or l i 0) l
stands i [] h = absurd (not-suc-le-zero h)
stands zero (y ∷ l) h = rw (eq-eqb y y refl) (omega arith)
stands (suc i) (y ∷ l) h = omega (arith, stands i l (le_of_suc-le-suc h))

-- ---- one part
flipped : (n : ℕ) → n ≤ 1 → one (eqb n 0) + n ≡ 1
flipped zero h = refl
flipped (suc zero) h = refl
flipped (suc (suc n)) h = absurd (omega arith)

known : (n : ℕ) → 0 < n → one (eqb n 0) ≡ 0
known zero h = absurd (omega arith)
known (suc n) h = rw (ne_eqb (suc n) 0 (suc-ne-zero n))

-- a part that lost nothing has as many new rows as it grew
grown : (p q : List ℕ) → ((f : ℕ → ℕ) → weigh f p ≤ weigh f q) → ((x : ℕ) → count_of x q ≤ 1) → new_in p q + length p ≡ length q
grown p q more once =
    let few : (x : ℕ) → count_of x p ≤ 1 = λ x. omega (arith, more (λ y. one (eqb y x)), once x) in
    let all : weigh (λ x. one (eqb (count_of x p) 0) + count_of x p) q ≡ length q = weigh_same _ (λ _. 1) q (λ i k. flipped (count_of (get_or q i 0) p) (few (get_or q i 0))) ∙ weigh_length q in
    let old : weigh (λ y. count_of y q) p ≡ length p = weigh_same _ (λ _. 1) p (λ i k. omega (arith, stands i p k, more (λ y. one (eqb y (get_or p i 0))), once (get_or p i 0))) ∙ weigh_length p in
    omega (arith, weigh_both (λ x. one (eqb (count_of x p) 0)) (λ x. count_of x p) q, all, counted_both p q, old)

-- a part that gained nothing has no new row
none_new : (p q : List ℕ) → ((f : ℕ → ℕ) → weigh f q ≤ weigh f p) → new_in p q ≡ 0
none_new p q less =
    let f : ℕ → ℕ = λ x. one (eqb (count_of x p) 0) in
    let z : weigh f p ≡ 0 = weigh_same f (λ _. 0) p (λ i k. known (count_of (get_or p i 0) p) (stands i p k)) ∙ weigh_none p in
    omega (arith, less f, z)

module _ (sh al : ℕ) (sa : sh ≤ al) where
  part_changed : (p q : List ℕ) → Fair sh al p q → ((x : ℕ) → count_of x q ≤ 1) → sh - length p ≡ (sh - length q) + new_in p q
  part_changed p q fair once = go (ltb (length p) sh) (ltb al (length p)) refl refl
    where
      go : (a b : Bool) → ltb (length p) sh ≡ a → ltb al (length p) ≡ b → sh - length p ≡ (sh - length q) + new_in p q
      go true b e d =
          let f = fair.low (omega (arith, ltb-true (length p) sh e)) in
          omega (arith, f.0, f.1, grown p q f.2 once)
      go false true e d =
          let f = fair.high (omega (arith, ltb-true al (length p) d)) in
          omega (arith, ltb-false (length p) sh e, f.0, none_new p q f.2)
      go false false e d =
          let same : q ≡ p = fair.rest (ltb-false (length p) sh e) (ltb-false al (length p) d) in
          rw same (omega (arith, ltb-false (length p) sh e, none_new p p (λ f. omega arith)))

  -- what the parts are short of the share goes down by as many as changed parts
  pub parts_changed : (old new : List (List ℕ)) → length new ≡ length old → ((i : ℕ) → Fair sh al (get_or old i []) (get_or new i [])) → ((i x : ℕ) → count_of x (get_or new i []) ≤ 1)
      → short_by sh (sizes_of old) ≡ short_by sh (sizes_of new) + changed old new
  parts_changed [] [] e fair once = refl
  parts_changed [] (q ∷ new) e fair once = absurd (suc-ne-zero (length new) e)
  parts_changed (p ∷ old) [] e fair once = absurd (suc-ne-zero (length old) (sym e))
  parts_changed (p ∷ old) (q ∷ new) e fair once =
      omega (arith, part_changed p q (fair 0) (once 0), parts_changed old new (suc_inj e) (λ i. fair (suc i)) (λ i x. once (suc i) x))

-- a part holds no row more often than all parts together
pub count_part : (x i : ℕ) (parts : List (List ℕ)) → count_of x (get_or parts i []) ≤ count_of x (flat parts)
unfolding flat
count_part x i [] = omega arith
count_part x zero (p ∷ parts) = omega (arith, weigh_append (λ y. one (eqb y x)) (flat parts) p)
count_part x (suc i) (p ∷ parts) = omega (arith, weigh_append (λ y. one (eqb y x)) (flat parts) p, count_part x i parts)
