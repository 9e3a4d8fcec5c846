-- How often a number stands in a list, under orders and moves. Assumes nothing.
use Rattle.std.proofs.Common.{◌≡◌, ℕ, zero, suc, ◌+◌, ◌-◌, ◌<◌, ◌≤◌, Bool, true, false, cond, eqb, List, [], ◌∷◌, map, take, refl, arith, eq-eqb, ne_eqb, eqb-true}
use native.Mathlib.Decide.{dec_le}
use borrow.Author.Tests.{eqb-false}
use Rattle.sums.specs.Cells.{Below}
use Rattle.sums.specs.Ordering.{place, order_from}
use Rattle.sums.specs.Tables.{up_to}
use Rattle.sums.proofs.Belows.{below_head, below_tail}
use Rattle.sums.proofs.Picks.{below_up}
use Rattle.sums.proofs.Weighs.{weigh, one, count_of, weigh_append}

pub weigh_take : (f : ℕ → ℕ) (n : ℕ) (l : List ℕ) → weigh f (take n l) ≤ weigh f l
weigh_take f zero l = omega arith
weigh_take f (suc n) [] = omega arith
weigh_take f (suc n) (x ∷ l) = omega (arith, weigh_take f n l)

module _ (before : ℕ → ℕ → Bool) (f : ℕ → ℕ) where
  weigh_place : (x : ℕ) (l : List ℕ) → weigh f (place before x l) ≡ f x + weigh f l
  unfolding place
  weigh_place x [] = refl
  weigh_place x (y ∷ l) = go (before x y) (weigh_place x l)
    where
      go : (t : Bool) → weigh f (place before x l) ≡ f x + weigh f l → weigh f (cond t (x ∷ y ∷ l) (y ∷ place before x l)) ≡ f x + (f y + weigh f l)
      go true e = refl
      go false e = omega (arith, e)

  -- to put in order loses nobody and adds nobody
  pub weigh_order : (held l : List ℕ) → weigh f (order_from before held l) ≡ weigh f held + weigh f l
  unfolding order_from
  weigh_order held [] = omega arith
  weigh_order held (x ∷ l) = omega (arith, weigh_order (place before x held) l, weigh_place x held)

-- a number that all are below stands nowhere
pub count_below : (m x : ℕ) (l : List ℕ) → Below m l → m ≤ x → count_of x l ≡ 0
count_below m x [] b h = refl
count_below m x (y ∷ l) b h =
    let e : eqb y x ≡ false = ne_eqb y x (λ f. omega (arith, f, below_head m y l b)) in
    rw (e, count_below m x l (below_tail m y l b) h)

pub count_up_lem : (x n : ℕ) → count_of x (up_to n) ≤ 1
count_up_lem x zero = omega arith
count_up_lem x (suc n) = go (eqb n x) refl (count_up_lem x n)
  where
    both : count_of x (up_to (suc n)) ≡ count_of x (up_to n) + count_of x (n ∷ [])
    both = weigh_append (λ y. one (eqb y x)) (up_to n) (n ∷ [])

    go : (t : Bool) → eqb n x ≡ t → count_of x (up_to n) ≤ 1 → count_of x (up_to (suc n)) ≤ 1
    go true e h = let z : count_of x (up_to n) ≡ 0 = count_below n x (up_to n) (below_up n) (omega (arith, eqb-true n x e)) in rw (both, z, e) (omega arith)
    go false e h = rw (both, e) (omega (arith, h))

-- each number moved up by `start`: none is below it, and the others stand as often as they did
pub count_under : (start x : ℕ) (l : List ℕ) → x < start → count_of x (map (λ p. start + p) l) ≡ 0
count_under start x [] h = refl
count_under start x (y ∷ l) h =
    let e : eqb (start + y) x ≡ false = ne_eqb (start + y) x (λ f. omega (arith, f)) in
    rw (e, count_under start x l h)

pub count_moved : (start x : ℕ) (l : List ℕ) → count_of (start + x) (map (λ p. start + p) l) ≡ count_of x l
count_moved start x [] = refl
count_moved start x (y ∷ l) = go (eqb y x) refl (count_moved start x l)
  where
    go : (t : Bool) → eqb y x ≡ t → count_of (start + x) (map (λ p. start + p) l) ≡ count_of x l → one (eqb (start + y) (start + x)) + count_of (start + x) (map (λ p. start + p) l) ≡ one (eqb y x) + count_of x l
    go true e h = let f : eqb (start + y) (start + x) ≡ true = eq-eqb (start + y) (start + x) (omega (arith, eqb-true y x e)) in rw (e, f, h)
    go false e h = let f : eqb (start + y) (start + x) ≡ false = ne_eqb (start + y) (start + x) (λ g. eqb-false y x e (omega (arith, g))) in rw (e, f, h)

-- no number stands twice
abbrev pub Distinct : List ℕ → Type 0
Distinct l = (x : ℕ) → count_of x l ≤ 1

pub moved_distinct : (start : ℕ) (l : List ℕ) → Distinct l → Distinct (map (λ p. start + p) l)
moved_distinct start l d x = elim (dec_le start x) [
  | yes q ↦ let e : x ≡ start + (x - start) = omega arith in rw e (rw (count_moved start (x - start) l) (d (x - start)))
  | no q ↦ omega (arith, count_under start x l (omega arith))
]
