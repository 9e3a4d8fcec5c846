-- What a grouping promises, whatever a split makes of a group: rows, group sizes and ends, when each refusal comes, what a budget can change, and
-- the count of unplaced rows. Assumes nothing.
use mathlib.Core.Path.{◌≡◌, refl, sym, ap, ◌∙◌}
use mathlib.Core.Logic.{◌⊎◌, inl, inr}
use mathlib.Core.Bool.{Bool, true, false}
use mathlib.Core.List.{List, [], ◌∷◌, flatten, append-nil}
use Prim.Native.Nat.{ℕ, zero, suc, ◌+◌, ◌-◌, ◌*◌, ◌/◌, ◌≤◌, ◌<◌}
use native.Mathlib.Nat.{suc-mul, div-lt_iff_lt-mul}
use native.Mathlib.Omega.{arith}
use borrow.Author.Tests.{eqb-true, eqb-false}
use lib.Dec.{eqb}
use lib.ListN.{length, get_or, take, length-append}
use lib.Seq.{take-suc, take_all}
use Rattle.sums.specs.Tables.{up_to}
use Rattle.sums.specs.Refusals.{Answer, accepted, refused, on_accepted}
use Rattle.sums.proofs.Tables.{up_length}
use Rattle.sums.proofs.Weighs.{weigh, one, count_of, Same, weigh_append, same_length, same_count}
use Rattle.sums.proofs.Picks.{below_up}
use Rattle.sums.proofs.Counts.{count_below}
use Rattle.sums.proofs.Pairs.{All, all_weaken}
use Rattle.labels.specs.declared.mode.Mode.{Mode}
use Rattle.labels.specs.declared.mode.Mode.TheVariants.{Strict}
use Rattle.labels.specs.Mode.{unplaced_refusal}
use Rattle.grouping.specs.Parts.{flat}
use Rattle.grouping.specs.Groups.{Groups, waits, pushed, after, group_from, ends_from}
use Rattle.grouping.proofs.Stretches.{flatten_snoc, end_is}
use Rattle.grouping.proofs.Steps.{Full, full_pushed, full_count, flatten_pushed, group_end, group_list, group_six, group_seven, group_nine, group_split, group_all}

-- ---- what is promised

-- a group has at least one row and at most as many as the limit
abbrev pub Sized : ℕ → List ℕ → Type 0
Sized limit g = (0 < length g) × (length g ≤ limit)

-- Of the groups listed for the rows given.
pub record Families (limit : ℕ) (rows : List ℕ) (groups : List (List ℕ)) : Type 0 where
  -- they hold the same rows, none lost, doubled or made up
  pub same : Same (flatten groups) rows
  -- each has from one row to the limit
  pub sized : All (Sized limit) groups

-- Of a grouping of n rows that is accepted.
pub record Listing (limit n : ℕ) (groups : List (List ℕ)) : Type 0 where
  -- each row number stands exactly once
  pub once : (x : ℕ) → x < n → count_of x (flatten groups) ≡ 1
  -- and nothing else stands there
  pub all : length (flatten groups) ≡ n
  -- each group has from one row to the limit
  pub sized : All (Sized limit) groups
  -- group end i is how many rows the first i + 1 groups have together
  pub ends : (i : ℕ) → i < length groups → get_or (ends_from 0 groups) i 0 ≡ length (flatten (take (suc i) groups))
  -- the last group end is the number of rows
  pub last : 0 < n → get_or (ends_from 0 groups) (length groups - 1) 0 ≡ n
  -- there are at most as many groups as rows, and at least rows div limit, rounded up
  pub most : length groups ≤ n
  pub least : 0 < limit → (n + (limit - 1)) / limit ≤ length groups

-- An answer that is no refusal.
abbrev pub Passes : Answer Groups → Type 0
Passes (accepted g) = Unit {0}
Passes (refused number) = ⊥

-- What a budget can change: f gives the answer for each budget, and a is that for b. Accepted with s splits: the same from s on, and 7 below.
-- Refused by 6: 6 from b on. Refused by 7: 7 up to b. Refused by 9: 9 from b on.
abbrev pub Steady : ℕ → (ℕ → Answer Groups) → Answer Groups → Type 0
Steady b f (accepted g) = (g.splits ≤ b) × (((c : ℕ) → g.splits ≤ c → f c ≡ accepted g) × ((c : ℕ) → c < g.splits → f c ≡ refused 7))
Steady b f (refused number) =
    ((number ≡ 6) × ((c : ℕ) → b ≤ c → f c ≡ refused 6)) ⊎ (((number ≡ 7) × ((c : ℕ) → c ≤ b → f c ≡ refused 7)) ⊎ ((number ≡ 9) × ((c : ℕ) → b ≤ c → f c ≡ refused 9)))

-- ---- the rows that wait first, and the group ends
count_once : (x n : ℕ) → x < n → count_of x (up_to n) ≡ 1
count_once x zero h = absurd (omega arith)
count_once x (suc n) h = go (eqb n x) refl (count_once x n)
  where
    both : count_of x (up_to (suc n)) ≡ count_of x (up_to n) + count_of x (n ∷ [])
    both = weigh_append (λ y. one (eqb y x)) (up_to n) (n ∷ [])

    go : (t : Bool) → eqb n x ≡ t → (x < n → count_of x (up_to n) ≡ 1) → count_of x (up_to (suc n)) ≡ 1
    go true e ih = let z : count_of x (up_to n) ≡ 0 = count_below n x (up_to n) (below_up n) (omega (arith, eqb-true n x e)) in rw (both, z, e)
    go false e ih = rw (both, e) (omega (arith, ih (omega (arith, eqb-false n x e))))

one_full : (l : List ℕ) → All Full (waits l [])
unfolding waits
one_full [] = tt
one_full (x ∷ l) = (omega arith, tt)

pub one_flat : (l : List ℕ) → flatten (waits l []) ≡ l
unfolding waits flatten
one_flat [] = refl
one_flat (x ∷ l) = append-nil (x ∷ l)

pub one_long : (n : ℕ) → length (flatten (waits (up_to n) [])) ≡ n
one_long n = ap length (one_flat (up_to n)) ∙ up_length n

end_total : (gs : List (List ℕ)) (i : ℕ) → i < length gs → get_or (ends_from 0 gs) i 0 ≡ length (flatten (take (suc i) gs))
end_total gs i h =
    end_is 0 gs i h
    ∙ sym (rw (take-suc gs i [] h, flatten_snoc (take i gs) (get_or gs i [])) (length-append (flatten (take i gs)) (get_or gs i []) ∙ omega arith))

pub some_group : (gs : List (List ℕ)) → 0 < length (flatten gs) → 0 < length gs
unfolding flatten
some_group [] h = h
some_group (g ∷ gs) h = omega arith

last_total : (gs : List (List ℕ)) → 0 < length (flatten gs) → get_or (ends_from 0 gs) (length gs - 1) 0 ≡ length (flatten gs)
last_total gs h =
    let s = some_group gs h in
    end_total gs (length gs - 1) (omega arith) ∙ ap (λ (l : List (List ℕ)). length (flatten l)) (take_all (suc (length gs - 1)) gs (omega arith))

rows_most : (limit : ℕ) (gs : List (List ℕ)) → All (Sized limit) gs → length (flatten gs) ≤ length gs * limit
unfolding flatten
rows_most limit [] h = omega arith
rows_most limit (g ∷ gs) h = rw (length-append g (flatten gs), suc-mul (length gs) limit) (omega (arith, rows_most limit gs h.1, h.0.1))

groups_least : (limit : ℕ) (gs : List (List ℕ)) → 0 < limit → All (Sized limit) gs → (length (flatten gs) + (limit - 1)) / limit ≤ length gs
groups_least limit gs p h =
    let q : (length (flatten gs) + (limit - 1)) / limit < suc (length gs)
    = (div-lt_iff_lt-mul p).1 (rw (suc-mul (length gs) limit) (omega (arith, rows_most limit gs h))) in
    omega arith

-- `parts n g`, `made n g` and `lost n g` are the parts of the group g after n draws, the draws made then, and its unplaced rows.
module _ (mode : Mode) (parts : ℕ → List ℕ → List (List ℕ)) (made lost : ℕ → List ℕ → ℕ) (limit branching : ℕ) where
  -- The groups are taken one by one: from so many splits left, n draws made and these waiting, a grouping comes to others.
  pub data Comes : ℕ → ℕ → List (List ℕ) → ℕ → ℕ → List (List ℕ) → Type 0 where
    here : {left n : ℕ} {w : List (List ℕ)} → Comes left n w left n w
    listing : {left n left' n' : ℕ} {g : List ℕ} {gs w : List (List ℕ)} → length g ≤ limit → Comes left n gs left' n' w → Comes left n (g ∷ gs) left' n' w
    splitting : {left n left' n' : ℕ} {g : List ℕ} {gs w : List (List ℕ)} → limit < length g → branching ≤ length g → unplaced_refusal mode (lost n g) ≡ 0
        → Comes left (made n g) (pushed (parts n g) gs) left' n' w → Comes (suc left) n (g ∷ gs) left' n' w

  -- it comes to a group taken that is oversize and has fewer rows than branching
  pub record Small (left n : ℕ) (w : List (List ℕ)) : Type 0 where
    pub left' : ℕ
    pub n' : ℕ
    pub g : List ℕ
    pub gs : List (List ℕ)
    pub comes : Comes left n w left' n' (g ∷ gs)
    pub oversize : limit < length g
    pub few : length g < branching

  -- it comes to a group taken that is oversize and not such a one, when no split is left
  pub record Spent (left n : ℕ) (w : List (List ℕ)) : Type 0 where
    pub n' : ℕ
    pub g : List ℕ
    pub gs : List (List ℕ)
    pub comes : Comes left n w 0 n' (g ∷ gs)
    pub oversize : limit < length g
    pub enough : branching ≤ length g

  -- it comes to a group taken that is oversize and not such a one, with a split left, in the strict mode, and its split leaves a row unplaced
  pub record Barred (left n : ℕ) (w : List (List ℕ)) : Type 0 where
    pub left' : ℕ
    pub n' : ℕ
    pub g : List ℕ
    pub gs : List (List ℕ)
    pub comes : Comes left n w (suc left') n' (g ∷ gs)
    pub oversize : limit < length g
    pub enough : branching ≤ length g
    pub strict : mode ≡ Strict
    pub unplaced : 0 < lost n' g

  -- it comes to where none waits
  pub record Done (left n : ℕ) (w : List (List ℕ)) : Type 0 where
    pub left' : ℕ
    pub n' : ℕ
    pub comes : Comes left n w left' n' []

  -- it comes to where none waits, after s splits
  pub record Ends (left n : ℕ) (w : List (List ℕ)) (s : ℕ) : Type 0 where
    pub left' : ℕ
    pub n' : ℕ
    pub comes : Comes left n w left' n' []
    pub counted : s + left' ≡ left

  -- Accepted only where none waits at the end; refused only by 6, 7 or 9, and for their reasons.
  abbrev pub Ending : ℕ → ℕ → List (List ℕ) → Answer Groups → Type 0
  Ending left n w (accepted g) = Done left n w
  Ending left n w (refused number) = ((number ≡ 6) × Small left n w) ⊎ (((number ≡ 7) × Spent left n w) ⊎ ((number ≡ 9) × Barred left n w))

  abbrev by : ℕ → ℕ → List (List ℕ) → Answer Groups
  by left n w = group_from mode parts made lost limit branching left n w

  -- ---- each refusal, and the acceptance, comes exactly then
  ending_on : {left n left₁ n₁ : ℕ} {w w₁ : List (List ℕ)} (l : List (List ℕ)) (s u : ℕ) (a : Answer Groups)
      → ((left' n' : ℕ) (v : List (List ℕ)) → Comes left₁ n₁ w₁ left' n' v → Comes left n w left' n' v) → Ending left₁ n₁ w₁ a → Ending left n w (after l s u a)
  unfolding after on_accepted
  ending_on l s u (accepted r) on e = record { left' = e.left'; n' = e.n'; comes = on _ _ _ e.comes }
  ending_on l s u (refused number) on (inl e) =
      inl (e.0, record { left' = e.1.left'; n' = e.1.n'; g = e.1.g; gs = e.1.gs; comes = on _ _ _ e.1.comes; oversize = e.1.oversize; few = e.1.few })
  ending_on l s u (refused number) on (inr (inl e)) =
      inr (inl (e.0, record { n' = e.1.n'; g = e.1.g; gs = e.1.gs; comes = on _ _ _ e.1.comes; oversize = e.1.oversize; enough = e.1.enough }))
  ending_on l s u (refused number) on (inr (inr e)) =
      inr (inr (e.0, record { left' = e.1.left'; n' = e.1.n'; g = e.1.g; gs = e.1.gs; comes = on _ _ _ e.1.comes; oversize = e.1.oversize; enough = e.1.enough; strict = e.1.strict; unplaced = e.1.unplaced }))

  -- Every grouping ends in one of the four ways.
  pub group_ending : (left n : ℕ) (w : List (List ℕ)) → Ending left n w (by left n w)
  group_ending left n w =
      group_all mode parts made lost limit branching Ending
      (λ left n. record { left' = left; n' = n; comes = here })
      (λ left n g gs a h e. ending_on (g ∷ []) 0 0 a (λ left' n' v c. listing h c) e)
      (λ left n g gs h k. inl (refl, record { left' = left; n' = n; g = g; gs = gs; comes = here; oversize = h; few = k }))
      (λ n g gs h k. inr (inl (refl, record { n' = n; g = g; gs = gs; comes = here; oversize = h; enough = k })))
      (λ left n g gs h k s u. inr (inr (refl, record { left' = left; n' = n; g = g; gs = gs; comes = here; oversize = h; enough = k; strict = s; unplaced = u })))
      (λ left n g gs a h k z e. ending_on [] 1 (lost n g) a (λ left' n' v c. splitting h k z c) e)
      left n w

  -- What a grouping comes to decides its refusal.
  comes_refused : {left n left' n' : ℕ} {w v : List (List ℕ)} (number : ℕ) → Comes left n w left' n' v → by left' n' v ≡ refused number → by left n w ≡ refused number
  unfolding after on_accepted
  comes_refused number here e = e
  comes_refused number (listing {left = left} {n = n} {g = g} {gs = gs} h c) e = rw (group_list mode parts made lost limit branching n g gs left h, comes_refused number c e)
  comes_refused number (splitting {left = left} {n = n} {g = g} {gs = gs} h k z c) e = rw (group_split mode parts made lost limit branching n g gs left h k z, comes_refused number c e)

  -- Refused by 6 exactly when it comes to an oversize group with fewer rows than branching.
  pub six_when : (left n : ℕ) (w : List (List ℕ)) → Small left n w → by left n w ≡ refused 6
  six_when left n w s = comes_refused 6 s.comes (group_six mode parts made lost limit branching s.n' s.g s.gs s.left' s.oversize s.few)

  pub six_only : (left n : ℕ) (w : List (List ℕ)) → by left n w ≡ refused 6 → Small left n w
  six_only left n w e = go (rw e at (group_ending left n w))
    where
      go : Ending left n w (refused 6) → Small left n w
      go (inl s) = s.1
      go (inr (inl s)) = absurd (let z = s.0 in omega arith)
      go (inr (inr s)) = absurd (let z = s.0 in omega arith)

  -- Refused by 7 exactly when it comes to an oversize group, not such a one, with no split left.
  pub seven_when : (left n : ℕ) (w : List (List ℕ)) → Spent left n w → by left n w ≡ refused 7
  seven_when left n w s = comes_refused 7 s.comes (group_seven mode parts made lost limit branching s.n' s.g s.gs s.oversize s.enough)

  pub seven_only : (left n : ℕ) (w : List (List ℕ)) → by left n w ≡ refused 7 → Spent left n w
  seven_only left n w e = go (rw e at (group_ending left n w))
    where
      go : Ending left n w (refused 7) → Spent left n w
      go (inl s) = absurd (let z = s.0 in omega arith)
      go (inr (inl s)) = s.1
      go (inr (inr s)) = absurd (let z = s.0 in omega arith)

  -- Refused by 9 exactly when it comes to an oversize group, not such a one, with a split left, in the strict mode, whose split leaves a row unplaced.
  pub nine_when : (left n : ℕ) (w : List (List ℕ)) → Barred left n w → by left n w ≡ refused 9
  nine_when left n w s =
      comes_refused 9 s.comes (group_nine mode parts made lost limit branching s.n' s.g s.gs s.left' s.oversize s.enough s.strict s.unplaced)

  pub nine_only : (left n : ℕ) (w : List (List ℕ)) → by left n w ≡ refused 9 → Barred left n w
  nine_only left n w e = go (rw e at (group_ending left n w))
    where
      go : Ending left n w (refused 9) → Barred left n w
      go (inl s) = absurd (let z = s.0 in omega arith)
      go (inr (inl s)) = absurd (let z = s.0 in omega arith)
      go (inr (inr s)) = s.1

  -- Accepted exactly when it comes to where none waits.
  passes_after : (l : List (List ℕ)) (s u : ℕ) (a : Answer Groups) → Passes a → Passes (after l s u a)
  unfolding after on_accepted
  passes_after l s u (accepted g) p = tt
  passes_after l s u (refused number) p = p

  comes_passes : {left n left' n' : ℕ} {w v : List (List ℕ)} → Comes left n w left' n' v → Passes (by left' n' v) → Passes (by left n w)
  comes_passes here p = p
  comes_passes (listing {left = left} {n = n} {g = g} {gs = gs} h c) p = rw (group_list mode parts made lost limit branching n g gs left h) (passes_after (g ∷ []) 0 0 _ (comes_passes c p))
  comes_passes (splitting {left = left} {n = n} {g = g} {gs = gs} h k z c) p = rw (group_split mode parts made lost limit branching n g gs left h k z) (passes_after [] 1 (lost n g) _ (comes_passes c p))

  pub accepted_when : (left n : ℕ) (w : List (List ℕ)) → Done left n w → Passes (by left n w)
  accepted_when left n w d = comes_passes d.comes (rw (group_end mode parts made lost limit branching d.left' d.n') tt)

  pub accepted_only : (left n : ℕ) (w : List (List ℕ)) (g : Groups) → by left n w ≡ accepted g → Done left n w
  accepted_only left n w g e = rw e at (group_ending left n w)

  -- ---- how many splits an acceptance tells: those that were made before none waited
  abbrev Counted : ℕ → ℕ → Answer Groups → Type 0
  Counted left left' (accepted g) = g.splits + left' ≡ left
  Counted left left' (refused number) = ⊥

  counted_list : (left left' : ℕ) (l : List (List ℕ)) (a : Answer Groups) → Counted left left' a → Counted left left' (after l 0 0 a)
  unfolding after on_accepted
  counted_list left left' l (accepted g) h = omega (arith, h)
  counted_list left left' l (refused number) h = h

  counted_split : (left left' u : ℕ) (a : Answer Groups) → Counted left left' a → Counted (suc left) left' (after [] 1 u a)
  unfolding after on_accepted
  counted_split left left' u (accepted g) h = omega (arith, h)
  counted_split left left' u (refused number) h = h

  comes_counted : {left n left' n' : ℕ} {w v : List (List ℕ)} (last : ℕ) → Comes left n w left' n' v → Counted left' last (by left' n' v) → Counted left last (by left n w)
  comes_counted last here h = h
  comes_counted last (listing {left = left} {n = n} {g = g} {gs = gs} k c) h =
      rw (group_list mode parts made lost limit branching n g gs left k) (counted_list left last (g ∷ []) _ (comes_counted last c h))
  comes_counted last (splitting {left = left} {n = n} {g = g} {gs = gs} k l z c) h =
      rw (group_split mode parts made lost limit branching n g gs left k l z) (counted_split left last (lost n g) _ (comes_counted last c h))

  ends_counted : (left n : ℕ) (w : List (List ℕ)) (d : Done left n w) → Counted left d.left' (by left n w)
  ends_counted left n w d = comes_counted d.left' d.comes (rw (group_end mode parts made lost limit branching d.left' d.n') (omega arith))

  -- Accepted with s splits exactly when it comes there after s.
  pub splits_only : (left n : ℕ) (w : List (List ℕ)) (g : Groups) → by left n w ≡ accepted g → Ends left n w g.splits
  splits_only left n w g e =
      let d = accepted_only left n w g e in
      record { left' = d.left'; n' = d.n'; comes = d.comes; counted = rw e at (ends_counted left n w d) }

  pub splits_when : (left n : ℕ) (w : List (List ℕ)) (s : ℕ) → Ends left n w s → (g : Groups) × ((by left n w ≡ accepted g) × (g.splits ≡ s))
  splits_when left n w s d =
      go (by left n w) refl (ends_counted left n w (record { left' = d.left'; n' = d.n'; comes = d.comes }))
    where
      go : (a : Answer Groups) → by left n w ≡ a → Counted left d.left' a → (g : Groups) × ((by left n w ≡ accepted g) × (g.splits ≡ s))
      go (accepted g) e h = (g, (e, omega (arith, h, d.counted)))
      go (refused number) e h = absurd h

  -- No other number refuses.
  pub only_six_seven_or_nine : (left n number : ℕ) (w : List (List ℕ)) → by left n w ≡ refused number → (number ≡ 6) ⊎ ((number ≡ 7) ⊎ (number ≡ 9))
  only_six_seven_or_nine left n number w e = go (rw e at (group_ending left n w))
    where
      go : Ending left n w (refused number) → (number ≡ 6) ⊎ ((number ≡ 7) ⊎ (number ≡ 9))
      go (inl s) = inl s.0
      go (inr (inl s)) = inr (inl s.0)
      go (inr (inr s)) = inr (inr s.0)

  -- ---- the budget
  steady_list : (left n : ℕ) (g : List ℕ) (gs : List (List ℕ)) (a : Answer Groups) → length g ≤ limit → Steady left (λ c. by c n gs) a → Steady left (λ c. by c n (g ∷ gs)) (after (g ∷ []) 0 0 a)
  unfolding after on_accepted
  steady_list left n g gs (accepted r) h s = (
    omega (arith, s.0),
    ((λ c p. rw (group_list mode parts made lost limit branching n g gs c h, s.1.0 c (omega arith))), (λ c p. rw (group_list mode parts made lost limit branching n g gs c h, s.1.1 c (omega arith)))),
  )
  steady_list left n g gs (refused number) h (inl s) = inl (s.0, λ c p. rw (group_list mode parts made lost limit branching n g gs c h, s.1 c p))
  steady_list left n g gs (refused number) h (inr (inl s)) = inr (inl (s.0, λ c p. rw (group_list mode parts made lost limit branching n g gs c h, s.1 c p)))
  steady_list left n g gs (refused number) h (inr (inr s)) = inr (inr (s.0, λ c p. rw (group_list mode parts made lost limit branching n g gs c h, s.1 c p)))

  -- a split more needs a budget one larger
  more_budget : (left n number : ℕ) (g : List ℕ) (gs : List (List ℕ)) → limit < length g → branching ≤ length g → unplaced_refusal mode (lost n g) ≡ 0
      → ((c : ℕ) → left ≤ c → by c (made n g) (pushed (parts n g) gs) ≡ refused number) → (c : ℕ) → suc left ≤ c → by c n (g ∷ gs) ≡ refused number
  unfolding after on_accepted
  more_budget left n number g gs h k z s zero p = absurd (omega arith)
  more_budget left n number g gs h k z s (suc c) p = rw (group_split mode parts made lost limit branching n g gs c h k z, s c (omega arith))

  steady_split : (left n : ℕ) (g : List ℕ) (gs : List (List ℕ)) (a : Answer Groups) → limit < length g → branching ≤ length g → unplaced_refusal mode (lost n g) ≡ 0
      → Steady left (λ c. by c (made n g) (pushed (parts n g) gs)) a → Steady (suc left) (λ c. by c n (g ∷ gs)) (after [] 1 (lost n g) a)
  unfolding after on_accepted
  steady_split left n g gs (accepted r) h k z s = (omega (arith, s.0), (up, down))
    where
      up : (c : ℕ) → 1 + r.splits ≤ c → by c n (g ∷ gs) ≡ accepted (record { groups = r.groups; splits = 1 + r.splits; unplaced = lost n g + r.unplaced })
      up zero p = absurd (omega arith)
      up (suc c) p = rw (group_split mode parts made lost limit branching n g gs c h k z, s.1.0 c (omega arith))

      down : (c : ℕ) → c < 1 + r.splits → by c n (g ∷ gs) ≡ refused 7
      down zero p = group_seven mode parts made lost limit branching n g gs h k
      down (suc c) p = rw (group_split mode parts made lost limit branching n g gs c h k z, s.1.1 c (omega arith))
  steady_split left n g gs (refused number) h k z (inl s) = inl (s.0, more_budget left n 6 g gs h k z s.1)
  steady_split left n g gs (refused number) h k z (inr (inl s)) = inr (inl (s.0, down))
    where
      down : (c : ℕ) → c ≤ suc left → by c n (g ∷ gs) ≡ refused 7
      down zero p = group_seven mode parts made lost limit branching n g gs h k
      down (suc c) p = rw (group_split mode parts made lost limit branching n g gs c h k z, s.1 c (omega arith))
  steady_split left n g gs (refused number) h k z (inr (inr s)) = inr (inr (s.0, more_budget left n 9 g gs h k z s.1))

  steady_nine : (left n : ℕ) (g : List ℕ) (gs : List (List ℕ)) → limit < length g → branching ≤ length g → mode ≡ Strict → 0 < lost n g → Steady (suc left) (λ c. by c n (g ∷ gs)) (refused 9)
  steady_nine left n g gs h k s u = inr (inr (refl, up))
    where
      up : (c : ℕ) → suc left ≤ c → by c n (g ∷ gs) ≡ refused 9
      up zero p = absurd (omega arith)
      up (suc c) p = group_nine mode parts made lost limit branching n g gs c h k s u

  group_steady : (left n : ℕ) (w : List (List ℕ)) → Steady left (λ c. by c n w) (by left n w)
  group_steady left n w =
      group_all mode parts made lost limit branching (λ left n w a. Steady left (λ c. by c n w) a)
      (λ left n. (omega arith, ((λ c p. group_end mode parts made lost limit branching c n), (λ c p. absurd (omega arith)))))
      steady_list
      (λ left n g gs h k. inl (refl, λ c p. group_six mode parts made lost limit branching n g gs c h k))
      (λ n g gs h k. inr (inl (refl, λ c p. let z : c ≡ 0 = omega arith in rw z (group_seven mode parts made lost limit branching n g gs h k))))
      steady_nine
      steady_split left n w

  -- Accepted with s splits: the splits are within the budget, every budget from s on gives the same, and every budget below s gives 7.
  pub budget_accepted : (left n : ℕ) (w : List (List ℕ)) (g : Groups) → by left n w ≡ accepted g
      → (g.splits ≤ left) × (((c : ℕ) → g.splits ≤ c → by c n w ≡ accepted g) × ((c : ℕ) → c < g.splits → by c n w ≡ refused 7))
  budget_accepted left n w g e = rw e at (group_steady left n w)

  -- Refused by 6: by 6 under every larger budget.
  pub budget_six : (left n : ℕ) (w : List (List ℕ)) → by left n w ≡ refused 6 → (c : ℕ) → left ≤ c → by c n w ≡ refused 6
  budget_six left n w e = go (rw e at (group_steady left n w))
    where
      go : Steady left (λ c. by c n w) (refused 6) → (c : ℕ) → left ≤ c → by c n w ≡ refused 6
      go (inl s) = s.1
      go (inr (inl s)) = absurd (let z = s.0 in omega arith)
      go (inr (inr s)) = absurd (let z = s.0 in omega arith)

  -- Refused by 9: by 9 under every larger budget.
  pub budget_nine : (left n : ℕ) (w : List (List ℕ)) → by left n w ≡ refused 9 → (c : ℕ) → left ≤ c → by c n w ≡ refused 9
  budget_nine left n w e = go (rw e at (group_steady left n w))
    where
      go : Steady left (λ c. by c n w) (refused 9) → (c : ℕ) → left ≤ c → by c n w ≡ refused 9
      go (inl s) = absurd (let z = s.0 in omega arith)
      go (inr (inl s)) = absurd (let z = s.0 in omega arith)
      go (inr (inr s)) = s.1

  -- ---- the count of unplaced rows
  -- the unplaced rows of the splits on the way, added up
  pub lost_on : {left n left' n' : ℕ} {w v : List (List ℕ)} → Comes left n w left' n' v → ℕ
  lost_on here = 0
  lost_on (listing h c) = lost_on c
  lost_on (splitting {n = n} {g = g} h k z c) = lost n g + lost_on c

  abbrev Summed : ℕ → Answer Groups → Type 0
  Summed u (accepted g) = g.unplaced ≡ u
  Summed u (refused number) = Unit {0}

  summed_after : (l : List (List ℕ)) (s m u : ℕ) (a : Answer Groups) → Summed u a → Summed (m + u) (after l s m a)
  unfolding after on_accepted
  summed_after l s m u (accepted g) h = ap (λ (x : ℕ). m + x) h
  summed_after l s m u (refused number) h = tt

  comes_summed : {left n left' n' : ℕ} {w : List (List ℕ)} (c : Comes left n w left' n' []) → Summed (lost_on c) (by left n w)
  unfolding lost_on
  comes_summed (here {left = left} {n = n}) = rw (group_end mode parts made lost limit branching left n) refl
  comes_summed (listing {left = left} {n = n} {g = g} {gs = gs} h c) =
      let z : 0 + lost_on c ≡ lost_on c = omega arith in
      rw (group_list mode parts made lost limit branching n g gs left h) (rw z at (summed_after (g ∷ []) 0 0 (lost_on c) (by left n gs) (comes_summed c)))
  comes_summed (splitting {left = left} {n = n} {g = g} {gs = gs} h k z c) =
      rw (group_split mode parts made lost limit branching n g gs left h k z) (summed_after [] 1 (lost n g) (lost_on c) _ (comes_summed c))

  -- The count that an acceptance tells is that of the splits made until none waited, added up.
  pub unplaced_summed : {left n left' n' : ℕ} {w : List (List ℕ)} (c : Comes left n w left' n' []) (g : Groups) → by left n w ≡ accepted g → g.unplaced ≡ lost_on c
  unplaced_summed c g e = rw e at (comes_summed c)

  -- ---- the rows, where a split of a group with at least as many rows as branching, and with at most `most` of them, keeps its rows
  module _ (most : ℕ) (kept : (n : ℕ) (g : List ℕ) → branching ≤ length g → length g ≤ most → Same (flat (parts n g)) g) where
    -- a split changes nothing of the rows that wait
    split_same : (n : ℕ) (g : List ℕ) (gs : List (List ℕ)) → branching ≤ length g → length (flatten (g ∷ gs)) ≤ most
        → Same (flatten (pushed (parts n g) gs)) (flatten (g ∷ gs))
    unfolding flatten
    split_same n g gs k b f =
        let l : length g ≤ most = omega (arith, length-append g (flatten gs)) in
        ap (weigh f) (flatten_pushed (parts n g) gs)
        ∙ omega (arith, weigh_append f (flat (parts n g)) (flatten gs), weigh_append f g (flatten gs), kept n g k l f)

    split_few : (n : ℕ) (g : List ℕ) (gs : List (List ℕ)) → branching ≤ length g → length (flatten (g ∷ gs)) ≤ most → length (flatten (pushed (parts n g) gs)) ≤ most
    split_few n g gs k b = omega (arith, same_length (flatten (pushed (parts n g) gs)) (flatten (g ∷ gs)) (split_same n g gs k b))

    list_few : (g : List ℕ) (gs : List (List ℕ)) → length (flatten (g ∷ gs)) ≤ most → length (flatten gs) ≤ most
    unfolding flatten
    list_few g gs b = omega (arith, length-append g (flatten gs))

    -- Along the way no row waits that did not wait at first, and none more often.
    pub comes_within : {left n left' n' : ℕ} {w v : List (List ℕ)} → Comes left n w left' n' v → length (flatten w) ≤ most → (f : ℕ → ℕ) → weigh f (flatten v) ≤ weigh f (flatten w)
    unfolding flatten
    comes_within here b f = omega arith
    comes_within (listing {g = g} {gs = gs} h c) b f = omega (arith, weigh_append f g (flatten gs), comes_within c (list_few g gs b) f)
    comes_within (splitting {n = n} {g = g} {gs = gs} h k z c) b f = omega (arith, split_same n g gs k b f, comes_within c (split_few n g gs k b) f)

    abbrev Good : List (List ℕ) → Answer Groups → Type 0
    Good w (accepted r) = Families limit (flatten w) r.groups
    Good w (refused number) = Unit {0}

    abbrev Goes : List (List ℕ) → Answer Groups → Type 0
    Goes w a = All Full w → length (flatten w) ≤ most → Good w a

    good_list : (left n : ℕ) (g : List ℕ) (gs : List (List ℕ)) (a : Answer Groups) → length g ≤ limit → Goes gs a → Goes (g ∷ gs) (after (g ∷ []) 0 0 a)
    unfolding after on_accepted flatten
    good_list left n g gs (accepted r) h good f b =
        let s = good f.1 (list_few g gs b) in
        record {
          same = λ x. omega (arith, weigh_append x g (flatten r.groups), weigh_append x g (flatten gs), s.same x);
          sized = ((f.0, h), s.sized);
        }
    good_list left n g gs (refused number) h good f b = tt

    good_split : (left n : ℕ) (g : List ℕ) (gs : List (List ℕ)) (a : Answer Groups) → limit < length g → branching ≤ length g → unplaced_refusal mode (lost n g) ≡ 0
        → Goes (pushed (parts n g) gs) a → Goes (g ∷ gs) (after [] 1 (lost n g) a)
    unfolding after on_accepted
    good_split left n g gs (accepted r) h k z good f b =
        let s = good (full_pushed (parts n g) gs f.1) (split_few n g gs k b) in
        record { same = λ x. s.same x ∙ split_same n g gs k b x; sized = s.sized }
    good_split left n g gs (refused number) h k z good f b = tt

    group_good : (left n : ℕ) (w : List (List ℕ)) → Goes w (by left n w)
    unfolding flatten
    group_good left n w =
        group_all mode parts made lost limit branching (λ left n w a. Goes w a)
        (λ left n f b. record { same = λ x. refl; sized = tt })
        good_list
        (λ left n g gs h k f b. tt)
        (λ n g gs h k f b. tt)
        (λ left n g gs h k s u f b. tt)
        good_split left n w

    -- An accepted grouping lists the rows that waited, in groups of one row to the limit.
    pub accepted_families : (left n : ℕ) (w : List (List ℕ)) (g : Groups) → All Full w → length (flatten w) ≤ most → by left n w ≡ accepted g → Families limit (flatten w) g.groups
    accepted_families left n w g f b e = (rw e at (group_good left n w)) f b

    -- An accepted grouping of all rows: each once, group sizes, group ends, and how many groups.
    pub accepted_listing : (left rows : ℕ) (g : Groups) → rows ≤ most → by left 0 (waits (up_to rows) []) ≡ accepted g → Listing limit rows g.groups
    accepted_listing left rows g b e =
        let f = accepted_families left 0 (waits (up_to rows) []) g (one_full (up_to rows)) (omega (arith, one_long rows)) e in
        let s : Same (flatten g.groups) (up_to rows) = λ x. f.same x ∙ ap (weigh x) (one_flat (up_to rows)) in
        let n : length (flatten g.groups) ≡ rows = same_length (flatten g.groups) (up_to rows) s ∙ up_length rows in
        record {
          once = λ x h. same_count (flatten g.groups) (up_to rows) s x ∙ count_once x rows h;
          all = n;
          sized = f.sized;
          ends = λ i h. end_total g.groups i h;
          last = λ h. last_total g.groups (omega arith) ∙ n;
          most = omega (arith, full_count g.groups (all_weaken (Sized limit) Full (λ x p. p.0) g.groups f.sized), n);
          least = λ h. rw n at (groups_least limit g.groups h f.sized);
        }

    -- where a split leaves no more rows unplaced than the group has
    module _ (few : (n : ℕ) (g : List ℕ) → lost n g ≤ length g) where
      abbrev Bounded : Answer Groups → Type 0
      Bounded (accepted r) = r.unplaced ≤ r.splits * most
      Bounded (refused number) = Unit {0}

      bounded_list : (l : List (List ℕ)) (a : Answer Groups) → Bounded a → Bounded (after l 0 0 a)
      unfolding after on_accepted
      bounded_list l (accepted r) h = omega (arith, h)
      bounded_list l (refused number) h = h

      bounded_split : (u : ℕ) (a : Answer Groups) → u ≤ most → Bounded a → Bounded (after [] 1 u a)
      unfolding after on_accepted
      bounded_split u (accepted r) k h = omega (arith, h, k, suc-mul r.splits most)
      bounded_split u (refused number) k h = h

      first_few : (g : List ℕ) (gs : List (List ℕ)) → length (flatten (g ∷ gs)) ≤ most → length g ≤ most
      unfolding flatten
      first_few g gs b = omega (arith, length-append g (flatten gs))

      -- The unplaced rows of an accepted grouping are at most its splits times `most`, where no more rows waited.
      pub accepted_unplaced : (left n : ℕ) (w : List (List ℕ)) (g : Groups) → length (flatten w) ≤ most → by left n w ≡ accepted g → g.unplaced ≤ g.splits * most
      accepted_unplaced left n w g b e = (rw e at bounded) b
        where
          bounded : length (flatten w) ≤ most → Bounded (by left n w)
          bounded =
              group_all mode parts made lost limit branching (λ left n w a. length (flatten w) ≤ most → Bounded a)
              (λ left n b. omega arith)
              (λ left n g gs a h i b. bounded_list (g ∷ []) a (i (list_few g gs b)))
              (λ left n g gs h k b. tt)
              (λ n g gs h k b. tt)
              (λ left n g gs h k s u b. tt)
              (λ left n g gs a h k z i b. bounded_split (lost n g) a (omega (arith, few n g, first_few g gs b)) (i (split_few n g gs k b)))
              left n w
