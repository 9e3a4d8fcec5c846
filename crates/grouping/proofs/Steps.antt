-- A grouping, one group at a time. Assumes nothing.
use mathlib.Core.Path.{◌≡◌, refl, sym, ap, ◌∙◌}
use mathlib.Core.Logic.{inl, inr}
use mathlib.Core.List.{List, [], ◌∷◌, ◌++◌, flatten, append_assoc, append-nil}
use mathlib.Core.Bool.{Bool, true, false}
use Prim.Native.Nat.{ℕ, zero, suc, ◌+◌, ◌≤◌, ◌<◌}
use native.Mathlib.Omega.{arith}
use borrow.Author.Tests.{lt-ltb, le-ltb, le-leb, lt-leb, ltb-true, ltb-false, leb-true, leb-false}
use lib.Dec.{ltb, leb}
use lib.ListN.{length, length-append}
use Rattle.sums.specs.Refusals.{Answer, accepted, refused, unless, on_accepted}
use Rattle.sums.proofs.Pairs.{All}
use Rattle.labels.specs.declared.mode.Mode.{Mode}
use Rattle.labels.specs.declared.mode.Mode.TheVariants.{Strict}
use Rattle.labels.specs.Mode.{unplaced_refusal}
use Rattle.labels.proofs.Modes.{strict_nine, none_or_strict}
use Rattle.grouping.specs.Parts.{flat}
use Rattle.grouping.specs.Groups.{Groups, waits, pushed, after, front, back, split_from, group_from}

-- ---- the waiting groups
abbrev pub Full : List ℕ → Type 0
Full g = 0 < length g

pub flatten_pushed : (ps w : List (List ℕ)) → flatten (pushed ps w) ≡ flat ps ++ flatten w
unfolding flatten pushed waits flat
flatten_pushed [] w = refl
flatten_pushed ([] ∷ ps) w = flatten_pushed ps w ∙ ap (λ (z : List ℕ). z ++ flatten w) (sym (append-nil (flat ps)))
flatten_pushed ((x ∷ xs) ∷ ps) w = flatten_pushed ps ((x ∷ xs) ∷ w) ∙ sym (append_assoc (flat ps) (x ∷ xs) (flatten w))

pub full_pushed : (ps w : List (List ℕ)) → All Full w → All Full (pushed ps w)
unfolding pushed waits
full_pushed [] w h = h
full_pushed ([] ∷ ps) w h = full_pushed ps w h
full_pushed ((x ∷ xs) ∷ ps) w h = full_pushed ps ((x ∷ xs) ∷ w) (omega arith, h)

-- groups that have rows are no more than their rows
pub full_count : (w : List (List ℕ)) → All Full w → length w ≤ length (flatten w)
unfolding flatten
full_count [] h = omega arith
full_count (g ∷ gs) h = omega (arith, length-append g (flatten gs), full_count gs h.1, h.0)

-- ---- one group taken

nothing : (n : ℕ) → 0 + n ≡ n
nothing n = omega arith

module _ (mode : Mode) (parts : ℕ → List ℕ → List (List ℕ)) (made lost : ℕ → List ℕ → ℕ) (limit branching : ℕ) where
  pub group_end : (left n : ℕ) → group_from mode parts made lost limit branching left n [] ≡ accepted (record { groups = []; splits = 0; unplaced = 0 })
  unfolding group_from split_from front back after on_accepted
  group_end zero n = refl
  group_end (suc left) n = refl

  module _ (n : ℕ) (g : List ℕ) (gs : List (List ℕ)) where
    pub group_list : (left : ℕ) → length g ≤ limit
        → group_from mode parts made lost limit branching left n (g ∷ gs) ≡ after (g ∷ []) 0 0 (group_from mode parts made lost limit branching left n gs)
    unfolding group_from front back after on_accepted
    group_list left h = rw (le-leb _ _ h) (go (split_from mode parts made lost limit branching left n (back limit gs)))
      where
        go : (a : Answer Groups) → after (g ∷ front limit gs) 0 0 a ≡ after (g ∷ []) 0 0 (after (front limit gs) 0 0 a)
        go (accepted r) = rw (nothing (0 + r.splits), nothing (0 + r.unplaced))
        go (refused number) = refl

    pub group_six : (left : ℕ) → limit < length g → length g < branching → group_from mode parts made lost limit branching left n (g ∷ gs) ≡ refused 6
    unfolding group_from split_from front back after on_accepted
    group_six zero h k = rw (lt-leb _ _ h, lt-ltb _ _ k)
    group_six (suc left) h k = rw (lt-leb _ _ h, lt-ltb _ _ k)

    pub group_seven : limit < length g → branching ≤ length g → group_from mode parts made lost limit branching zero n (g ∷ gs) ≡ refused 7
    unfolding group_from split_from front back after on_accepted
    group_seven h k = rw (lt-leb _ _ h, le-ltb _ _ k)

    pub group_nine : (left : ℕ) → limit < length g → branching ≤ length g → mode ≡ Strict → 0 < lost n g → group_from mode parts made lost limit branching (suc left) n (g ∷ gs) ≡ refused 9
    unfolding group_from split_from front back after on_accepted unless
    group_nine left h k s u = rw (lt-leb _ _ h, le-ltb _ _ k, s, (strict_nine (lost n g)).1 u)

    pub group_split : (left : ℕ) → limit < length g → branching ≤ length g → unplaced_refusal mode (lost n g) ≡ 0
        → group_from mode parts made lost limit branching (suc left) n (g ∷ gs) ≡ after [] 1 (lost n g) (group_from mode parts made lost limit branching left (made n g) (pushed (parts n g) gs))
    unfolding group_from split_from front back after on_accepted unless
    group_split left h k z = rw (lt-leb _ _ h, le-ltb _ _ k, z) (go (front limit (pushed (parts n g) gs)) (split_from mode parts made lost limit branching left (made n g) (back limit (pushed (parts n g) gs))))
      where
        go : (l : List (List ℕ)) (a : Answer Groups) → after [] 0 0 (after l 1 (lost n g) a) ≡ after [] 1 (lost n g) (after l 0 0 a)
        go l (accepted r) = rw (nothing (1 + r.splits), nothing (lost n g + r.unplaced), nothing r.splits, nothing r.unplaced)
        go l (refused number) = refl

-- what holds at each end of a grouping, and over one group listed or split, holds of every grouping
module _ (mode : Mode) (parts : ℕ → List ℕ → List (List ℕ)) (made lost : ℕ → List ℕ → ℕ) (limit branching : ℕ)
    (P : ℕ → ℕ → List (List ℕ) → Answer Groups → Type 0)
    (none : (left n : ℕ) → P left n [] (accepted (record { groups = []; splits = 0; unplaced = 0 })))
    (list : (left n : ℕ) (g : List ℕ) (gs : List (List ℕ)) (a : Answer Groups) → length g ≤ limit → P left n gs a → P left n (g ∷ gs) (after (g ∷ []) 0 0 a))
    (six : (left n : ℕ) (g : List ℕ) (gs : List (List ℕ)) → limit < length g → length g < branching → P left n (g ∷ gs) (refused 6))
    (seven : (n : ℕ) (g : List ℕ) (gs : List (List ℕ)) → limit < length g → branching ≤ length g → P 0 n (g ∷ gs) (refused 7))
    (nine : (left n : ℕ) (g : List ℕ) (gs : List (List ℕ)) → limit < length g → branching ≤ length g → mode ≡ Strict → 0 < lost n g → P (suc left) n (g ∷ gs) (refused 9))
    (split : (left n : ℕ) (g : List ℕ) (gs : List (List ℕ)) (a : Answer Groups) → limit < length g → branching ≤ length g → unplaced_refusal mode (lost n g) ≡ 0
    → P left (made n g) (pushed (parts n g) gs) a → P (suc left) n (g ∷ gs) (after [] 1 (lost n g) a)) where
  none_left : (n : ℕ) (w : List (List ℕ)) → P 0 n w (group_from mode parts made lost limit branching 0 n w)
  none_left n [] = rw (group_end mode parts made lost limit branching 0 n) (none 0 n)
  none_left n (g ∷ gs) = go (leb (length g) limit) refl (none_left n gs)
    where
      big : (t : Bool) → ltb (length g) branching ≡ t → limit < length g → P 0 n (g ∷ gs) (group_from mode parts made lost limit branching 0 n (g ∷ gs))
      big true e h = let k : length g < branching = ltb-true (length g) branching e in rw (group_six mode parts made lost limit branching n g gs 0 h k) (six 0 n g gs h k)
      big false e h = let k : branching ≤ length g = ltb-false (length g) branching e in rw (group_seven mode parts made lost limit branching n g gs h k) (seven n g gs h k)

      go : (t : Bool) → leb (length g) limit ≡ t → P 0 n gs (group_from mode parts made lost limit branching 0 n gs) → P 0 n (g ∷ gs) (group_from mode parts made lost limit branching 0 n (g ∷ gs))
      go true e ih = let h = leb-true (length g) limit e in rw (group_list mode parts made lost limit branching n g gs 0 h) (list 0 n g gs _ h ih)
      go false e ih = big (ltb (length g) branching) refl (leb-false (length g) limit e)

  some_left : (left : ℕ) → ((n : ℕ) (w : List (List ℕ)) → P left n w (group_from mode parts made lost limit branching left n w))
      → (n : ℕ) (w : List (List ℕ)) → P (suc left) n w (group_from mode parts made lost limit branching (suc left) n w)
  some_left left less n [] = rw (group_end mode parts made lost limit branching (suc left) n) (none (suc left) n)
  some_left left less n (g ∷ gs) = go (leb (length g) limit) refl (some_left left less n gs)
    where
      big : (t : Bool) → ltb (length g) branching ≡ t → limit < length g → P (suc left) n (g ∷ gs) (group_from mode parts made lost limit branching (suc left) n (g ∷ gs))
      big true e h = let k : length g < branching = ltb-true (length g) branching e in rw (group_six mode parts made lost limit branching n g gs (suc left) h k) (six (suc left) n g gs h k)
      big false e h =
          let k : branching ≤ length g = ltb-false (length g) branching e in
          elim (none_or_strict mode (lost n g)) [
            | inl z ↦ rw (group_split mode parts made lost limit branching n g gs left h k z) (split left n g gs _ h k z (less (made n g) (pushed (parts n g) gs)))
            | inr b ↦ rw (group_nine mode parts made lost limit branching n g gs left h k b.0 b.1) (nine left n g gs h k b.0 b.1)
          ]

      go : (t : Bool) → leb (length g) limit ≡ t → P (suc left) n gs (group_from mode parts made lost limit branching (suc left) n gs)
          → P (suc left) n (g ∷ gs) (group_from mode parts made lost limit branching (suc left) n (g ∷ gs))
      go true e ih = let h = leb-true (length g) limit e in rw (group_list mode parts made lost limit branching n g gs (suc left) h) (list (suc left) n g gs _ h ih)
      go false e ih = big (ltb (length g) branching) refl (leb-false (length g) limit e)

  pub group_all : (left n : ℕ) (w : List (List ℕ)) → P left n w (group_from mode parts made lost limit branching left n w)
  group_all zero n w = none_left n w
  group_all (suc left) n w = some_left left (λ m v. group_all left m v) n w

pub sofar_none : (a : Answer Groups) → after [] 0 0 a ≡ a
unfolding after on_accepted
sofar_none (accepted g) = rw (nothing g.splits, nothing g.unplaced)
sofar_none (refused number) = refl

pub sofar_list : (l : List (List ℕ)) (s u : ℕ) (g : List ℕ) (a : Answer Groups) → after l s u (after (g ∷ []) 0 0 a) ≡ after (l ++ (g ∷ [])) s u a
unfolding after on_accepted
sofar_list l s u g (accepted r) = rw (append_assoc l (g ∷ []) r.groups, nothing r.splits, nothing r.unplaced)
sofar_list l s u g (refused number) = refl

pub sofar_more : (l : List (List ℕ)) (s u m : ℕ) (a : Answer Groups) → after l s u (after [] 1 m a) ≡ after l (s + 1) (u + m) a
unfolding after on_accepted
sofar_more l s u m (accepted r) =
    let e : s + (1 + r.splits) ≡ s + 1 + r.splits = omega arith in
    let f : u + (m + r.unplaced) ≡ u + m + r.unplaced = omega arith in
    rw (e, f)
sofar_more l s u m (refused number) = refl

pub sofar_end : (l : List (List ℕ)) (s u : ℕ) → after l s u (accepted (record { groups = []; splits = 0; unplaced = 0 })) ≡ accepted (record { groups = l; splits = s; unplaced = u })
unfolding after on_accepted
sofar_end l s u =
    let e : s + 0 ≡ s = omega arith in
    let f : u + 0 ≡ u = omega arith in
    rw (append-nil l, e, f)
