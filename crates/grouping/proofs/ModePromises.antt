-- What the mode changes of a grouping, whatever a split makes of a group: the new way gives what the old way gives or is refused by 9, and
-- the old way is the grouping of before. Assumes nothing.
use mathlib.Core.Path.{◌≡◌, refl, sym, ap, ◌∙◌}
use mathlib.Core.Logic.{◌↔◌, ◌⊎◌, ⊎_elim, inl, inr}
use mathlib.Core.List.{List, [], ◌∷◌, ◌++◌}
use Prim.Native.Nat.{ℕ, zero, suc, ◌+◌, ◌≤◌, ◌<◌}
use native.Mathlib.Omega.{arith}
use lib.ListN.{length}
use Rattle.sums.specs.Refusals.{Answer, accepted, refused, unless, on_accepted}
use Rattle.sums.proofs.Whens.{not_both}
use Rattle.labels.specs.declared.mode.Mode.TheVariants.{Strict, OldWay}
use Rattle.labels.specs.Mode.{unplaced_refusal}
use Rattle.labels.proofs.Modes.{old_way, strict_none}
use Rattle.grouping.specs.Groups.{Groups, pushed, after, back, split_from, group_from}
use Rattle.grouping.proofs.Before.{split_before, group_before}
use Rattle.grouping.proofs.Steps.{group_end, group_list, group_six, group_seven, group_split, group_all}
use Rattle.grouping.proofs.GroupPromises.{nine_only}

-- The groups and the number of splits, without the count of unplaced rows.
abbrev pub listed_of : Groups → List (List ℕ) × ℕ
listed_of g = (g.groups, g.splits)

-- the two modes are not the same
no_old : {A : Type 0} → OldWay ≡ Strict → A
no_old e = absurd (let z : ◌≡◌ {A = ℕ} 0 1 = cc in omega arith)

module _ (parts : ℕ → List ℕ → List (List ℕ)) (made lost : ℕ → List ℕ → ℕ) (limit branching : ℕ) where
  abbrev strict : ℕ → ℕ → List (List ℕ) → Answer Groups
  strict left n w = group_from Strict parts made lost limit branching left n w

  abbrev old : ℕ → ℕ → List (List ℕ) → Answer Groups
  old left n w = group_from OldWay parts made lost limit branching left n w

  old_split : (left n : ℕ) (g : List ℕ) (gs : List (List ℕ)) → limit < length g → branching ≤ length g
      → old (suc left) n (g ∷ gs) ≡ after [] 1 (lost n g) (old left (made n g) (pushed (parts n g) gs))
  old_split left n g gs h k = group_split OldWay parts made lost limit branching n g gs left h k (old_way (lost n g))

  -- ---- the new way beside the old

  -- nothing is unplaced where it is accepted
  abbrev None : Answer Groups → Type 0
  None (accepted g) = g.unplaced ≡ 0
  None (refused number) = Unit {0}

  -- the new way's answer a is the old way's o, with nothing unplaced; or it is 9, and the old way leaves rows unplaced where it is accepted
  abbrev Beside : Answer Groups → Answer Groups → Type 0
  Beside a o = ((a ≡ o) × None a) ⊎ ((a ≡ refused 9) × ((g : Groups) → o ≡ accepted g → 0 < g.unplaced))

  -- what an acceptance counts is what was counted before it and what the rest counts
  after_more : (l : List (List ℕ)) (s u : ℕ) (o : Answer Groups) (g : Groups) → after l s u o ≡ accepted g → (r : Groups) × ((o ≡ accepted r) × (g.unplaced ≡ u + r.unplaced))
  unfolding after on_accepted
  after_more l s u (accepted r) g e = (r, (refl, let z : g ≡ record { groups = l ++ r.groups; splits = s + r.splits; unplaced = u + r.unplaced } = cc in ap (λ (x : Groups). x.unplaced) z))
  after_more l s u (refused number) g e = absurd (let z : ◌≡◌ {A = ℕ} 0 1 = cc in omega arith)

  none_after : (l : List (List ℕ)) (s u : ℕ) (a : Answer Groups) → u ≡ 0 → None a → None (after l s u a)
  unfolding after on_accepted
  none_after l s u (accepted g) z n = omega (arith, z, n)
  none_after l s u (refused number) z n = n

  beside_after : (l : List (List ℕ)) (s u : ℕ) (a o : Answer Groups) → u ≡ 0 → Beside a o → Beside (after l s u a) (after l s u o)
  unfolding after on_accepted
  beside_after l s u a o z (inl b) = inl (ap (after l s u) b.0, none_after l s u a z b.1)
  beside_after l s u a o z (inr b) = inr (ap (after l s u) b.0, λ g e. let m = after_more l s u o g e in omega (arith, b.1 m.0 m.1.0, m.1.1))

  strict_beside : (left n : ℕ) (w : List (List ℕ)) → Beside (strict left n w) (old left n w)
  strict_beside left n w =
      group_all Strict parts made lost limit branching (λ left n w a. Beside a (old left n w))
      (λ left n. inl (sym (group_end OldWay parts made lost limit branching left n), refl))
      (λ left n g gs a h b. rw (group_list OldWay parts made lost limit branching n g gs left h) (beside_after (g ∷ []) 0 0 a (old left n gs) refl b))
      (λ left n g gs h k. inl (sym (group_six OldWay parts made lost limit branching n g gs left h k), tt))
      (λ n g gs h k. inl (sym (group_seven OldWay parts made lost limit branching n g gs h k), tt))
      (λ left n g gs h k s u. inr (refl, λ r e. let m = after_more [] 1 (lost n g) _ r (sym (old_split left n g gs h k) ∙ e) in omega (arith, u, m.1.1)))
      (λ left n g gs a h k z b. rw (old_split left n g gs h k) (beside_after [] 1 (lost n g) a _ ((strict_none (lost n g)).0 z) b))
      left n w

  -- The new way is accepted exactly when the old way is and leaves nothing unplaced, and gives the same.
  pub strict_accepted : (left n : ℕ) (w : List (List ℕ)) (g : Groups)
      → (group_from Strict parts made lost limit branching left n w ≡ accepted g) ↔ ((group_from OldWay parts made lost limit branching left n w ≡ accepted g) × (g.unplaced ≡ 0))
  strict_accepted left n w g = ((λ e. to (strict_beside left n w) e), (λ t. from (strict_beside left n w) t))
    where
      to : Beside (strict left n w) (old left n w) → strict left n w ≡ accepted g → (old left n w ≡ accepted g) × (g.unplaced ≡ 0)
      to (inl b) e = (sym b.0 ∙ e, rw e at b.1)
      to (inr b) e = absurd (not_both g 9 (sym e ∙ b.0))

      from : Beside (strict left n w) (old left n w) → (old left n w ≡ accepted g) × (g.unplaced ≡ 0) → strict left n w ≡ accepted g
      from (inl b) t = b.0 ∙ t.0
      from (inr b) t = absurd (omega (arith, b.1 g t.0, t.1))

  -- The new way gives what the old way gives, its refusals too, or is refused by 9.
  pub strict_or_nine : (left n : ℕ) (w : List (List ℕ))
      → (group_from Strict parts made lost limit branching left n w ≡ group_from OldWay parts made lost limit branching left n w)
      ⊎ (group_from Strict parts made lost limit branching left n w ≡ refused 9)
  strict_or_nine left n w = ⊎_elim (λ b. inl b.0) (λ b. inr b.0) (strict_beside left n w)

  -- ---- the old way

  -- The old way is never refused by 9.
  pub old_never_nine : (left n : ℕ) (w : List (List ℕ)) → group_from OldWay parts made lost limit branching left n w ≡ refused 9 → ⊥
  old_never_nine left n w e = no_old (nine_only OldWay parts made lost limit branching left n w e).strict

  split_before_lem : (left n : ℕ) (w : List (List ℕ)) → split_from OldWay parts made lost limit branching left n w ≡ split_before parts made lost limit branching left n w
  unfolding split_from split_before unplaced_refusal unless
  split_before_lem zero n [] = refl
  split_before_lem zero n (g ∷ gs) = refl
  split_before_lem (suc left) n [] = refl
  split_before_lem (suc left) n (g ∷ gs) = rw (split_before_lem left (made n g) (back limit (pushed (parts n g) gs)))

  -- The old way is the grouping of before.
  pub old_before : (left n : ℕ) (w : List (List ℕ)) → group_from OldWay parts made lost limit branching left n w ≡ group_before parts made lost limit branching left n w
  unfolding group_from group_before
  old_before left n w = rw (split_before_lem left n (back limit w))

  -- ---- the count of unplaced rows in the old way
  listed_after : (l : List (List ℕ)) (s u : ℕ) (a : Answer Groups)
      → on_accepted listed_of (after l s u a) ≡ on_accepted (λ (p : List (List ℕ) × ℕ). (l ++ p.0, s + p.1)) (on_accepted listed_of a)
  unfolding after on_accepted
  listed_after l s u (accepted g) = refl
  listed_after l s u (refused number) = refl

  aside_after : (l : List (List ℕ)) (s u u' : ℕ) (a a' : Answer Groups) → on_accepted listed_of a ≡ on_accepted listed_of a'
      → on_accepted listed_of (after l s u a) ≡ on_accepted listed_of (after l s u' a')
  aside_after l s u u' a a' e = listed_after l s u a ∙ ap (on_accepted (λ (p : List (List ℕ) × ℕ). (l ++ p.0, s + p.1))) e ∙ sym (listed_after l s u' a')

  -- In the old way the count changes no group, no number of splits and no refusal: with any other count they are the same.
  pub lost_aside : (lost' : ℕ → List ℕ → ℕ) (left n : ℕ) (w : List (List ℕ))
      → on_accepted listed_of (group_from OldWay parts made lost limit branching left n w) ≡ on_accepted listed_of (group_from OldWay parts made lost' limit branching left n w)
  lost_aside lost' left n w =
      group_all OldWay parts made lost limit branching (λ left n w a. on_accepted listed_of a ≡ on_accepted listed_of (group_from OldWay parts made lost' limit branching left n w))
      (λ left n. sym (ap (on_accepted listed_of) (group_end OldWay parts made lost' limit branching left n)))
      (λ left n g gs a h e. rw (group_list OldWay parts made lost' limit branching n g gs left h) (aside_after (g ∷ []) 0 0 0 a _ e))
      (λ left n g gs h k. sym (ap (on_accepted listed_of) (group_six OldWay parts made lost' limit branching n g gs left h k)))
      (λ n g gs h k. sym (ap (on_accepted listed_of) (group_seven OldWay parts made lost' limit branching n g gs h k)))
      (λ left n g gs h k s u. no_old s)
      (λ left n g gs a h k z e. rw (group_split OldWay parts made lost' limit branching n g gs left h k (old_way (lost' n g))) (aside_after [] 1 (lost n g) (lost' n g) a _ e))
      left n w
