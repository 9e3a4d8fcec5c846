-- The grouping of before 02 (iii), with no mode and no refusal by 9: what the old way is compared with. Assumes nothing.
use mathlib.Core.Bool.{cond}
use mathlib.Core.List.{List, [], ◌∷◌}
use Prim.Native.Nat.{ℕ, zero, suc}
use lib.Dec.{ltb}
use lib.ListN.{length}
use Rattle.sums.specs.Refusals.{Answer, accepted, refused}
use Rattle.grouping.specs.Groups.{Groups, pushed, after, front, back}

module _ (parts : ℕ → List ℕ → List (List ℕ)) (made lost : ℕ → List ℕ → ℕ) (limit branching : ℕ) where
  -- with so many splits left: nothing waits, or the first waiting group is oversize and is refused by 6 or 7 or split
  unfoldable pub split_before : ℕ → ℕ → List (List ℕ) → Answer Groups
  split_before zero n [] = accepted (record { groups = []; splits = 0; unplaced = 0 })
  split_before zero n (g ∷ waiting) = cond (ltb (length g) branching) (refused 6) (refused 7)
  split_before (suc left) n [] = accepted (record { groups = []; splits = 0; unplaced = 0 })
  split_before (suc left) n (g ∷ waiting) =
      let then = pushed (parts n g) waiting in
      let rest = split_before left (made n g) (back limit then) in
      cond (ltb (length g) branching) (refused 6) (after (front limit then) 1 (lost n g) rest)

  -- the groups that are small enough are listed first
  unfoldable pub group_before : ℕ → ℕ → List (List ℕ) → Answer Groups
  group_before left n waiting = after (front limit waiting) 0 0 (split_before left n (back limit waiting))
