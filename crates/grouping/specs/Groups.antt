-- 01, 'Grouping': groups are lists of row numbers; of the waiting ones the last put to wait stands first.
use Rattle.std.specs.Prelude.{Bool, cond, ℕ, zero, suc, ◌+◌, ltb, leb, length, Float}
use mathlib.Core.List.{List, [], ◌∷◌, ◌++◌, map, foldl}
use Rattle.std.specs.Float.{binary32}
use Rattle.std.specs.Float.Ieee.{div, lt}
use Rattle.sums.specs.Tables.{up_to}
use Rattle.sums.specs.Rows.{Row, rows_at}
use Rattle.sums.specs.Sums.{zero32, count32, add_row, zero_row}
use Rattle.sums.specs.Refusals.{Answer, accepted, refused, unless, on_accepted}
use Rattle.labels.specs.declared.mode.Mode.{Mode}
use Rattle.labels.specs.Mode.{unplaced_refusal}
use Rattle.kmeans.specs.KMeans.{Run, kmeans, for_grouping}
use Rattle.grouping.specs.Parts.{gathered}
use Rattle.grouping.specs.Balance.{share, balance}

-- what stays the same in all splits of a call: the draws, the readings, branching, weight, and whether k-means brings centroids to length one (02 (iv))
abbrev pub Rule : Type 0
Rule = record { draws : List ℕ; dim : ℕ; rows : List Row; branching : ℕ; weight : Float; spherical : Bool }

abbrev pub rule_of : List ℕ → ℕ → List Row → ℕ → Float → Bool → Rule
rule_of draws dim rows branching weight spherical = record { draws = draws; dim = dim; rows = rows; branching = branching; weight = weight; spherical = spherical }

-- balancing if the weight is above zero, which a NaN is not
unfoldable pub balance_if : List Row → List Row → ℕ → Float → List (List ℕ) → List (List ℕ)
balance_if rows centroids share weight parts = cond (lt zero32 weight) (balance rows centroids share weight parts) parts

-- the k-means of one split after n draws: over the group's rows in listed order
abbrev pub split_run : Rule → ℕ → List ℕ → Run
split_run rule n group = kmeans rule.draws n (for_grouping rule.spherical) rule.branching rule.dim (rows_at rule.rows group)

-- the split: k-means, the rows gathered per label, and balancing
unfoldable pub parts_of : Rule → ℕ → List ℕ → List (List ℕ)
parts_of rule n group =
    let found = (split_run rule n group).result in
    balance_if rule.rows found.centroids (share (length group) rule.branching) rule.weight (gathered rule.branching group found.labels)

-- the draws made after it
unfoldable pub made_by : Rule → ℕ → List ℕ → ℕ
made_by rule n group = (split_run rule n group).made

-- the rows that it left unplaced (02 (ii))
unfoldable pub lost_by : Rule → ℕ → List ℕ → ℕ
lost_by rule n group = (split_run rule n group).result.unplaced

-- a part that has rows waits on top of the others
unfoldable pub waits : List ℕ → List (List ℕ) → List (List ℕ)
waits [] waiting = waiting
waits (r ∷ part) waiting = (r ∷ part) ∷ waiting

-- parts put to wait in cluster order
unfoldable pub pushed : List (List ℕ) → List (List ℕ) → List (List ℕ)
pushed [] waiting = waiting
pushed (p ∷ parts) waiting = pushed parts (waits p waiting)

-- what a grouping gives: the groups in the order listed, the number of splits, and the unplaced rows summed over them (02 (ii)): a row that two splits
-- left unplaced counts twice
pub record Groups : Type 0 where
  pub groups : List (List ℕ)
  pub splits : ℕ
  pub unplaced : ℕ

-- what a grouping gives where groups were listed and splits done before it, with so many unplaced rows
unfoldable pub after : List (List ℕ) → ℕ → ℕ → Answer Groups → Answer Groups
after listed splits unplaced answer =
    on_accepted (λ (g : Groups). record { groups = listed ++ g.groups; splits = splits + g.splits; unplaced = unplaced + g.unplaced }) answer

-- the groups at the front that are at or below the limit: they are finished and listed; and what waits behind them
unfoldable pub front : ℕ → List (List ℕ) → List (List ℕ)
front limit [] = []
front limit (g ∷ waiting) = cond (leb (length g) limit) (g ∷ front limit waiting) []

unfoldable pub back : ℕ → List (List ℕ) → List (List ℕ)
back limit [] = []
back limit (g ∷ waiting) = cond (leb (length g) limit) (back limit waiting) (g ∷ waiting)

-- `parts n g` are the parts of the group g after n draws, `made n g` the draws made then, and `lost n g` its unplaced rows
module _ (mode : Mode) (parts : ℕ → List ℕ → List (List ℕ)) (made lost : ℕ → List ℕ → ℕ) (limit branching : ℕ) where
  -- with so many splits left: nothing waits, or the first waiting group is oversize and is refused by 6 or 7, by 9 where its k-means left rows unplaced and
  -- the mode is strict (02 (iii)), or split
  unfoldable pub split_from : ℕ → ℕ → List (List ℕ) → Answer Groups
  split_from zero n [] = accepted (record { groups = []; splits = 0; unplaced = 0 })
  split_from zero n (g ∷ waiting) = cond (ltb (length g) branching) (refused 6) (refused 7)
  split_from (suc left) n [] = accepted (record { groups = []; splits = 0; unplaced = 0 })
  split_from (suc left) n (g ∷ waiting) =
      let then = pushed (parts n g) waiting in
      let rest = split_from left (made n g) (back limit then) in
      cond (ltb (length g) branching) (refused 6) (unless (unplaced_refusal mode (lost n g)) (after (front limit then) 1 (lost n g) rest))

  -- the groups that are small enough are listed first
  unfoldable pub group_from : ℕ → ℕ → List (List ℕ) → Answer Groups
  group_from left n waiting = after (front limit waiting) 0 0 (split_from left n (back limit waiting))

-- all rows wait as one group, or none where there is no row
abbrev pub grouping : Mode → Rule → ℕ → ℕ → Answer Groups
grouping mode rule limit budget =
    group_from mode (parts_of rule) (made_by rule) (lost_by rule) limit rule.branching budget 0 (waits (up_to (length rule.rows)) [])

-- the running totals of the group sizes, from s on
unfoldable pub ends_from : ℕ → List (List ℕ) → List ℕ
ends_from s [] = []
ends_from s (g ∷ groups) = (s + length g) ∷ ends_from (s + length g) groups

-- the mean of a group: its rows added in listed order, and each sum divided by their count, not times its inverse
unfoldable pub mean_of : ℕ → List Row → List ℕ → Row
mean_of dim rows group = map (λ s. div binary32 s (count32 (length group))) (foldl add_row (zero_row dim) (rows_at rows group))
