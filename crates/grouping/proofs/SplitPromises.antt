-- What a split promises of its parts, and that every split of a grouping keeps that. Assumes nothing.
use mathlib.Core.Path.{◌≡◌, refl, sym, ap, ◌∙◌}
use mathlib.Core.Bool.{Bool, true, false}
use mathlib.Core.List.{List, [], ◌∷◌, flatten}
use Prim.Native.Nat.{ℕ, suc, ◌≤◌, ◌<◌, min}
use native.Mathlib.Nat.{div-le_self}
use native.Mathlib.Omega.{arith}
use lib.Dec.{eqb}
use lib.Ieee.{lt}
use lib.ListN.{length, get_or, length-map}
use Rattle.sums.specs.Tables.{up_to}
use Rattle.sums.specs.Rows.{rows_at}
use Rattle.sums.specs.Sums.{zero32}
use Rattle.sums.proofs.Tables.{up_length}
use Rattle.sums.proofs.Weighs.{weigh, one, count_of, Same, weigh_append, weigh_length}
use Rattle.sums.proofs.Counts.{Distinct, count_up_lem, count_below}
use Rattle.sums.proofs.Picks.{below_up}
use Rattle.labels.specs.declared.mode.Mode.{Mode}
use Rattle.kmeans.specs.KMeans.{Result, for_grouping}
use Rattle.kmeans.proofs.Promises.{labels_below}
use Rattle.grouping.specs.Parts.{gathered, sizes_of, flat}
use Rattle.grouping.specs.Balance.{share, allowed, moves, toward}
use Rattle.grouping.specs.Groups.{Rule, balance_if, split_run, parts_of, made_by, lost_by, waits}
use Rattle.grouping.proofs.Fair.{over_by, short_by}
use Rattle.grouping.proofs.Changed.{changed}
use Rattle.grouping.proofs.BalancePromises.{Promise, balance_promise, gathered_same, gathered_parts}
use Rattle.grouping.proofs.GroupPromises.{Comes, one_flat, one_long, comes_within}

-- ---- one split of a group after n draws

-- what k-means finds for the group's rows
abbrev pub found : Rule → ℕ → List ℕ → Result
found rule n g = (split_run rule n g).result

-- the rows gathered by its labels
abbrev pub labelled : Rule → ℕ → List ℕ → List (List ℕ)
labelled rule n g = gathered rule.branching g (found rule n g).labels

-- the share and the allowance of its parts, and how many rows balancing moves
abbrev pub share_of : Rule → List ℕ → ℕ
share_of rule g = share (length g) rule.branching

abbrev pub allowed_of : Rule → List ℕ → ℕ
allowed_of rule g = allowed (share_of rule g) rule.weight

abbrev pub moves_of : Rule → ℕ → List ℕ → ℕ
moves_of rule n g = moves (toward rule.rows (found rule n g).centroids) (share_of rule g) (allowed_of rule g) 10 (labelled rule n g)

-- With a weight above zero the labelled parts are balanced, and what is promised of balancing holds.
pub split_promise : (rule : Rule) (n : ℕ) (g : List ℕ) → lt zero32 rule.weight ≡ true → length g ≤ 4096
    → Promise (share_of rule g) (allowed_of rule g) (labelled rule n g) (parts_of rule n g) (moves_of rule n g)
unfolding parts_of balance_if
split_promise rule n g above few =
    rw above
    (balance_promise rule.rows (found rule n g).centroids (share_of rule g) rule.weight (labelled rule n g) (omega (arith, div-le_self (length g) rule.branching)) above)

-- With any other weight, a NaN too, the parts are the labelled ones as they are.
pub split_plain : (rule : Rule) (n : ℕ) (g : List ℕ) → lt zero32 rule.weight ≡ false → parts_of rule n g ≡ labelled rule n g
unfolding parts_of balance_if
split_plain rule n g e = rw e

-- The labelled parts together hold the group's rows.
labelled_kept : (rule : Rule) (n : ℕ) (g : List ℕ) → 0 < rule.branching → rule.branching ≤ length g → Same (flat (labelled rule n g)) g
labelled_kept rule n g some enough =
    let rows : length (rows_at rule.rows g) ≡ length g = length-map g (λ i. get_or rule.rows i []) in
    let l = labels_below rule.draws n (for_grouping rule.spherical) rule.branching rule.dim (rows_at rule.rows g) some (omega (arith, rows)) in
    gathered_same rule.branching g (found rule n g).labels (sym (l.0 ∙ rows)) l.1

-- The parts of a split together hold the group's rows: none is lost, doubled or made up; and there are as many parts as branching.
pub parts_kept : (rule : Rule) (n : ℕ) (g : List ℕ) → 0 < rule.branching → rule.branching ≤ length g → length g ≤ 4096
    → Same (flat (parts_of rule n g)) g × (length (parts_of rule n g) ≡ rule.branching)
parts_kept rule n g some enough few = go (lt zero32 rule.weight) refl
  where
    labelled_parts : length (labelled rule n g) ≡ rule.branching
    labelled_parts = gathered_parts rule.branching g (found rule n g).labels

    go : (b : Bool) → lt zero32 rule.weight ≡ b → Same (flat (parts_of rule n g)) g × (length (parts_of rule n g) ≡ rule.branching)
    go true e = let p = split_promise rule n g e few in ((λ f. p.rows f ∙ labelled_kept rule n g some enough f), p.parts ∙ labelled_parts)
    go false e = rw (split_plain rule n g e) (labelled_kept rule n g some enough, labelled_parts)

-- ---- the splits of a grouping

-- where a grouping starts: all rows wait as one group, or none where there is no row
abbrev pub start : Rule → List (List ℕ)
start rule = waits (up_to (length rule.rows)) []

-- A grouping splits g after n draws, or is refused by 9 for it: it comes to g, oversize and with at least as many rows as branching, with a split left.
pub record Splits (mode : Mode) (rule : Rule) (limit budget n : ℕ) (g : List ℕ) : Type 0 where
  pub left : ℕ
  pub waiting : List (List ℕ)
  pub comes : Comes mode (parts_of rule) (made_by rule) (lost_by rule) limit rule.branching budget 0 (start rule) (suc left) n (g ∷ waiting)
  pub oversize : limit < length g
  pub enough : rule.branching ≤ length g

-- What is promised of such a split.
pub record SplitPromise (rule : Rule) (n : ℕ) (g : List ℕ) : Type 0 where
  -- the group's rows are rows of the call, none stands twice, and so there are no more of them
  pub real : (x : ℕ) → length rule.rows ≤ x → count_of x g ≡ 0
  pub once : Distinct g
  pub few : length g ≤ length rule.rows
  -- the parts hold the group's rows, and there are as many as branching
  pub same : Same (flat (parts_of rule n g)) g
  pub parts : length (parts_of rule n g) ≡ rule.branching
  -- balancing keeps its promise where the weight is above zero, and otherwise the parts are the labelled ones
  pub balanced : lt zero32 rule.weight ≡ true → Promise (share_of rule g) (allowed_of rule g) (labelled rule n g) (parts_of rule n g) (moves_of rule n g)
  pub plain : lt zero32 rule.weight ≡ false → parts_of rule n g ≡ labelled rule n g
  -- the row numbers that stand in another part than their label's are exactly the least of ten, the total over the allowance and the total short of the share
  pub moved : lt zero32 rule.weight ≡ true → changed (labelled rule n g) (parts_of rule n g)
      ≡ min 10 (min (over_by (allowed_of rule g) (sizes_of (labelled rule n g))) (short_by (share_of rule g) (sizes_of (labelled rule n g))))

-- The group split weighs no more than the rows of the call.
split_within : (mode : Mode) (rule : Rule) (limit budget n : ℕ) (g : List ℕ) → 0 < rule.branching → length rule.rows ≤ 4096 → Splits mode rule limit budget n g
    → (f : ℕ → ℕ) → weigh f g ≤ weigh f (up_to (length rule.rows))
unfolding flatten
split_within mode rule limit budget n g some few s f =
    let first : flatten (start rule) ≡ up_to (length rule.rows) = one_flat (up_to (length rule.rows)) in
    let b : length (flatten (start rule)) ≤ 4096 = rw (one_long (length rule.rows)) few in
    let w = comes_within mode (parts_of rule) (made_by rule) (lost_by rule) limit rule.branching 4096 (λ n g k l. (parts_kept rule n g some k l).0) s.comes b f in
    omega (arith, weigh_append f g (flatten s.waiting), ap (weigh f) first, w)

-- Every split of a grouping, accepted or refused, keeps the promise.
pub each_split : (mode : Mode) (rule : Rule) (limit budget n : ℕ) (g : List ℕ) → 0 < rule.branching → length rule.rows ≤ 4096 → Splits mode rule limit budget n g → SplitPromise rule n g
each_split mode rule limit budget n g some few s =
    let rows = length rule.rows in
    let within = split_within mode rule limit budget n g some few s in
    let l : length g ≤ rows = omega (arith, within (λ _. 1), weigh_length g, weigh_length (up_to rows), up_length rows) in
    let k = parts_kept rule n g some s.enough (omega arith) in
    record {
      real = λ x h. omega (arith, within (λ y. one (eqb y x)), count_below rows x (up_to rows) (below_up rows) h);
      once = λ x. omega (arith, within (λ y. one (eqb y x)), count_up_lem x rows);
      few = l;
      same = k.0;
      parts = k.1;
      balanced = λ above. split_promise rule n g above (omega arith);
      plain = λ e. split_plain rule n g e;
      moved = λ above.
          let p = split_promise rule n g above (omega arith) in
          let once : Distinct (flat (labelled rule n g)) = λ x. omega (arith, labelled_kept rule n g some s.enough (λ y. one (eqb y x)), within (λ y. one (eqb y x)), count_up_lem x rows) in
          p.numbers once ∙ p.count;
    }
