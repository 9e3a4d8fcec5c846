-- With `spherical` off a grouping is that of before 02 (iv): its splits are by the k-means of before. Assumes nothing.
use mathlib.Core.Path.{◌≡◌, refl, ap, fun_ext}
use mathlib.Core.Bool.{false}
use mathlib.Core.List.{List, []}
use Prim.Native.Nat.{ℕ}
use lib.Ieee.{Float}
use lib.ListN.{length}
use Rattle.sums.specs.Rows.{rows_from, rows_at}
use Rattle.sums.specs.Tables.{up_to}
use Rattle.sums.specs.Refusals.{Answer, unless}
use Rattle.labels.specs.declared.mode.Mode.{Mode}
use Rattle.kmeans.specs.KMeans.{Run, for_grouping}
use Rattle.kmeans.proofs.Before.{kmeans_before, kmeans_off}
use Rattle.grouping.specs.declared.config.GroupingConfig.{GroupingConfig}
use Rattle.grouping.specs.Parts.{gathered}
use Rattle.grouping.specs.Balance.{share}
use Rattle.grouping.specs.Groups.{Rule, rule_of, Groups, balance_if, split_run, parts_of, made_by, lost_by, waits, group_from, grouping}
use Rattle.grouping.specs.Call.{grouping_refusal, grouping_call}

-- the k-means of one split after n draws
abbrev run_before : Rule → ℕ → List ℕ → Run
run_before rule n group = kmeans_before rule.draws n (for_grouping false) rule.branching rule.dim (rows_at rule.rows group)

-- the split, the draws made after it, and the rows that it left unplaced
unfoldable pub parts_before : Rule → ℕ → List ℕ → List (List ℕ)
parts_before rule n group =
    let found = (run_before rule n group).result in
    balance_if rule.rows found.centroids (share (length group) rule.branching) rule.weight (gathered rule.branching group found.labels)

unfoldable pub made_before : Rule → ℕ → List ℕ → ℕ
made_before rule n group = (run_before rule n group).made

unfoldable pub lost_before : Rule → ℕ → List ℕ → ℕ
lost_before rule n group = (run_before rule n group).result.unplaced

-- all rows wait as one group, or none where there is no row
abbrev pub grouping_before : Mode → Rule → ℕ → ℕ → Answer Groups
grouping_before mode rule limit budget =
    group_from mode (parts_before rule) (made_before rule) (lost_before rule) limit rule.branching budget 0 (waits (up_to (length rule.rows)) [])

module _ (rule : Rule) (off : rule.spherical ≡ false) where
  run_off : (n : ℕ) (group : List ℕ) → split_run rule n group ≡ run_before rule n group
  run_off n group = rw off (kmeans_off (for_grouping false) refl rule.draws n rule.branching rule.dim (rows_at rule.rows group))

  parts_off : (n : ℕ) (group : List ℕ) → parts_of rule n group ≡ parts_before rule n group
  unfolding parts_of parts_before
  parts_off n group = rw (run_off n group)

  made_off : (n : ℕ) (group : List ℕ) → made_by rule n group ≡ made_before rule n group
  unfolding made_by made_before
  made_off n group = ap (λ (r : Run). r.made) (run_off n group)

  lost_off : (n : ℕ) (group : List ℕ) → lost_by rule n group ≡ lost_before rule n group
  unfolding lost_by lost_before
  lost_off n group = ap (λ (r : Run). r.result.unplaced) (run_off n group)

  pub grouping_off : (mode : Mode) (limit budget : ℕ) → grouping mode rule limit budget ≡ grouping_before mode rule limit budget
  grouping_off mode limit budget =
      let p : parts_of rule ≡ parts_before rule = fun_ext (λ n. fun_ext (parts_off n)) in
      let m : made_by rule ≡ made_before rule = fun_ext (λ n. fun_ext (made_off n)) in
      let l : lost_by rule ≡ lost_before rule = fun_ext (λ n. fun_ext (lost_off n)) in
      rw (p, m, l)

-- The call, whatever is lent: its refusals are those of before too.
pub call_off : (rows dim : ℕ) (config : GroupingConfig) (draws : List ℕ) (values : List Float) (lent : List ℕ) → config.spherical ≡ false
    → grouping_call rows dim config draws values lent
    ≡ unless (grouping_refusal rows dim config (length draws) (length values) lent)
    (grouping_before config.mode (rule_of draws dim (rows_from dim rows values) config.branching config.weight false) config.limit config.budget)
unfolding grouping_call
call_off rows dim config draws values lent off =
    rw off (ap (unless _) (grouping_off (rule_of draws dim (rows_from dim rows values) config.branching config.weight false) refl config.mode config.limit config.budget))
