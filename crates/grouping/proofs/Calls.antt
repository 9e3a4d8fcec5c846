-- A grouping call: what its tests tell of its numbers, and what each answer gives. Assumes nothing.
use mathlib.Core.Path.{◌≡◌, sym, ap, ◌∙◌}
use mathlib.Core.Bool.{true}
use mathlib.Core.List.{List, flatten, flat_map}
use Prim.Native.Nat.{ℕ, ◌≤◌, ◌<◌}
use native.Mathlib.Omega.{arith}
use lib.Ieee.{Float}
use lib.ListN.{length, take, replicate}
use Rattle.sums.specs.Rows.{rows_from}
use Rattle.sums.specs.Table.{rows_of}
use Rattle.sums.specs.declared.readings.Rows.{Rows}
use Rattle.sums.specs.Sums.{zero32}
use Rattle.sums.specs.Refusals.{Answer, accepted, refused, unless, on_accepted, padded, cells_of, blank_cell}
use Rattle.sums.proofs.Refusing.{both, within_is, padded_all, padded_none}
use Rattle.grouping.specs.declared.config.GroupingConfig.{GroupingConfig}
use Rattle.std.specs.Prelude.{Result, Ok, Err}
use Rattle.sums.specs.declared.refusals.Refusal.{Refusal}
use Rattle.sums.specs.Refused.{number_of, told}
use Rattle.sums.proofs.Told.{unless_number}
use Rattle.grouping.specs.declared.waiting.Counts.{Counts}
use Rattle.grouping.specs.Groups.{rule_of, Groups, grouping, ends_from, mean_of}
use Rattle.grouping.specs.Inside.{Grouped}
use Rattle.grouping.specs.Answers.{counted, figures}
use Rattle.grouping.specs.Call.{ranges_fit, grouping_refusal, grouping_call, Gives}
use Rattle.grouping.proofs.Acceptances.{taken}

-- ---- the numbers of a call that refusal 1 lets through
pub record Ranged (rows dim : ℕ) (config : GroupingConfig) : Type 0 where
  pub few_rows : rows ≤ 4096
  pub some_dim : 0 < dim
  pub small_dim : dim ≤ 64
  pub some : 0 < config.branching
  pub few : config.branching ≤ 64
  pub few_splits : config.budget ≤ 8192

pub ranged : (rows dim : ℕ) (config : GroupingConfig) → ranges_fit rows dim config ≡ true → Ranged rows dim config
unfolding ranges_fit
ranged rows dim config e =
    let d = both _ _ e in
    let c = both _ _ d.0 in
    let b = both _ _ c.0 in
    let a = both _ _ b.0 in
    record {
      few_rows = (within_is 0 4096 rows a.0).1;
      some_dim = (within_is 1 64 dim a.1).0;
      small_dim = (within_is 1 64 dim a.1).1;
      some = (within_is 1 64 config.branching c.1).0;
      few = (within_is 1 64 config.branching c.1).1;
      few_splits = (within_is 0 8192 config.budget d.1).1;
    }

-- ---- what each answer gives

module _ (answer : Answer Groups) (rows : Rows) (order ends : List ℕ) (mean_room : ℕ) where
  pub gives_listed : (counts : Counts) (means : List Float) → length ends ≡ length order → Grouped answer (length order) (Ok counts) order ends
      → ((gs : List (List ℕ)) → order ≡ flatten gs → take counts.groups ends ≡ ends_from 0 gs → means ≡ padded zero32 mean_room (flat_map (mean_of rows.dim (rows_of rows)) gs))
      → Gives answer rows.dim (rows_of rows) (length order) (length ends) mean_room (Ok counts) order ends means
  unfolding cells_of
  gives_listed counts means e h m =
      let t = taken answer (length order) counts order ends h in
      record {
        result = h.result;
        ordered = rw t.is (t.laid ∙ sym (padded_all blank_cell (length order) (flatten t.g.groups) (ap length (sym t.laid))));
        ended = rw (t.is, e) t.cells;
        meant = rw t.is (m t.g.groups t.laid t.ended);
      }

  pub gives_blank : (refusal : Refusal) (order' ends' : List ℕ) (means : List Float) → Grouped answer (length order) (Err refusal) order ends
      → order' ≡ replicate (length order) blank_cell → ends' ≡ replicate (length ends) blank_cell → means ≡ replicate mean_room zero32
      → Gives answer rows.dim (rows_of rows) (length order) (length ends) mean_room (Err refusal) order' ends' means
  unfolding on_accepted cells_of
  gives_blank refusal order' ends' means h o e m = go answer h.result
    where
      go : (a : Answer Groups) → told counted (Err refusal) ≡ on_accepted figures a
          → Gives a rows.dim (rows_of rows) (length order) (length ends) mean_room (Err refusal) order' ends' means
      go (accepted g) r = let z : ◌≡◌ {A = ℕ} 0 1 = cc in absurd (omega arith)
      go (refused other) r = record {
        result = r;
        ordered = o ∙ sym (padded_none blank_cell (length order));
        ended = e ∙ sym (padded_none blank_cell (length ends));
        meant = m ∙ sym (padded_none zero32 mean_room);
      }

module _ (rows dim : ℕ) (config : GroupingConfig) (draws : List ℕ) (values : List Float) (lent : List ℕ) where
  abbrev called : Answer Groups
  called = grouping_call rows dim config draws values lent

  pub gives_refused : (order_room end_room mean_room : ℕ) (refusal : Refusal) (order ends : List ℕ) (means : List Float)
      → number_of refusal ≡ grouping_refusal rows dim config (length draws) (length values) lent
      → order ≡ replicate order_room blank_cell → ends ≡ replicate end_room blank_cell → means ≡ replicate mean_room zero32
      → Gives called dim (rows_from dim rows values) order_room end_room mean_room (Err refusal) order ends means
  unfolding grouping_call on_accepted cells_of
  gives_refused order_room end_room mean_room refusal order ends means e o d m =
      let u = unless_number refusal (grouping config.mode (rule_of draws dim (rows_from dim rows values) config.branching config.weight config.spherical) config.limit config.budget) in
      record {
        result = rw (← e, u);
        ordered = o ∙ rw (← e, u) (sym (padded_none blank_cell order_room));
        ended = d ∙ rw (← e, u) (sym (padded_none blank_cell end_room));
        meant = m ∙ rw (← e, u) (sym (padded_none zero32 mean_room));
      }

  pub gives_called : {r : Result Counts Refusal} {order ends : List ℕ} {means : List Float} (order_room end_room mean_room : ℕ)
      → grouping_refusal rows dim config (length draws) (length values) lent ≡ 0
      → Gives (grouping config.mode (rule_of draws dim (rows_from dim rows values) config.branching config.weight config.spherical) config.limit config.budget) dim
      (rows_from dim rows values) order_room end_room mean_room r order ends means
      → Gives called dim (rows_from dim rows values) order_room end_room mean_room r order ends means
  unfolding grouping_call unless
  gives_called order_room end_room mean_room e g = rw e g
