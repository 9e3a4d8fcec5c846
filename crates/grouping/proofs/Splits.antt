-- One split, on lists: k-means, the rows gathered and balanced put together. Assumes nothing.
use mathlib.Core.Path.{◌≡◌, refl, sym, ap, ◌∙◌}
use mathlib.Core.Bool.{Bool, true}
use mathlib.Core.List.{List, [], ◌++◌}
use Prim.Native.Nat.{ℕ, ◌+◌, ◌*◌, ◌≤◌, ◌<◌}
use native.Mathlib.Omega.{arith}
use lib.Ieee.{Float, lt}
use lib.ListN.{length, take, drop, get_or, length-map}
use Rattle.sums.specs.Rows.{Row, rows_at}
use Rattle.sums.specs.Cells.{Below}
use Rattle.sums.specs.Sums.{zero32}
use Rattle.sums.proofs.Fronts.{Front, front, lent_front}
use Rattle.sums.proofs.Passes.{cursor_own}
use Rattle.std.specs.Prelude.{Result as Outcome, Ok, Err}
use Rattle.std.specs.Result.{is_err}
use Rattle.sums.proofs.Told.{number_some}
use Rattle.sums.specs.Draws.{Drawn}
use Rattle.sums.specs.declared.cursor.Draws.{Draws}
use Rattle.sums.specs.declared.refusals.Refusal.{Refusal}
use Rattle.sums.specs.Refused.{number_in}
use Rattle.labels.specs.declared.mode.Mode.{Mode}
use Rattle.labels.specs.Mode.{unplaced_refusal}
use Rattle.kmeans.specs.declared.config.KMeansConfig.{KMeansConfig}
use Rattle.kmeans.specs.declared.call.Outcome.{Outcome as Kept}
use Rattle.kmeans.specs.Inside.{Limits, held_of}
use Rattle.kmeans.specs.KMeans.{Result, kmeans, for_grouping}
use Rattle.kmeans.proofs.Promises.{labels_below, unplaced_most}
use Rattle.grouping.specs.Parts.{gathered, flat}
use Rattle.grouping.specs.Balance.{share, balance}
use Rattle.grouping.specs.Groups.{Rule, rule_of, balance_if, parts_of, made_by, lost_by}
use Rattle.grouping.specs.PartsInside.{Laid}
use Rattle.grouping.specs.Inside.{Split, Tried}
use Rattle.grouping.specs.declared.split.Divided.{Divided}
use Rattle.grouping.proofs.Lists.{below_same}
use Rattle.grouping.proofs.Gathers.{gathered_length}
use Rattle.grouping.proofs.BalancePromises.{gathered_same}

-- ---- balancing where the weight is above zero
pub balanced_above : (rows centroids : List Row) (share : ℕ) (weight : Float) (ps : List (List ℕ)) {part sizes : List ℕ} → lt zero32 weight ≡ true
    → Laid (balance rows centroids share weight ps) part sizes → Laid (balance_if rows centroids share weight ps) part sizes
unfolding balance_if
balanced_above rows centroids share weight ps e l = rw e l

-- ---- the labels that k-means gives

-- k-means was run, from one state of the draws to the next
abbrev pub Ran : KMeansConfig → ℕ → ℕ → List Row → Draws → Draws → Kept → List ℕ → List Row → Type 0
Ran config k dim rows old new r labels centroids =
    Drawn old new (held_of labels centroids r) (λ n. (kmeans old.list.now n config k dim rows).result) (λ n. (kmeans old.list.now n config k dim rows).made)

-- each row of the group has a label, one of k, and so the rows gathered are the group's
pub record Labelled (rows k : ℕ) (group labels : List ℕ) : Type 0 where
  pub each : length group ≡ length labels
  pub among : Below k labels
  pub below : Below rows (flat (gathered k group labels))
  pub whole : length (flat (gathered k group labels)) ≡ length group

labelled_by : (rows k : ℕ) (group labels : List ℕ) → Below rows group → length group ≡ length labels → Below k labels → Labelled rows k group labels
labelled_by rows k group labels inside e b = record {
  each = e;
  among = b;
  below = below_same rows (flat (gathered k group labels)) group (gathered_same k group labels e b) inside;
  whole = gathered_length k group labels e b;
}

pub labelled : {k : ℕ} (config : KMeansConfig) (dim : ℕ) {old new : Draws} (kept : Kept) {labels : List ℕ} {centroids : List Row} (rows : ℕ) (table : List Row) (group : List ℕ)
    → old.cursor.at < length old.list.now → old.cursor.pass < 4294967296 → 0 < k → k ≤ length group → Below rows group → Ran config k dim (rows_at table group) old new kept labels centroids
    → Labelled rows k group labels
labelled {k} config dim {old} {new} kept {labels} rows table group inside bits some enough below ran =
    let l = length-map group (λ i. get_or table i []) in
    let draws = old.list.now in
    let n = old.cursor.at + old.cursor.pass * length draws in
    let e = ap (λ (r : Result). r.labels) (ran.steps n (cursor_own draws old.cursor inside bits)).0 in
    let found : (length labels ≡ length group) × Below k labels
    = rw e (rw l at (labels_below draws n config k dim (rows_at table group) some (rw l enough))) in
    labelled_by rows k group labels below (sym found.0) found.1

-- ---- the split

-- a front of a room that was lent is what came back
pub came_back : {A : Type 0} (n m : ℕ) (room xs : List A) → m ≡ length room → n ≤ m → length xs ≡ length (take n room) → Front n (xs ++ drop n room) xs
came_back n m room xs e h l = front refl (l ∙ lent_front n m room e h) (drop n room)

-- the rows are gathered from a copy of the group and by labels that came back
pub gather_space : {rows k : ℕ} {group labels copied lent : List ℕ} → copied ≡ group → lent ≡ labels → Labelled rows k group labels → length group ≤ 4096
    → (length copied ≡ length lent) × ((length group ≡ length copied) × ((length copied < 65536) × Below k lent))
gather_space p l f few = rw (p, l) (f.each, (refl, (omega (arith, few), f.among)))

pub gathered_laid : (k : ℕ) {group labels copied lent part sizes : List ℕ} → copied ≡ group → lent ≡ labels → Laid (gathered k copied lent) part sizes → Laid (gathered k group labels) part sizes
gathered_laid k p l h = rw (p, l) at h

-- A split leaves no more rows unplaced than the group has.
pub lost_few : (rule : Rule) (n : ℕ) (group : List ℕ) → lost_by rule n group ≤ length group
unfolding lost_by
lost_few rule n group =
    rw (length-map group (λ i. get_or rule.rows i [])) at
    (unplaced_most rule.draws n (for_grouping rule.spherical) rule.branching rule.dim (rows_at rule.rows group))

-- the slices of a split are those of a k-means run
pub split_space : {dim k rows n labels gathered centroids training : ℕ} (config : KMeansConfig) → Limits dim k rows → n ≤ 4096 → k ≤ n → labels ≡ n → gathered ≡ n * dim → centroids ≡ k * dim → training ≡ n * dim
    → (spherical : Bool) → config ≡ for_grouping spherical
    → (Limits dim k labels × ((k ≤ labels) × ((config.max_points_per_centroid ≤ 4096) × (0 < config.decode_block_size))))
    × ((gathered ≡ labels * dim) × ((centroids ≡ k * dim) × (training ≡ labels * dim)))
split_space config l few enough e g c t spherical f = rw (e, f) (((l.0, (l.1.0, few)), (enough, (omega arith, omega arith))), (g, (c, t)))

-- what a split gives by k-means and by the test of the rows that it left unplaced
pub divided_done : {k : ℕ} (mode : Mode) (dim : ℕ) {group labels : List ℕ} {old new : Draws} (kept : Kept) {centroids : List Row} (table : List Row) (weight : Float) (spherical : Bool) {part sizes : List ℕ} (r : Divided)
    → old.cursor.at < length old.list.now → old.cursor.pass < 4294967296 → length group ≤ 4096
    → Ran (for_grouping spherical) k dim (rows_at table group) old new kept labels centroids
    → r.unplaced ≡ kept.unplaced → number_in r.done ≡ unplaced_refusal mode kept.unplaced
    → (number_in r.done ≡ 0 → Laid (balance_if table centroids (share (length group) k) weight (gathered k group labels)) part sizes)
    → Split mode (rule_of old.list.now dim table k weight spherical) group old new r part sizes
unfolding parts_of made_by lost_by
divided_done {k} mode dim {group} {old = old} kept table weight spherical r inside bits few ran same refused b =
    let draws = old.list.now in
    let rule = rule_of draws dim table k weight spherical in
    let n = old.cursor.at + old.cursor.pass * length draws in
    let lost : kept.unplaced ≡ lost_by rule n group = ap (λ (r : Result). r.unplaced) (ran.steps n (cursor_own draws old.cursor inside bits)).0 in
    record {
      kept = ran.kept;
      few = omega (arith, same, lost, lost_few rule n group);
      steps = λ n p.
          let w = ran.steps n p in
          let u : kept.unplaced ≡ lost_by rule n group = ap (λ (r : Result). r.unplaced) w.0 in
          ((refused ∙ ap (unplaced_refusal mode) u, λ e. rw (← ap (λ (r : Result). r.labels) w.0, ← ap (λ (r : Result). r.centroids) w.0) (b e)), (w.1, same ∙ u));
    }

-- what is refused has a number
pub refused_some : {A : Type 0} (r : Outcome A Refusal) → is_err r ≡ true → number_in r ≡ 0 → ⊥
refused_some (Ok x) e n = cc
refused_some (Err x) e n = omega (arith, number_some x, n)

-- The result alone is told as `Tried` has it: the unplaced rows, where they do not refuse the group, or the refusal.
pub tried_of : {mode : Mode} {rule : Rule} {group : List ℕ} {old new : Draws} (d : Divided) {part sizes : List ℕ} (r : Outcome ℕ Refusal)
    → number_in r ≡ number_in d.done → ((unplaced : ℕ) → r ≡ Ok unplaced → unplaced ≡ d.unplaced)
    → Split mode rule group old new d part sizes → Tried mode rule group old new r part sizes
tried_of d r same told s =
    record {
      kept = s.kept;
      few = λ u e. omega (arith, told u e, s.few);
      steps = λ n p.
          let w = s.steps n p in
          ((same ∙ w.0.0, w.1.0), λ u e. (told u e ∙ w.1.1, w.0.1 (sym same ∙ ap number_in e)));
    }

-- and so what a split gives by k-means and by the test of its unplaced rows is told of a result
pub split_done : {k : ℕ} (mode : Mode) (dim : ℕ) {group labels : List ℕ} {old new : Draws} (kept : Kept) {centroids : List Row} (table : List Row) (weight : Float) (spherical : Bool) {part sizes : List ℕ} (r : Outcome ℕ Refusal)
    → old.cursor.at < length old.list.now → old.cursor.pass < 4294967296 → length group ≤ 4096
    → Ran (for_grouping spherical) k dim (rows_at table group) old new kept labels centroids
    → number_in r ≡ unplaced_refusal mode kept.unplaced
    → ((unplaced : ℕ) → r ≡ Ok unplaced → (unplaced ≡ kept.unplaced) × Laid (balance_if table centroids (share (length group) k) weight (gathered k group labels)) part sizes)
    → Tried mode (rule_of old.list.now dim table k weight spherical) group old new r part sizes
split_done mode dim kept table weight spherical (Ok unplaced) inside bits few ran refused b =
    let d : Divided = record { unplaced = kept.unplaced; done = Ok tt } in
    tried_of d (Ok unplaced) refl (λ u e. (b u e).0) (divided_done mode dim kept table weight spherical d inside bits few ran refl refused (λ e. (b unplaced refl).1))
split_done mode dim kept table weight spherical (Err x) inside bits few ran refused b =
    let d : Divided = record { unplaced = kept.unplaced; done = Err x } in
    tried_of d (Err x) refl (λ u e. absurd cc) (divided_done mode dim kept table weight spherical d inside bits few ran refl refused (λ e. absurd (omega (arith, number_some x, e))))
