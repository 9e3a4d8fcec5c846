-- A k-means call: what its tests tell of its numbers, and what each answer gives. Assumes nothing.
use mathlib.Core.Path.{◌≡◌, sym, ◌∙◌}
use mathlib.Core.Bool.{true}
use mathlib.Core.List.{List, [], ◌∷◌}
use Prim.Native.Nat.{ℕ, ◌*◌, ◌≤◌, ◌<◌}
use borrow.Author.Tests.{leb-true}
use lib.Ieee.{Float}
use lib.ListN.{length, replicate}
use Rattle.std.specs.Prelude.{Result, Ok, Err}
use Rattle.sums.specs.declared.cursor.Draws.{Draws}
use Rattle.sums.specs.declared.refusals.Refusal.{Refusal}
use Rattle.sums.specs.Draws.{cursor_at}
use Rattle.sums.specs.Rows.{rows_from}
use Rattle.sums.specs.Sums.{zero32}
use Rattle.sums.specs.Refusals.{Answer, accepted, refused, unless, on_accepted, cells_of, blank_cell}
use Rattle.sums.specs.Refused.{number_of, number_in}
use Rattle.sums.proofs.Told.{unless_refused, unless_passed}
use Rattle.sums.proofs.Rows.{rows_flat}
use Rattle.sums.proofs.Refusing.{both, within_is, same_cons, passed, padded_all, padded_none}
use Rattle.labels.specs.declared.mode.Mode.{Mode}
use Rattle.labels.specs.Mode.{unplaced_refusal}
use Rattle.kmeans.specs.declared.config.KMeansConfig.{KMeansConfig}
use Rattle.kmeans.specs.declared.call.Outcome.{Outcome}
use Rattle.kmeans.specs.KMeans.{Result as Kept, kmeans}
use Rattle.kmeans.specs.Inside.{Limits, held_of}
use Rattle.kmeans.specs.Call.{ranges_fit, lengths_fit, kmeans_refusal, kmeans_call, Gives}
use Rattle.kmeans.proofs.Restarts.{Ran}

-- ---- the numbers of a call that refusal 1 lets through
pub record Ranged (rows dim k : ℕ) (config : KMeansConfig) : Type 0 where
  pub few_rows : rows ≤ 4096
  pub some_dim : 0 < dim
  pub small_dim : dim ≤ 64
  pub some : 0 < k
  pub few : k ≤ 64
  pub some_iterations : 0 < config.niter
  pub few_points : config.max_points_per_centroid ≤ 4096
  pub some_block : 0 < config.decode_block_size

pub ranged : (rows dim k : ℕ) (config : KMeansConfig) → ranges_fit rows dim k config ≡ true → Ranged rows dim k config
unfolding ranges_fit
ranged rows dim k config e =
    let g = both _ _ e in
    let f = both _ _ g.0 in
    let d = both _ _ f.0 in
    let c = both _ _ d.0 in
    let b = both _ _ c.0 in
    let a = both _ _ b.0 in
    record {
      few_rows = (within_is 1 4096 rows a.0).1;
      some_dim = (within_is 1 64 dim a.1).0;
      small_dim = (within_is 1 64 dim a.1).1;
      some = (within_is 1 64 k b.1).0;
      few = (within_is 1 64 k b.1).1;
      some_iterations = (within_is 1 100 config.niter c.1).0;
      few_points = (within_is 0 4096 config.max_points_per_centroid f.1).1;
      some_block = (within_is 1 32768 config.decode_block_size g.1).0;
    }

-- ---- the slices of a call that refusal 2 lets through
pub lengthed : (rows dim k values labels centroids training : ℕ) → lengths_fit rows dim k values (labels ∷ centroids ∷ training ∷ []) ≡ true
    → (values ≡ rows * dim) × ((labels ≡ rows) × ((centroids ≡ k * dim) × (training ≡ rows * dim)))
unfolding lengths_fit
lengthed rows dim k values labels centroids training e =
    let v = same_cons _ _ _ _ e in
    let l = same_cons _ _ _ _ v.1 in
    let c = same_cons _ _ _ _ l.1 in
    (v.0, (l.0, (c.0, (same_cons _ _ _ _ c.1).0)))

-- ---- an accepted call has room, rows and draws enough
pub record Fitting (rows dim k : ℕ) (config : KMeansConfig) (draws values labels centroids training : ℕ) : Type 0 where
  pub labels_are : labels ≡ rows
  pub limits : Limits dim k labels × ((k ≤ labels) × ((config.max_points_per_centroid ≤ 4096) × (0 < config.decode_block_size)))
  pub cells : (values ≡ labels * dim) × ((centroids ≡ k * dim) × (training ≡ labels * dim))
  pub some_draws : 0 < draws

pub fitting : (rows dim k : ℕ) (config : KMeansConfig) (draws values labels centroids training : ℕ)
    → kmeans_refusal rows dim k config draws values (labels ∷ centroids ∷ training ∷ []) ≡ 0 → Fitting rows dim k config draws values labels centroids training
unfolding kmeans_refusal
fitting rows dim k config draws values labels centroids training e =
    let held = passed 0 _ e in
    let r = ranged rows dim k config held.0 in
    let l = lengthed rows dim k values labels centroids training held.1.0 in
    record {
      labels_are = l.1.0;
      limits = rw l.1.0 (((r.some_dim, r.small_dim), ((r.some, r.few), r.few_rows)), (leb-true k rows held.1.1.0, (r.few_points, r.some_block)));
      cells = rw l.1.0 (l.0, l.1.1);
      some_draws = (within_is 1 4096 draws held.1.1.1.0).0;
    }

-- ---- what each answer gives

module _ (mode : Mode) (rows dim k : ℕ) (config : KMeansConfig) (draws : List ℕ) (values : List Float) (label_cells centroid_cells training_cells : ℕ) where
  abbrev lent : List ℕ
  lent = label_cells ∷ centroid_cells ∷ training_cells ∷ []

  abbrev call : Answer Kept
  call = kmeans_call mode rows dim k config draws values lent

  -- what the call gives, where its answer is that
  abbrev Given : Result Outcome Refusal → List ℕ → List Float → Type 0
  Given r labels centroids = Gives call label_cells centroid_cells r labels centroids

  -- a refusal, and blank cells
  given_refused : (r : Refusal) (labels : List ℕ) (centroids : List Float) → call ≡ refused (number_of r) → labels ≡ replicate label_cells blank_cell → centroids ≡ replicate centroid_cells zero32
      → Given (Err r) labels centroids
  unfolding on_accepted cells_of
  given_refused r labels centroids e l c = record {
    result = rw e;
    labelled = l ∙ rw e (sym (padded_none blank_cell label_cells));
    centred = c ∙ rw e (sym (padded_none zero32 centroid_cells));
  }

  pub gives_refused : {B : Type 0} (tested : Result B Refusal) (r : Refusal) (labels : List ℕ) (centroids : List Float) → tested ≡ Err r
      → number_in tested ≡ kmeans_refusal rows dim k config (length draws) (length values) lent
      → labels ≡ replicate label_cells blank_cell → centroids ≡ replicate centroid_cells zero32 → Given (Err r) labels centroids
  unfolding kmeans_call
  gives_refused tested r labels centroids e h l c = given_refused r labels centroids (unless_refused _ _ tested r e h) l c

  -- the run was made: what its slices held then, each as long as it was lent
  module _
      (old new : Draws) (r : Outcome) (ran : List ℕ) (means : List Float) (e : kmeans_refusal rows dim k config (length draws) (length values) lent ≡ 0)
      (same : old.list.now ≡ draws) (s : old.cursor ≡ cursor_at draws 0) (l : length ran ≡ label_cells) (c : length means ≡ centroid_cells)
      (g : Ran old new config k dim (rows_from dim rows values) r ran (rows_from dim k means)) where
    f : Fitting rows dim k config (length draws) (length values) label_cells centroid_cells training_cells
    f = fitting rows dim k config (length draws) (length values) label_cells centroid_cells training_cells e

    held : held_of ran (rows_from dim k means) r ≡ (kmeans draws 0 config k dim (rows_from dim rows values)).result
    held = rw same at (g.steps 0 (rw same s)).0

    pub gives_lost : {B : Type 0} (tested : Result B Refusal) (lost : Refusal) (labels : List ℕ) (centroids : List Float) → tested ≡ Err lost
        → number_in tested ≡ unplaced_refusal mode r.unplaced
        → labels ≡ replicate label_cells blank_cell → centroids ≡ replicate centroid_cells zero32 → Given (Err lost) labels centroids
    unfolding kmeans_call unless
    gives_lost tested lost labels centroids t u p q = given_refused lost labels centroids (rw (e, ← held) (unless_refused _ _ tested lost t u)) p q

    pub gives_run : {B : Type 0} (tested : Result B Refusal) (x : B) → tested ≡ Ok x → number_in tested ≡ unplaced_refusal mode r.unplaced → Given (Ok r) ran means
    unfolding kmeans_call unless on_accepted cells_of
    gives_run tested x t u =
        let w : call ≡ accepted (held_of ran (rows_from dim k means) r) = rw (e, ← held) (unless_passed _ _ tested x t u) in
        record {
          result = rw w;
          labelled = rw w (sym (padded_all blank_cell label_cells ran l));
          centred = rw (w, rows_flat dim k means (c ∙ f.cells.1.0)) (sym (padded_all zero32 centroid_cells means c));
        }
