-- The exported functions: refusals 1 and 2, cells as bytes, and from an answer to its number and bytes. Assumes nothing.
use Prim.Native.Nat.{ℕ, zero, suc, ◌+◌, ◌*◌, ◌≤◌, ◌<◌}
use mathlib.Core.Path.{◌≡◌, refl, sym, ap, ◌∙◌}
use mathlib.Core.List.{List, [], ◌∷◌, ◌++◌, flat_map}
use native.Mathlib.Omega.{arith}
use borrow.Author.Tests.{le-leb, eq-eqb}
use lib.ListN.{length, get_or, take, drop, replicate, length-append, length-drop, drop_of_length-le}
use lib.Seq.{take_all, take_at}
use lib.Ieee.{Float}
use Rattle.sums.specs.Rows.{Row, rows_from}
use Rattle.sums.specs.Refusals.{Answer, accepted, refused, lowest_from, unless, on_accepted, padded, cells_of, blank_cell}
use Rattle.words.specs.Bytes.{floats_from, bytes16}
use Rattle.words.proofs.ByteLaws.{floats_length}
use Rattle.labels.specs.declared.mode.Mode.{Mode}
use Rattle.labels.specs.Mode.{unplaced_refusal}
use Rattle.std.specs.Prelude.{Option, Result, Ok, Err}
use Rattle.labels.specs.declared.nearest.Nearest.{Nearest}
use Rattle.sums.specs.declared.refusals.Refusal.{Refusal}
use Rattle.sums.specs.Refused.{number_of, told, number_in}
use Rattle.labels.specs.Label.{nearest, nearests, label_in, labels_of, unplaced_of}
use Rattle.labels.specs.Call.{label_refusal as rows_refusal, label_call as rows_call, Gives as Labels}
use Rattle.sums.proofs.Whens.{not_both}
use Rattle.closure.specs.Call.{closure_call, Gives}
use Rattle.kmeans.specs.KMeans.{Result as Fit}
use Rattle.kmeans.specs.Call.{figures as kmeans_figures, Gives as KMeansGives}
use Rattle.kmeans.specs.declared.call.Outcome.{Outcome}
use Rattle.grouping.specs.Groups.{Groups}
use Rattle.grouping.specs.Answers.{counted, figures}
use Rattle.grouping.specs.declared.waiting.Counts.{Counts}
use Rattle.grouping.specs.Call.{Gives as GroupGives}
use Rattle.results.specs.Grouping.{Stored}
use Rattle.results.specs.Calls.{Writes, numbers_of, figures as read_figures}
use Rattle.results.specs.declared.reader.Numbers.{Numbers}
use Rattle.sums.specs.Sums.{zero32}
use Rattle.exports.specs.Exports.{code_of, figure_of, Gave, label_refusal, placement_of, label_by, label_call, closure_refusal, closure_bytes_call, closure_written, LabelsGave, KMeansGave, GroupGave, WriteGave, NumbersGave}
use Rattle.sums.proofs.Fronts.{flat_length}
use Rattle.sums.proofs.Told.{unless_number}

-- ---- cells as bytes
-- one number more behind the cells, up to the end
pub cells_last : (cells r r' : List ℕ) (n : ℕ) → length r ≡ length cells * 2 + 2 → r' ≡ take (length cells * 2) (flat_map bytes16 cells ++ drop (length cells * 2) r)
    ++ (bytes16 n ++ drop (length cells * 2 + 2) (flat_map bytes16 cells ++ drop (length cells * 2) r)) → r' ≡ flat_map bytes16 cells ++ bytes16 n
cells_last cells r r' n long e =
    let front = flat_length bytes16 2 (λ x. refl) cells in
    let few : length (flat_map bytes16 cells ++ drop (length cells * 2) r) ≤ length cells * 2 + 2 = rw length-append (omega (arith, front, length-drop (length cells * 2) r, long)) in
    e ∙ rw (take_at (flat_map bytes16 cells) (drop (length cells * 2) r) (length cells * 2) front, drop_of_length-le (flat_map bytes16 cells ++ drop (length cells * 2) r) {i = length cells * 2 + 2} few)

-- ---- from an answer to its number and bytes
-- of a result, told as an answer, it is the refusal's
pub code_told : {A B : Type 0} (figure : A → B) (r : Result A Refusal) → code_of (told figure r) ≡ number_in r
unfolding code_of
code_told figure (Ok x) = refl
code_told figure (Err refusal) = refl

-- an answer that tells less of an acceptance has the same number, and each of its figures is one of the whole
module _ {A B : Type 0} (f : A → B) where
  same_code : (answer : Answer A) (t : Answer B) → t ≡ on_accepted f answer → code_of t ≡ code_of answer
  unfolding on_accepted code_of
  same_code (accepted a) t e = ap code_of e
  same_code (refused number) t e = ap code_of e

  same_figure : {C : Type 0} (blank : C) (figure : B → C) (answer : Answer A) (t : Answer B) → t ≡ on_accepted f answer → figure_of blank figure t ≡ figure_of blank (λ (a : A). figure (f a)) answer
  unfolding on_accepted figure_of
  same_figure blank figure (accepted a) t e = ap (figure_of blank figure) e
  same_figure blank figure (refused number) t e = ap (figure_of blank figure) e

-- a labelling call's whole result, from the answer that it was told
pub label_gave : (answer : Answer (List (Option Nearest))) (n : ℕ) (r : Result ℕ Refusal) (cells : List ℕ) (number unplaced : ℕ) → Labels answer n r cells → number ≡ code_of (told (λ (m : ℕ). m) r)
    → unplaced ≡ figure_of 0 (λ (m : ℕ). m) (told (λ (m : ℕ). m) r) → LabelsGave answer n number cells unplaced
label_gave answer n r cells number unplaced g c f =
    (c ∙ same_code unplaced_of answer _ g.result, (g.labels, f ∙ same_figure unplaced_of 0 (λ (m : ℕ). m) answer _ g.result))

pub gave_refused : {A : Type 0} (written : A → List ℕ) (len n : ℕ) (result : List ℕ) → result ≡ replicate len 255 → Gave (refused n) len written n result
unfolding code_of figure_of
gave_refused written len n result e = (refl, e)

module _ (len k : ℕ) (cells result : List ℕ) where
  pub listed : (answer : Answer (List ℕ)) (n : ℕ) → Gives answer k (Ok n) cells → result ≡ flat_map bytes16 cells ++ bytes16 n
      → Gave answer len (closure_written k) 0 result
  unfolding on_accepted cells_of code_of figure_of closure_written
  listed (accepted indices) n g w =
      let is : ◌≡◌ {A = Answer ℕ} (accepted n) (accepted (length indices)) = g.result in
      let same : n ≡ length indices = cc in
      (refl, w ∙ rw (same, g.listing))
  listed (refused number) n g w =
      let is : ◌≡◌ {A = Answer ℕ} (accepted n) (refused number) = g.result in
      cc

  pub refusing : (answer : Answer (List ℕ)) (refusal : Refusal) → Gives answer k (Err refusal) cells → result ≡ replicate len 255
      → Gave answer len (closure_written k) (number_of refusal) result
  unfolding on_accepted code_of figure_of
  refusing (accepted indices) refusal g w =
      let is : ◌≡◌ {A = Answer ℕ} (refused (number_of refusal)) (accepted (length indices)) = g.result in
      cc
  refusing (refused number) refusal g w =
      let is : ◌≡◌ {A = Answer ℕ} (refused (number_of refusal)) (refused number) = g.result in
      (cc, w)

-- ---- closure's call
module _ (epsilon : Float) (replicas dim count : ℕ) (vector centroids : List ℕ) (result : ℕ) where
  pub call_refused : (refusal : Refusal) → number_of refusal ≡ closure_refusal dim count (length vector) (length centroids) result
      → closure_bytes_call epsilon replicas dim count vector centroids result ≡ refused (number_of refusal)
  unfolding closure_bytes_call
  call_refused refusal e = rw (← e) (unless_number refusal _)

  pub call_on : closure_refusal dim count (length vector) (length centroids) result ≡ 0
      → closure_bytes_call epsilon replicas dim count vector centroids result
      ≡ closure_call epsilon replicas dim count (floats_from dim vector) (floats_from (count * dim) centroids) count
  unfolding closure_bytes_call unless
  call_on e = rw e

-- ---- the label's call
module _ (mode : Mode) (dim k : ℕ) (row centroids : List ℕ) (result : ℕ) where
  pub label_refused : (refusal : Refusal) → number_of refusal ≡ label_refusal dim k (length row) (length centroids) result
      → label_call mode dim k row centroids result ≡ refused (number_of refusal)
  unfolding label_call
  label_refused refusal e = rw (← e) (unless_number refusal _)

  pub label_on : label_refusal dim k (length row) (length centroids) result ≡ 0 → label_call mode dim k row centroids result ≡ label_by mode (placement_of dim k row centroids)
  unfolding label_call unless
  label_on e = rw e

-- labelling of one row alone, inside the ranges, is the search's answer for it, where the mode allows that
one_row : (mode : Mode) (dim k : ℕ) (row centroids : List Float) → 0 < dim → dim ≤ 64 → 0 < k → k ≤ 64 → length row ≡ dim → length centroids ≡ k * dim
    → let found = nearest (rows_from dim k centroids) row ∷ [] in
    rows_call mode 1 dim k row centroids 1 1 ≡ unless (unplaced_refusal mode (unplaced_of found)) (accepted found)
unfolding rows_refusal rows_call lowest_from unless nearests rows_from
one_row mode dim k row centroids some small one few a b =
    let wide : length row ≡ 1 * dim = omega arith in
    let on : rows_refusal 1 dim k (length row) (length centroids) 1 1 ≡ 0
    = simp (le-leb 1 dim some, le-leb dim 64 small, le-leb 1 k one, le-leb k 64 few, eq-eqb (length row) (1 * dim) wide, eq-eqb (length centroids) (k * dim) b) in
    rw (on, take_all dim row (omega arith))

module _ (mode : Mode) (dim k : ℕ) (row centroids : List ℕ) (r : Result ℕ Refusal) (cells : List ℕ) (some : 0 < dim) (small : dim ≤ 64) (one : 0 < k) (few : k ≤ 64)
    (g : Labels (rows_call mode 1 dim k (floats_from dim row) (floats_from (k * dim) centroids) 1 1) 1 r cells) (len : ℕ) (bytes : List ℕ) where
  abbrev found : Option Nearest
  found = placement_of dim k row centroids

  one_found : rows_call mode 1 dim k (floats_from dim row) (floats_from (k * dim) centroids) 1 1 ≡ unless (unplaced_refusal mode (unplaced_of (found ∷ []))) (accepted (found ∷ []))
  unfolding placement_of
  one_found = one_row mode dim k (floats_from dim row) (floats_from (k * dim) centroids) some small one few (floats_length dim row) (floats_length (k * dim) centroids)

  -- the one cell's label is written
  pub label_placed : (n : ℕ) → r ≡ Ok n → bytes ≡ bytes16 (get_or cells 0 0) → Gave (label_by mode found) len bytes16 0 bytes
  unfolding label_by unless on_accepted cells_of padded code_of figure_of
  label_placed n e w = go (unplaced_refusal mode (unplaced_of (found ∷ []))) (rw (e, one_found) at g.result) (rw one_found at g.labels)
    where
      go : (lost : ℕ) → accepted n ≡ on_accepted unplaced_of (unless lost (accepted (found ∷ []))) → cells ≡ cells_of blank_cell 1 labels_of (unless lost (accepted (found ∷ [])))
          → Gave (unless lost (accepted (label_in found))) len bytes16 0 bytes
      go zero t c = (refl, w ∙ ap (λ (l : List ℕ). bytes16 (get_or l 0 0)) c)
      go (suc lost) t c = absurd (not_both n (suc lost) t)

  -- the refusal's number, and the bytes as they were
  pub label_lost : (refusal : Refusal) → r ≡ Err refusal → bytes ≡ replicate len 255 → Gave (label_by mode found) len bytes16 (number_of refusal) bytes
  unfolding label_by unless on_accepted code_of figure_of
  label_lost refusal e w = go (unplaced_refusal mode (unplaced_of (found ∷ []))) (rw (e, one_found) at g.result)
    where
      go : (lost : ℕ) → refused (number_of refusal) ≡ on_accepted unplaced_of (unless lost (accepted (found ∷ []))) → Gave (unless lost (accepted (label_in found))) len bytes16 (number_of refusal) bytes
      go zero t = absurd (not_both _ (number_of refusal) (sym t))
      go (suc lost) t = (cc, w)

-- ---- k-means: from the result to the number and the figures
pub kmeans_gave : (label_cells centroid_cells : ℕ) (r : Result Outcome Refusal) (labels : List ℕ) (centroids : List Float) (answer : Answer Fit) (number : ℕ) (o : Float) (n u : ℕ)
    → KMeansGives answer label_cells centroid_cells r labels centroids → number ≡ code_of (told kmeans_figures r)
    → (o ≡ figure_of zero32 (λ (f : Float × ℕ × ℕ). f.0) (told kmeans_figures r))
    × ((n ≡ figure_of 0 (λ (f : Float × ℕ × ℕ). f.1) (told kmeans_figures r)) × (u ≡ figure_of 0 (λ (f : Float × ℕ × ℕ). f.2) (told kmeans_figures r)))
    → KMeansGave answer label_cells centroid_cells number labels centroids o n u
kmeans_gave label_cells centroid_cells r labels centroids answer number o n u g c f =
    let figures : Fit → Float × ℕ × ℕ = λ a. (a.objective, a.restart, a.unplaced) in
    let objective = f.0 ∙ same_figure figures zero32 (λ (p : Float × ℕ × ℕ). p.0) answer _ g.result in
    let restart = f.1.0 ∙ same_figure figures 0 (λ (p : Float × ℕ × ℕ). p.1) answer _ g.result in
    let unplaced = f.1.1 ∙ same_figure figures 0 (λ (p : Float × ℕ × ℕ). p.2) answer _ g.result in
    (c ∙ same_code figures answer _ g.result, (g.labelled, (g.centred, (objective, (restart, unplaced)))))

-- ---- grouping: from the result to the number and the counts
pub group_gave : (dim : ℕ) (rows : List Row) (order_room end_room mean_room : ℕ) (r : Result Counts Refusal) (order ends : List ℕ) (means : List Float) (answer : Answer Groups) (number n m u : ℕ)
    → GroupGives answer dim rows order_room end_room mean_room r order ends means → number ≡ code_of (told counted r)
    → (n ≡ figure_of 0 (λ (f : ℕ × ℕ × ℕ). f.0) (told counted r))
    × ((m ≡ figure_of 0 (λ (f : ℕ × ℕ × ℕ). f.1) (told counted r)) × (u ≡ figure_of 0 (λ (f : ℕ × ℕ × ℕ). f.2) (told counted r)))
    → GroupGave answer dim rows order_room end_room mean_room number order ends means n m u
group_gave dim rows order_room end_room mean_room r order ends means answer number n m u g c f =
    let groups = f.0 ∙ same_figure figures 0 (λ (p : ℕ × ℕ × ℕ). p.0) answer _ g.result in
    let splits = f.1.0 ∙ same_figure figures 0 (λ (p : ℕ × ℕ × ℕ). p.1) answer _ g.result in
    let unplaced = f.1.1 ∙ same_figure figures 0 (λ (p : ℕ × ℕ × ℕ). p.2) answer _ g.result in
    (c ∙ same_code figures answer _ g.result, (g.ordered, (g.ended, (g.meant, (groups, (splits, unplaced))))))

-- ---- the result file: from the results to the number, the figures and the cells
pub write_gave : (answer : Answer (List ℕ)) (n : ℕ) (r : Result (Unit {0}) Refusal) (file : List ℕ) (number : ℕ) → Writes answer n r file → number ≡ number_in r → WriteGave answer n number file
write_gave answer n r file number g c = (c ∙ (sym (code_told (λ (done : Unit {0}). tt {0}) r) ∙ same_code (λ (bytes : List ℕ). tt {0}) answer _ g.result), g.bytes)

pub numbers_gave : (answer : Answer Stored) (r : Result Numbers Refusal) (number n d k : ℕ) → told numbers_of r ≡ on_accepted read_figures answer → number ≡ code_of (told numbers_of r)
    → (n ≡ figure_of 0 (λ (f : ℕ × ℕ × ℕ). f.0) (told numbers_of r))
    × ((d ≡ figure_of 0 (λ (f : ℕ × ℕ × ℕ). f.1) (told numbers_of r)) × (k ≡ figure_of 0 (λ (f : ℕ × ℕ × ℕ). f.2) (told numbers_of r)))
    → NumbersGave answer number n d k
numbers_gave answer r number n d k e c f =
    let rows = f.0 ∙ same_figure read_figures 0 (λ (p : ℕ × ℕ × ℕ). p.0) answer _ e in
    let dim = f.1.0 ∙ same_figure read_figures 0 (λ (p : ℕ × ℕ × ℕ). p.1) answer _ e in
    let groups = f.1.1 ∙ same_figure read_figures 0 (λ (p : ℕ × ℕ × ℕ). p.2) answer _ e in
    (c ∙ same_code read_figures answer _ e, (rows, (dim, groups)))
