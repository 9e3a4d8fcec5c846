-- A call's result and the stored one. Assumes nothing.
use Prim.Native.Nat.{ℕ, ◌+◌, ◌*◌, ◌/◌, ◌%◌, ◌≤◌, ◌<◌}
use mathlib.Core.Path.{◌≡◌}
use mathlib.Core.Bool.{Bool, true, cond, ◌&&◌}
use mathlib.Core.List.{List, [], ◌∷◌, ◌++◌, map, flatten, append-nil}
use Rattle.std.proofs.Common.{length-append, take_at, drop_at}
use Rattle.sums.specs.Rows.{rows_from}
use native.Mathlib.Omega.{arith}
use native.Mathlib.Numerals.{add-one}
use borrow.Author.Tests.{eqb-true}
use lib.Dec.{eqb}
use lib.ListN.{length, take, replicate, drop_of_length-le}
use lib.Seq.{take_all, length-take-le}
use lib.Ieee.{Float, binary32, binary64, to_bits}
use Rattle.sums.specs.Sums.{zero32}
use Rattle.sums.specs.Refusals.{Answer, same_all, cells_of, blank_cell}
use Rattle.sums.proofs.Refusing.{both}
use Rattle.words.specs.Bytes.{u32_at, words_from, floats_from}
use Rattle.kmeans.specs.KMeans.{Result}
use Rattle.labels.specs.declared.mode.Mode.TheVariants.{Strict}
use Rattle.kmeans.specs.Call.{kmeans_call}
use Rattle.exports.specs.Exports.{code_of, figure_of, Gave, config_of, KMeansGave}
use Rattle.batch.specs.Batch.{put_front}
use Rattle.replay.specs.Replay.{bytes_agree, agrees, agreeing}

pub bytes_agreed : {A : Type 0} (answer : Answer A) (head stored : List ℕ) (written : A → List ℕ) (n number : ℕ) (result : List ℕ) (r : Bool)
    → r ≡ (eqb number (u32_at head 4) && same_all result stored) → n ≡ length stored → Gave answer n written number result
    → r ≡ bytes_agree head stored written answer
unfolding bytes_agree
bytes_agreed answer head stored written n number result r e l g = rw (g.0, g.1, l) at e

-- what k-means gave against what is stored, by the cells that were lent and by the answer
abbrev pub kmeans_same : List ℕ → List ℕ → List ℕ → ℕ → ℕ → ℕ → ℕ → Float → List ℕ → List Float → Bool
kmeans_same head labels centroids n m number restart objective l c =
    eqb number (u32_at head 4) && eqb restart (u32_at head 52) && eqb (to_bits binary64 objective) (u32_at head 56 + 4294967296 * u32_at head 60)
    && same_all l (words_from n labels) && same_all (map (to_bits binary32) c) (words_from m centroids)

abbrev pub kmeans_told : List ℕ → ℕ → ℕ → List ℕ → List ℕ → Answer Result → Bool
kmeans_told head n m labels centroids answer =
    kmeans_same head labels centroids n m (code_of answer) (figure_of 0 (λ (a : Result). a.restart) answer) (figure_of zero32 (λ (a : Result). a.objective) answer)
    (cells_of blank_cell n (λ (a : Result). a.labels) answer) (cells_of zero32 m (λ (a : Result). flatten a.centroids) answer)

pub kmeans_agreed : (answer : Answer Result) (head labels centroids : List ℕ) (n m number restart unplaced : ℕ) (objective : Float) (l : List ℕ) (c : List Float) (r : Bool)
    → r ≡ kmeans_same head labels centroids (length l) (length c) number restart objective l c → length l ≡ n → length c ≡ m
    → KMeansGave answer n m number l c objective restart unplaced
    → r ≡ kmeans_told head n m labels centroids answer
kmeans_agreed answer head labels centroids n m number restart unplaced objective l c r e p q g =
    rw (g.0, g.1.1.1.1.0, g.1.1.1.0, g.1.0, g.1.1.0) at (rw (p, q) at e)

-- ---- whole words
abbrev pub whole_words : ℕ → Bool
whole_words n = eqb (n % 4) 0

fourfold : (n : ℕ) → whole_words n ≡ true → n ≡ n / 4 * 4
fourfold n e = let h = eqb-true (n % 4) 0 e in omega arith

pub record Fourfold (draws values labels centroids : ℕ) : Type 0 where
  pub draws_are : draws ≡ draws / 4 * 4
  pub values_are : values ≡ values / 4 * 4
  pub labels_are : labels ≡ labels / 4 * 4
  pub centroids_are : centroids ≡ centroids / 4 * 4

pub all_fourfold : (draws values labels centroids : ℕ) → (whole_words draws && whole_words values && whole_words labels && whole_words centroids) ≡ true
    → Fourfold draws values labels centroids
all_fourfold draws values labels centroids e =
    let three = both (whole_words draws && whole_words values && whole_words labels) (whole_words centroids) e in
    let two = both (whole_words draws && whole_words values) (whole_words labels) three.0 in
    let one = both (whole_words draws) (whole_words values) two.0 in
    record { draws_are = fourfold draws one.0; values_are = fourfold values one.1; labels_are = fourfold labels two.1; centroids_are = fourfold centroids three.1 }

-- ---- whole records counted
abbrev pub agreeing_in : List ℕ → ℕ
agreeing_in s = agreeing (rows_from 384 (length s / 384) s)

-- the first record and what comes after it
module _ (front rest s : List ℕ) (e : s ≡ front ++ rest) (l : length front ≡ 384) where
  pub one_more : length s / 384 ≡ length rest / 384 + 1
  one_more = let h : length s ≡ length front + length rest = rw e (length-append front rest) in omega (arith, h, l)

  pub count_on : agreeing_in s ≡ cond (agrees front) 1 0 + agreeing_in rest
  unfolding agreeing rows_from
  count_on = rw (one_more, add-one (length rest / 384), e, take_at front rest 384 l, drop_at front rest 384 l)

pub count_end : (s : List ℕ) → length s < 384 → agreeing_in s ≡ 0
unfolding agreeing rows_from
count_end s h = let e : length s / 384 ≡ 0 = omega (arith, h) in rw e

-- ---- the room for n bytes' words
pub room : {A : Type 0} (v : A) (n : ℕ) → n ≤ 320 → length (take (n / 4) (replicate 80 v)) ≡ n / 4
room v n h = length-take-le (n / 4) (replicate 80 v) (omega arith)

-- ---- the call of k-means, of what the record says
pub kmeans_read : (head draw_bytes value_bytes : List ℕ) (d v n m : ℕ) (rows dim k iterations restarts points block training : ℕ) (draws : List ℕ) (values : List Float) (number restart unplaced : ℕ) (objective : Float) (l : List ℕ) (c : List Float)
    → rows ≡ u32_at head 24 → dim ≡ u32_at head 28 → k ≡ u32_at head 32 → iterations ≡ u32_at head 36 → restarts ≡ u32_at head 40 → points ≡ u32_at head 44 → block ≡ u32_at head 48
    → draws ≡ words_from d draw_bytes → values ≡ floats_from v value_bytes → training ≡ v
    → KMeansGave (kmeans_call Strict rows dim k (config_of iterations restarts points block 0) draws values (n ∷ m ∷ training ∷ [])) n m number l c objective restart unplaced
    → KMeansGave (kmeans_call Strict (u32_at head 24) (u32_at head 28) (u32_at head 32) (config_of (u32_at head 36) (u32_at head 40) (u32_at head 44) (u32_at head 48) 0) (words_from d draw_bytes) (floats_from v value_bytes) (n ∷ m ∷ v ∷ [])) n m number l c objective restart unplaced
kmeans_read head draw_bytes value_bytes d v n m rows dim k iterations restarts points block training draws values number restart unplaced objective l c e1 e2 e3 e4 e5 e6 e7 e8 e9 f g =
    rw (e1, e2, e3, e4, e5, e6, e7, e8, e9, f) at g

-- ---- a text over a buffer of its length
pub front_whole : (text buffer : List ℕ) → length text ≡ length buffer → put_front text buffer ≡ text
front_whole text buffer e = rw (take_all (length buffer) text (omega (arith, e)), drop_of_length-le buffer {i = length text} (omega (arith, e)), append-nil)
