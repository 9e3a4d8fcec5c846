-- Which stored cases agree with the definitions of the four operations (01, 'What is ported'; the oracle is the one of that section), in the new way (02 (iii)). docs/REPLAY.md
-- has the layout of a case's record: sixteen words of 32 bits, the `head`, and then four parts.
use Rattle.std.specs.Prelude.{Bool, cond, ◌&&◌, ℕ, ◌+◌, ◌*◌, ◌/◌, ◌%◌, eqb, leb, length, take, drop, replicate}
use mathlib.Core.List.{List, [], ◌∷◌, map, flatten}
use Rattle.std.specs.Float.{binary32, binary64}
use Rattle.std.specs.Float.Ieee.{of_bits, to_bits}
use Rattle.sums.specs.Rows.{rows_from}
use Rattle.sums.specs.Sums.{zero32}
use Rattle.sums.specs.Refusals.{Answer, same_all, cells_of, blank_cell}
use Rattle.words.specs.Bytes.{u32_at, words_from, floats_from, bytes16}
use Rattle.labels.specs.declared.mode.Mode.TheVariants.{Strict}
use Rattle.kmeans.specs.KMeans.{Result}
use Rattle.kmeans.specs.Call.{kmeans_call}
use Rattle.exports.specs.Exports.{code_of, figure_of, label_call, closure_bytes_call, closure_written, config_of}
use Rattle.batch.specs.Batch.{listing_of}
use Rattle.replay.specs.declared.Tally.{Tally}

-- an answer on bytes is the stored one: its number, and every result byte
unfoldable pub bytes_agree : {A : Type 0} → List ℕ → List ℕ → (A → List ℕ) → Answer A → Bool
bytes_agree head stored written answer = eqb (code_of answer) (u32_at head 4) && same_all (figure_of (replicate (length stored) 255) written answer) stored

-- the label of one row: dim and k, the row, the centroids
unfoldable pub label_agrees : List ℕ → List ℕ → List ℕ → List ℕ → Bool
label_agrees head row centroids stored = bytes_agree head stored bytes16 (label_call Strict (u32_at head 24) (u32_at head 28) row centroids (length stored))

-- closure: dim, count, replicas and epsilon's bits, the vector, the centroids
unfoldable pub closure_agrees : List ℕ → List ℕ → List ℕ → List ℕ → Bool
closure_agrees head vector centroids stored =
    bytes_agree head stored (closure_written (u32_at head 28))
    (closure_bytes_call (of_bits binary32 (u32_at head 36)) (u32_at head 32 % 65536) (u32_at head 24) (u32_at head 28) vector centroids (length stored))

-- The call of k-means with d draws, v values, n label cells and m centroid cells; the work slices are as long as those call for. What it gives is what
-- is stored: number, restart, objective, labels and centroids, floats by their bits. A NaN counts as the one pattern that `to_bits` writes for it, since
-- 01 promises no NaN's bits.
unfoldable pub kmeans_agrees_of : ℕ → ℕ → ℕ → ℕ → List ℕ → List ℕ → List ℕ → List ℕ → List ℕ → Bool
kmeans_agrees_of d v n m head draws values labels centroids =
    let w : ℕ → ℕ = u32_at head in
    let answer = kmeans_call Strict (w 24) (w 28) (w 32) (config_of (w 36) (w 40) (w 44) (w 48) 0) (words_from d draws) (floats_from v values) (n ∷ m ∷ v ∷ []) in
    eqb (code_of answer) (w 4) && eqb (figure_of 0 (λ (a : Result). a.restart) answer) (w 52)
    && eqb (to_bits binary64 (figure_of zero32 (λ (a : Result). a.objective) answer)) (w 56 + 4294967296 * w 60)
    && same_all (cells_of blank_cell n (λ (a : Result). a.labels) answer) (words_from n labels)
    && same_all (map (to_bits binary32) (cells_of zero32 m (λ (a : Result). flatten a.centroids) answer)) (words_from m centroids)

-- k-means: draws, values, labels and centroids are whole words
unfoldable pub kmeans_agrees : List ℕ → List ℕ → List ℕ → List ℕ → List ℕ → Bool
kmeans_agrees head draws values labels centroids =
    (eqb (length draws % 4) 0 && eqb (length values % 4) 0 && eqb (length labels % 4) 0 && eqb (length centroids % 4) 0)
    && kmeans_agrees_of (length draws / 4) (length values / 4) (length labels / 4) (length centroids / 4) head draws values labels centroids

-- A case by its operation's number: the label of one row, k-means, the listing of a batch file (its text tells the refusal's number too), closure.
-- A number that is none's agrees with nothing.
unfoldable pub agrees_as : ℕ → List ℕ → List ℕ → List ℕ → List ℕ → List ℕ → Bool
agrees_as operation head a b c d =
    cond (eqb operation 0) (label_agrees head a b c)
    (cond (eqb operation 1) (kmeans_agrees head a b c d)
    (cond (eqb operation 2) (same_all (listing_of a) c) (eqb operation 3 && closure_agrees head a b c)))

-- the parts stand one after the other behind the head, a, b, c and d bytes long; a record with no room for them agrees with nothing
unfoldable pub agrees_in : List ℕ → ℕ → ℕ → ℕ → ℕ → Bool
agrees_in stored a b c d =
    let part : ℕ → ℕ → List ℕ = λ at n. take n (drop at stored) in
    leb (64 + a + b + c + d) 384 && agrees_as (u32_at stored 0) (take 64 stored) (part 64 a) (part (64 + a) b) (part (64 + a + b) c) (part (64 + a + b + c) d)

-- a whole record, whose words 2 to 5 are the lengths of its parts
unfoldable pub agrees : List ℕ → Bool
agrees stored = agrees_in stored (u32_at stored 8) (u32_at stored 12) (u32_at stored 16) (u32_at stored 20)

-- how many of the records agree
unfoldable pub agreeing : List (List ℕ) → ℕ
agreeing [] = 0
agreeing (r ∷ records) = cond (agrees r) 1 0 + agreeing records

-- the whole sample, records of 384 bytes: how many, how many of them agree, and the bytes past the last whole one
unfoldable pub replayed : List ℕ → Tally
replayed sample =
    let n = length sample / 384 in
    record { cases = n; agree = agreeing (rows_from 384 n sample); rest = length sample % 384 }
