-- Document 01, 'Bench examples', P1 to P12: each an equation between what the definitions give and the number that the document gives.
-- Every side is computed, down to single operations of IEEE 754.
use Rattle.std.specs.Prelude.{◌≡◌, Bool, true, false, ℕ, pos, negsuc, length, drop, replicate, Float}
use mathlib.Core.List.{List, [], ◌∷◌, map, flatten, flat_map}
use Rattle.std.specs.Float.{binary32, fin, nan}
use Rattle.std.specs.Float.Ieee.{to_bits}
use Rattle.sums.specs.Sums.{zero32, one32, two32, count32}
use Rattle.sums.specs.Rows.{rows_from}
use Rattle.sums.specs.Refusals.{Answer, accepted, refused, on_accepted, padded, blank_cell}
use Rattle.labels.specs.declared.mode.Mode.{Mode}
use Rattle.labels.specs.declared.mode.Mode.TheVariants.{Strict, OldWay}
use Rattle.std.specs.Prelude.{None}
use Rattle.labels.specs.Label.{labels_of}
use Rattle.labels.specs.Call.{label_call}
use Rattle.kmeans.specs.declared.config.KMeansConfig.{KMeansConfig}
use Rattle.kmeans.specs.KMeans.{usual}
use Rattle.kmeans.specs.Call.{lengths_of as lengths_of_lem, kmeans_call}
use Rattle.closure.specs.Call.{closure_call}
use Rattle.grouping.specs.Parts.{sizes_of}
use Rattle.grouping.specs.Balance.{share, allowed, balance, moves, toward}
use Rattle.grouping.specs.Groups.{Groups, ends_from, mean_of}
use Rattle.grouping.specs.Call.{lengths_of, grouping_call}
use Rattle.results.specs.Grouping.{Stored, stored}
use Rattle.results.specs.Files.{reads}
use Rattle.results.specs.Calls.{write_call}
use Rattle.batch.specs.Batch.{listing_of}

-- `fin false m e` is m·2^e, and `fin true m e` its opposite; `negsuc n` is the exponent -(n + 1)
abbrev pub half : Float
half = fin false 1 (negsuc 0)

-- rows of one reading, all alike, and as many centroids
abbrev pub alike : ℕ → List (List Float)
alike n = replicate n (one32 ∷ [])

-- a grouping of rows of one reading, in the new way: draws [0], and all slices as long as they are to be
abbrev batch_by : Bool → List Float → ℕ → ℕ → Float → ℕ → Answer Groups
batch_by spherical values limit branching weight budget =
    let n = length values in
    grouping_call n 1 (record { limit = limit; branching = branching; weight = weight; budget = budget; spherical = spherical; mode = Strict }) (0 ∷ []) values (lengths_of n 1)

-- and with `spherical` off
abbrev batch : List Float → ℕ → ℕ → Float → ℕ → Answer Groups
batch values limit branching weight budget = batch_by false values limit branching weight budget

-- k-means' usual settings with `spherical` on
abbrev usual_on : KMeansConfig
usual_on = record { niter = 25; nredo = 1; spherical = true; max_points_per_centroid = 256; decode_block_size = 32768 }

-- an accepted grouping in which no split left a row unplaced
abbrev pub grouped : List (List ℕ) → ℕ → Answer Groups
grouped groups splits = accepted (record { groups = groups; splits = splits; unplaced = 0 })

-- groups of rows of one reading as a grouping call leaves them, the means as their bits (02 (vi))
abbrev left : List Float → List (List ℕ) → Stored
left values groups =
    let n = length values in
    stored n 1 (length groups) (padded blank_cell n (flatten groups)) (padded blank_cell n (ends_from 0 groups))
    (padded 0 n (map (to_bits binary32) (flat_map (mean_of 1 (rows_from 1 n values)) groups)))

-- P1's: row numbers 2 3 0 1; ends 2 4; means 10.5 0.5; then 0 8 12, where each block starts, and 4 rows of 1 reading in 2 groups
abbrev pub P1-bytes : List ℕ
P1-bytes =
    2 ∷ 0 ∷ 3 ∷ 0 ∷ 0 ∷ 0 ∷ 1 ∷ 0 ∷ 2 ∷ 0 ∷ 4 ∷ 0 ∷ 0 ∷ 0 ∷ 40 ∷ 65 ∷ 0 ∷ 0 ∷ 0 ∷ 63
    ∷ 0 ∷ 0 ∷ 0 ∷ 0 ∷ 8 ∷ 0 ∷ 0 ∷ 0 ∷ 12 ∷ 0 ∷ 0 ∷ 0 ∷ 4 ∷ 0 ∷ 0 ∷ 0 ∷ 1 ∷ 0 ∷ 0 ∷ 0 ∷ 2 ∷ 0 ∷ 0 ∷ 0 ∷ []

-- the labels that a labelling of one row of one reading against two centroids gives
abbrev labels : Mode → Float → Float → Float → Answer (List ℕ)
labels mode reading first second = on_accepted labels_of (label_call mode 1 1 2 (reading ∷ []) (first ∷ second ∷ []) 1 1)

pub record Table : Type 0 where
  pub P1 : batch (zero32 ∷ one32 ∷ count32 10 ∷ count32 11 ∷ []) 2 2 zero32 4 ≡ grouped ((2 ∷ 3 ∷ []) ∷ (0 ∷ 1 ∷ []) ∷ []) 1
  -- the same as a file, readings, draw and trailer; and its listing, `accepted groups 2 splits 1`, `2: 2 3`, `2: 0 1`, each line with its end
  pub P1-listing : listing_of (0 ∷ 0 ∷ 0 ∷ 0 ∷ 0 ∷ 0 ∷ 128 ∷ 63 ∷ 0 ∷ 0 ∷ 32 ∷ 65 ∷ 0 ∷ 0 ∷ 48 ∷ 65 ∷ 0 ∷ 0 ∷ 0 ∷ 0
      ∷ 0 ∷ 0 ∷ 0 ∷ 0 ∷ 16 ∷ 0 ∷ 0 ∷ 0 ∷ 4 ∷ 0 ∷ 0 ∷ 0 ∷ 1 ∷ 0 ∷ 0 ∷ 0 ∷ 1 ∷ 0 ∷ 0 ∷ 0 ∷ 2 ∷ 0 ∷ 0 ∷ 0 ∷ 2 ∷ 0 ∷ 0 ∷ 0 ∷ 0 ∷ 0 ∷ 0 ∷ 0 ∷ 4 ∷ 0 ∷ 0 ∷ 0 ∷ [])
      ≡ 97 ∷ 99 ∷ 99 ∷ 101 ∷ 112 ∷ 116 ∷ 101 ∷ 100 ∷ 32 ∷ 103 ∷ 114 ∷ 111 ∷ 117 ∷ 112 ∷ 115 ∷ 32 ∷ 50 ∷ 32 ∷ 115 ∷ 112 ∷ 108 ∷ 105 ∷ 116 ∷ 115 ∷ 32 ∷ 49 ∷ 10 ∷ 50 ∷ 58 ∷ 32 ∷ 50 ∷ 32 ∷ 51 ∷ 10 ∷ 50 ∷ 58 ∷ 32 ∷ 48 ∷ 32 ∷ 49 ∷ 10 ∷ []
  -- its grouping as a result file, written and read (02 (vi))
  pub P1-written : write_call (left (zero32 ∷ one32 ∷ count32 10 ∷ count32 11 ∷ []) ((2 ∷ 3 ∷ []) ∷ (0 ∷ 1 ∷ []) ∷ [])) 44 ≡ accepted P1-bytes
  pub P1-read : reads P1-bytes ≡ accepted (left (zero32 ∷ one32 ∷ count32 10 ∷ count32 11 ∷ []) ((2 ∷ 3 ∷ []) ∷ (0 ∷ 1 ∷ []) ∷ []))
  -- the same with its last row number 0, so that row 1 is missing
  pub P1-twice : reads (2 ∷ 0 ∷ 3 ∷ 0 ∷ 0 ∷ 0 ∷ 0 ∷ 0 ∷ drop 8 P1-bytes) ≡ refused 10
  -- a file of no bytes: `refused 8`
  pub no_bytes : listing_of [] ≡ 114 ∷ 101 ∷ 102 ∷ 117 ∷ 115 ∷ 101 ∷ 100 ∷ 32 ∷ 56 ∷ 10 ∷ []
  -- five readings of 3
  pub P2 : batch (replicate 5 (fin false 3 (pos 0))) 4 2 zero32 3 ≡ refused 7
  pub P2-balanced : batch (replicate 5 (fin false 3 (pos 0))) 4 2 half 3 ≡ grouped ((0 ∷ 1 ∷ []) ∷ (2 ∷ 3 ∷ 4 ∷ []) ∷ []) 1
  pub P3-share : share 40 2 ≡ 20
  -- the weight is 0.25
  pub P3-allowance : allowed 20 (fin false 1 (negsuc 1)) ≡ 25
  pub P3-sizes : sizes_of (balance (alike 1) (alike 2) 20 (fin false 1 (negsuc 1)) (replicate 40 0 ∷ [] ∷ [])) ≡ 30 ∷ 10 ∷ []
  pub P3-moves : moves (toward (alike 1) (alike 2)) 20 25 10 (replicate 40 0 ∷ [] ∷ []) ≡ 10
  pub P4 : sizes_of (balance (alike 1) (alike 3) (share 30 3) one32 (replicate 30 0 ∷ [] ∷ [] ∷ [])) ≡ 20 ∷ 10 ∷ 0 ∷ []
  pub P5 : labels Strict one32 one32 one32 ≡ accepted (0 ∷ [])
  pub P6 : labels Strict two32 nan two32 ≡ accepted (1 ∷ [])
  -- this is the old way (02 (iii)); the new way refuses it
  pub P7 : labels OldWay nan one32 two32 ≡ accepted (0 ∷ [])
  pub P7-strict : labels Strict nan one32 two32 ≡ refused 9
  -- and 02 (ii) says of it that it matched nothing
  pub P7-unplaced : label_call OldWay 1 1 2 (nan ∷ []) (one32 ∷ two32 ∷ []) 1 1 ≡ accepted (None ∷ [])
  -- the third centroid is at -1
  pub P8 : closure_call zero32 3 1 3 (zero32 ∷ []) (two32 ∷ one32 ∷ fin true 1 (pos 0) ∷ []) 3 ≡ accepted (1 ∷ 2 ∷ [])
  pub P8-wide : closure_call one32 3 1 3 (zero32 ∷ []) (two32 ∷ one32 ∷ fin true 1 (pos 0) ∷ []) 3 ≡ accepted (1 ∷ 2 ∷ 0 ∷ [])
  pub P9 : closure_call one32 0 1 3 (zero32 ∷ []) (two32 ∷ one32 ∷ fin true 1 (pos 0) ∷ []) 3 ≡ accepted []
  pub P10 : kmeans_call Strict 2 1 1 usual (0 ∷ []) (zero32 ∷ one32 ∷ []) (lengths_of_lem 2 1 1)
      ≡ accepted (record { labels = 0 ∷ 0 ∷ []; centroids = (half ∷ []) ∷ []; objective = half; restart = 0; unplaced = 0 })
  -- a NaN among three rows that are split: k-means leaves it unplaced (02 (iii))
  pub lost_split : batch (nan ∷ one32 ∷ two32 ∷ []) 2 2 zero32 1 ≡ refused 9
  -- readings 1, -1, 50 and -2 are split by how far apart they are, or by sign, which is all the shape that a row of one reading has (02 (iv))
  pub by_distance : batch (one32 ∷ fin true 1 (pos 0) ∷ count32 50 ∷ fin true 1 (pos 1) ∷ []) 3 2 zero32 1 ≡ grouped ((2 ∷ []) ∷ (0 ∷ 1 ∷ 3 ∷ []) ∷ []) 1
  pub by_shape : batch_by true (one32 ∷ fin true 1 (pos 0) ∷ count32 50 ∷ fin true 1 (pos 1) ∷ []) 3 2 zero32 1 ≡ grouped ((0 ∷ 2 ∷ []) ∷ (1 ∷ 3 ∷ []) ∷ []) 1
  -- the row 3, 4 by itself: its centroid is 0.6, 0.8 to the last digit of 32 bits, and the objective is from there to the row as it is (02 (iv))
  pub unit : kmeans_call Strict 1 2 1 usual_on (0 ∷ []) (fin false 3 (pos 0) ∷ fin false 1 (pos 2) ∷ []) (lengths_of_lem 1 2 1)
      ≡ accepted (record { labels = 0 ∷ []; centroids = (fin false 5033165 (negsuc 22) ∷ fin false 13421773 (negsuc 23) ∷ []) ∷ []; objective = fin false 281474990132429 (negsuc 43); restart = 0; unplaced = 0 })
  -- 01 gives no readings and no weight here: whatever they are. So 6 and 7 come before 9, and a batch within the limit is accepted, NaN or not (02 (iii))
  pub P11 : (a b c weight : Float) → batch (a ∷ b ∷ c ∷ []) 2 4 weight 0 ≡ refused 6
  pub P12 : (a b c weight : Float) → batch (a ∷ b ∷ c ∷ []) 2 2 weight 0 ≡ refused 7
  pub P12-two_rows : (a b weight : Float) → batch (a ∷ b ∷ []) 2 2 weight 0 ≡ grouped ((0 ∷ 1 ∷ []) ∷ []) 0
