-- Runs that settle: the iterations left after that repeat, so that only the first few have to be computed.
use mathlib.Core.Path.{◌≡◌, refl, ap, ◌∙◌}
use mathlib.Core.Bool.{Bool, true, false}
use mathlib.Core.List.{List, [], ◌∷◌}
use Prim.Native.Nat.{ℕ, zero, suc, ◌+◌, suc-le-suc}
use native.Mathlib.Numerals.{unary_clauses}
use native.Mathlib.Omega.{arith}
use lib.IntN.{pos, negsuc}
use lib.ListN.{length, replicate, get_or-replicate}
use lib.Ieee.{Float, fin, nan}
use Rattle.sums.specs.Tables.{up_to}
use Rattle.sums.specs.Rows.{Row, rows_at}
use Rattle.sums.specs.Cells.{Below}
use Rattle.sums.specs.Draws.{pick}
use Rattle.sums.proofs.Picks.{pick_length, pick_below}
use Rattle.sums.specs.Sums.{zero32, one32, two32, count32}
use Rattle.sums.specs.Refusals.{refused}
use Rattle.labels.specs.declared.mode.Mode.TheVariants.{Strict}
use Rattle.labels.specs.Label.{nearests}
use Rattle.kmeans.specs.Steps.{Fit, update, on_sphere, iterate}
use Rattle.kmeans.proofs.Turns.{fixed}
use Rattle.grouping.specs.Balance.{share}
use Rattle.grouping.specs.Groups.{Rule, balance_if, parts_of, made_by, lost_by, split_from}
use Rattle.worked.specs.Table.{half}
use Rattle.worked.proofs.Opened.{unpicked, opened, rooted}

module _ (spherical : Bool) (draws : List ℕ) (k dim block : ℕ) (training : List Row) where
  -- the first few iterations give a fit that another one leaves as it is
  settled : (left early : ℕ) (fit last : Fit) → iterate spherical draws k dim block training early fit ≡ last
      → on_sphere spherical (update draws k dim block training last.made (nearests last.centroids training)) ≡ last
      → iterate spherical draws k dim block training (left + early) fit ≡ last
  unfolding iterate
  settled left zero fit last e f = rw e (simp unary_clauses (fixed spherical draws k dim block training left last f))
  settled left (suc early) fit last e f =
      simp unary_clauses (settled left early (on_sphere spherical (update draws k dim block training fit.made (nearests fit.centroids training))) last e f)

abbrev pub at : List Row → ℕ → Fit
at centroids n = record { centroids = centroids; made = n }

-- the rules of the table's groupings with branching 2
abbrev ruled_by : Bool → List Row → Float → Rule
ruled_by spherical rows weight = record { draws = 0 ∷ []; dim = 1; rows = rows; branching = 2; weight = weight; spherical = spherical }

abbrev pub ruled : List Row → Float → Rule
ruled rows weight = ruled_by false rows weight

-- ---- P1

abbrev pub four : List Row
four = (zero32 ∷ []) ∷ (one32 ∷ []) ∷ (count32 10 ∷ []) ∷ (count32 11 ∷ []) ∷ []

-- the draws are 0 and, a pass later, 1: the first row and the third are picked, and two iterations reach the means of both pairs
abbrev picked : Fit
picked = at ((zero32 ∷ []) ∷ (count32 10 ∷ []) ∷ []) 2

abbrev means : Fit
means = at ((half ∷ []) ∷ (fin false 21 (negsuc 0) ∷ []) ∷ []) 2

P1-settles : iterate false (0 ∷ []) 2 1 32768 four 100 picked ≡ means
unfolding opened iterate
P1-settles = settled false (0 ∷ []) 2 1 32768 four 98 2 picked means refl refl

pub P1-parts : parts_of (ruled four zero32) 0 (up_to 4) ≡ (0 ∷ 1 ∷ []) ∷ (2 ∷ 3 ∷ []) ∷ []
unfolding opened parts_of balance_if
P1-parts = rw P1-settles

pub P1-lost : lost_by (ruled four zero32) 0 (up_to 4) ≡ 0
unfolding opened lost_by
P1-lost = rw P1-settles

-- ---- P2

abbrev five : List Row
five = replicate 5 (fin false 3 (pos 0) ∷ [])

-- rows that are alike are, whichever are taken
rows_alike : (m : ℕ) (row : Row) (places : List ℕ) → Below m places → rows_at (replicate m row) places ≡ replicate (length places) row
rows_alike m row [] b = refl
rows_alike m row (p ∷ places) b =
    rw (get_or-replicate m p row [] (b 0 (omega arith))) (ap (λ (l : List Row). row ∷ l) (rows_alike m row places (λ i h. b (suc i) (suc-le-suc h))))

-- so that both centroids are the row, whatever is drawn
P2-picked : (n : ℕ) → rows_at five (pick (0 ∷ []) n 2 5) ≡ replicate 2 (fin false 3 (pos 0) ∷ [])
P2-picked n =
    let row : Row = fin false 3 (pos 0) ∷ [] in
    rows_alike 5 row (pick (0 ∷ []) n 2 5) (pick_below (0 ∷ []) 5 n 2 (omega arith)) ∙ ap (λ (m : ℕ). replicate m row) (pick_length (0 ∷ []) 5 n 2 (omega arith))

-- and the first iteration changes nothing, whatever was drawn before
abbrev equal : ℕ → Fit
equal n = at (replicate 2 (fin false 3 (pos 0) ∷ [])) n

P2-settles : (n : ℕ) → iterate false (0 ∷ []) 2 1 32768 five 100 (equal n) ≡ equal n
unfolding opened iterate
P2-settles n = settled false (0 ∷ []) 2 1 32768 five 100 0 (equal n) (equal n) refl refl

P2-fit : (n : ℕ) → iterate false (0 ∷ []) 2 1 32768 five 100 (at (rows_at five (pick (0 ∷ []) n 2 5)) (n + 2)) ≡ equal (n + 2)
P2-fit n = ap (λ (centroids : List Row). iterate false (0 ∷ []) 2 1 32768 five 100 (at centroids (n + 2))) (P2-picked n) ∙ P2-settles (n + 2)

-- and k-means leaves them together
P2-together : (weight : Float) (n : ℕ) → parts_of (ruled five weight) n (up_to 5)
    ≡ balance_if five (replicate 2 (fin false 3 (pos 0) ∷ [])) (share 5 2) weight (up_to 5 ∷ [] ∷ [])
unfolding unpicked parts_of
P2-together weight n = rw (P2-fit (n + 0))

pub P2-parts : parts_of (ruled five half) 0 (up_to 5) ≡ (2 ∷ 3 ∷ 4 ∷ []) ∷ (0 ∷ 1 ∷ []) ∷ []
unfolding opened balance_if
P2-parts = P2-together half 0

pub P2-lost : (weight : Float) (n : ℕ) → lost_by (ruled five weight) n (up_to 5) ≡ 0
unfolding unpicked lost_by
P2-lost weight n = rw (P2-fit (n + 0))

-- with no weight so does every split, until the budget is spent
pub P2-refused : (left n : ℕ) → split_from Strict (parts_of (ruled five zero32)) (made_by (ruled five zero32)) (lost_by (ruled five zero32)) 4 2 left n (up_to 5 ∷ []) ≡ refused 7
unfolding opened split_from balance_if
P2-refused zero n = refl
P2-refused (suc left) n = rw (P2-lost zero32 n, P2-together zero32 n, P2-refused left (made_by (ruled five zero32) n (up_to 5)))

-- ---- a NaN that is split

abbrev three : List Row
three = (nan ∷ []) ∷ (one32 ∷ []) ∷ (two32 ∷ []) ∷ []

-- the NaN and the third row are picked; no score of the NaN is below infinity, and the other two rows are one cluster
split-settles : iterate false (0 ∷ []) 2 1 32768 three 100 (at ((nan ∷ []) ∷ (two32 ∷ []) ∷ []) 2) ≡ at ((nan ∷ []) ∷ (fin false 3 (negsuc 0) ∷ []) ∷ []) 2
unfolding opened iterate
split-settles = settled false (0 ∷ []) 2 1 32768 three 99 1 (at ((nan ∷ []) ∷ (two32 ∷ []) ∷ []) 2) (at ((nan ∷ []) ∷ (fin false 3 (negsuc 0) ∷ []) ∷ []) 2) refl refl

pub split-lost : lost_by (ruled three zero32) 0 (up_to 3) ≡ 1
unfolding opened lost_by
split-lost = rw split-settles

-- ---- P10

pub P10-settles : iterate false (0 ∷ []) 1 1 32768 ((zero32 ∷ []) ∷ (one32 ∷ []) ∷ []) 25 (at ((zero32 ∷ []) ∷ []) 1) ≡ at ((half ∷ []) ∷ []) 1
unfolding opened iterate
P10-settles = settled false (0 ∷ []) 1 1 32768 ((zero32 ∷ []) ∷ (one32 ∷ []) ∷ []) 24 1 (at ((zero32 ∷ []) ∷ []) 1) (at ((half ∷ []) ∷ []) 1) refl refl

-- ---- rows on the unit sphere, and off it

abbrev signed : List Row
signed = (one32 ∷ []) ∷ (fin true 1 (pos 0) ∷ []) ∷ (count32 50 ∷ []) ∷ (fin true 1 (pos 1) ∷ []) ∷ []

-- the first row and the third are picked; the mean of 1, -1 and -2 is below zero, and at length one it is -1
abbrev apart : Fit
apart = at ((one32 ∷ []) ∷ (count32 50 ∷ []) ∷ []) 2

shape-settles : iterate true (0 ∷ []) 2 1 32768 signed 100 apart ≡ at ((fin true 1 (pos 0) ∷ []) ∷ (one32 ∷ []) ∷ []) 2
unfolding opened rooted iterate
shape-settles = settled true (0 ∷ []) 2 1 32768 signed 99 1 apart (at ((fin true 1 (pos 0) ∷ []) ∷ (one32 ∷ []) ∷ []) 2) refl refl

far-settles : iterate false (0 ∷ []) 2 1 32768 signed 100 apart ≡ at ((fin true 11184811 (negsuc 23) ∷ []) ∷ (count32 50 ∷ []) ∷ []) 2
unfolding opened iterate
far-settles = settled false (0 ∷ []) 2 1 32768 signed 99 1 apart (at ((fin true 11184811 (negsuc 23) ∷ []) ∷ (count32 50 ∷ []) ∷ []) 2) refl refl

pub shape-parts : parts_of (ruled_by true signed zero32) 0 (up_to 4) ≡ (1 ∷ 3 ∷ []) ∷ (0 ∷ 2 ∷ []) ∷ []
unfolding opened parts_of balance_if
shape-parts = rw shape-settles

pub shape-lost : lost_by (ruled_by true signed zero32) 0 (up_to 4) ≡ 0
unfolding opened lost_by
shape-lost = rw shape-settles

pub far-parts : parts_of (ruled signed zero32) 0 (up_to 4) ≡ (0 ∷ 1 ∷ 3 ∷ []) ∷ (2 ∷ []) ∷ []
unfolding opened parts_of balance_if
far-parts = rw far-settles

pub far-lost : lost_by (ruled signed zero32) 0 (up_to 4) ≡ 0
unfolding opened lost_by
far-lost = rw far-settles

-- the one row is picked as it is, and its centroid is at length one after the first iteration
pub unit-settles : iterate true (0 ∷ []) 1 2 32768 ((fin false 3 (pos 0) ∷ fin false 1 (pos 2) ∷ []) ∷ []) 25 (at ((fin false 3 (pos 0) ∷ fin false 1 (pos 2) ∷ []) ∷ []) 1)
    ≡ at ((fin false 5033165 (negsuc 22) ∷ fin false 13421773 (negsuc 23) ∷ []) ∷ []) 1
unfolding opened rooted iterate
unit-settles =
    settled true (0 ∷ []) 1 2 32768 ((fin false 3 (pos 0) ∷ fin false 1 (pos 2) ∷ []) ∷ []) 24 1
    (at ((fin false 3 (pos 0) ∷ fin false 1 (pos 2) ∷ []) ∷ []) 1) (at ((fin false 5033165 (negsuc 22) ∷ fin false 13421773 (negsuc 23) ∷ []) ∷ []) 1) refl refl
