-- Document 01, 'Bench examples', "Run": ten equal rows, k 10, and any number of iterations. All rows go to cluster 0, so nine clusters are empty in each.
use mathlib.Core.Path.{◌≡◌, refl, ap}
use mathlib.Core.Bool.{false}
use mathlib.Core.List.{List, [], ◌∷◌, ◌++◌}
use Prim.Native.Nat.{ℕ, zero, suc, ◌+◌, ◌%◌}
use native.Mathlib.Nat.{mod-lt, zero-add, suc-add, add-suc}
use native.Mathlib.Omega.{arith}
use lib.ListN.{replicate, get_or-replicate}
use Rattle.sums.specs.Rows.{Row}
use Rattle.sums.specs.Sums.{one32}
use Rattle.sums.specs.Draws.{drawn}
use Rattle.sums.specs.Tables.{up_to}
use Rattle.sphere.specs.Unit.{sphered}
use Rattle.std.specs.Prelude.{Option}
use Rattle.labels.specs.declared.nearest.Nearest.{Nearest}
use Rattle.labels.specs.Label.{nearests, labels_of, distances_of}
use Rattle.labels.specs.Pool.{pool}
use Rattle.kmeans.specs.Steps.{Fit, counts_from, update, iterate}
use Rattle.kmeans.specs.KMeans.{Run, kmeans}
use Rattle.worked.specs.Table.{alike}
use Rattle.worked.proofs.Opened.{opened}
use Rattle.worked.proofs.Settled.{at}

-- each row against its cluster
abbrev found : List (Option Nearest)
found = nearests (alike 10) (alike 10)

-- a run, from the first ten picked on: ten draws pick the centroids
abbrev ran : ℕ → ℕ → Run
ran block iterations =
    kmeans (0 ∷ []) 0 (record { niter = iterations; nredo = 1; spherical = false; max_points_per_centroid = 256; decode_block_size = block }) 10 1 (alike 10)

pub record Refills : Type 0 where
  -- the centroids stay alike, so each iteration finds the same
  pub stays : (iterations : ℕ) → (ran 32768 iterations).result.centroids ≡ alike 10
  pub counts : counts_from (replicate 10 0) (labels_of found) ≡ 10 ∷ replicate 9 0
  -- eight refills from the pool, and one draw an iteration
  pub pooled : pool 32768 (distances_of found) ≡ up_to 8
  pub drawn : (iterations : ℕ) → (ran 32768 iterations).made ≡ iterations + 10
  -- block 5: each of the two blocks has five, and nothing is drawn for a refill
  pub stays_5 : (iterations : ℕ) → (ran 5 iterations).result.centroids ≡ alike 10
  pub pooled_5 : pool 5 (distances_of found) ≡ up_to 10
  pub drawn_5 : (iterations : ℕ) → (ran 5 iterations).made ≡ 10

-- an iteration leaves the centroids as they are
one : (n : ℕ) → update (0 ∷ []) 10 1 32768 (alike 10) n found ≡ at (alike 10) (suc n)
unfolding opened
one n = ap (λ (row : Row). at (alike 9 ++ (row ∷ [])) (suc n)) (get_or-replicate 10 (drawn (0 ∷ []) n % 10) (one32 ∷ []) [] (mod-lt _ {m = 10} (omega arith)))

one_5 : (n : ℕ) → update (0 ∷ []) 10 1 5 (alike 10) n found ≡ at (alike 10) n
unfolding opened
one_5 n = refl

all : (left n : ℕ) → iterate false (0 ∷ []) 10 1 32768 (alike 10) left (at (alike 10) n) ≡ at (alike 10) (left + n)
unfolding iterate sphered
all zero n = rw zero-add
all (suc left) n = rw (one n, all left (suc n), add-suc, suc-add)

all_5 : (left n : ℕ) → iterate false (0 ∷ []) 10 1 5 (alike 10) left (at (alike 10) n) ≡ at (alike 10) n
unfolding iterate sphered
all_5 zero n = refl
all_5 (suc left) n = rw (one_5 n) (all_5 left n)

pub refills-hold : Refills
unfolding opened
refills-hold = record {
  stays = λ iterations. ap (λ (fit : Fit). fit.centroids) (all iterations 10);
  counts = refl;
  pooled = refl;
  drawn = λ iterations. ap (λ (fit : Fit). fit.made) (all iterations 10);
  stays_5 = λ iterations. ap (λ (fit : Fit). fit.centroids) (all_5 iterations 10);
  pooled_5 = refl;
  drawn_5 = λ iterations. ap (λ (fit : Fit). fit.made) (all_5 iterations 10);
}
