-- Laws of closure's definitions, one for each turn and end of the code's loops. Assumes nothing.
use Prim.Native.Nat.{ℕ, ◌+◌, ◌<◌, min}
use mathlib.Core.Path.{◌≡◌, refl, sym, ap, ◌∙◌}
use mathlib.Core.Bool.{true, false, ◌||◌}
use mathlib.Core.List.{List, [], ◌∷◌, ◌++◌, append-nil}
use native.Mathlib.Nat.{not-suc-le-zero}
use native.Mathlib.Numerals.{add-one}
use native.Mathlib.Omega.{arith}
use lib.ListN.{length, get_or, take, set, replicate, length-append, length-map}
use lib.Seq.{take-suc}
use lib.Ieee.{Float, nan, is_nan}
use Rattle.std.specs.List.{list_any}
use Rattle.sums.specs.Rows.{Row, rows_from}
use Rattle.sums.specs.Sums.{apart_of}
use Rattle.sums.specs.Ordering.{order, order_from, keep}
use Rattle.sums.specs.Refusals.{padded, accepted, refused, on_accepted, cells_of, unless, blank_cell}
use Rattle.sums.specs.Tables.{up_to}
use Rattle.sums.proofs.Rows.{rows_length}
use Rattle.closure.specs.declared.reach.Reach.{Reach}
use Rattle.std.specs.Prelude.{Ok, Err}
use Rattle.sums.specs.declared.refusals.Refusal.{Refusal}
use Rattle.sums.specs.Refused.{number_of}
use Rattle.sums.proofs.Told.{unless_number}
use Rattle.closure.specs.Closure.{nearer, in_reach, any_nan, distances, closure, listed, unordered, reach_of}
use Rattle.closure.specs.Call.{answered, closure_refusal, closure_call, Gives}
use Rattle.sums.proofs.Fronts.{take_least}
use Rattle.sums.proofs.Orders.{keep_append}
use Rattle.sums.proofs.Refusing.{padded_none, padded_more}

-- ---- a NaN among the distances
pub any_list : (ds : List Float) → list_any is_nan ds ≡ any_nan ds
unfolding any_nan
any_list [] = refl
any_list (d ∷ ds) = ap (λ b. is_nan d || b) (any_list ds)

-- ---- the distances, by index
pub distances_length : (row : Row) (dim n : ℕ) (values : List Float) → length (distances row (rows_from dim n values)) ≡ n
distances_length row dim n values = length-map (rows_from dim n values) (apart_of row) ∙ rows_length dim n values

-- ---- the choice
keep_more : (reach : Reach) (ds : List Float) (at : List ℕ) (j : ℕ) → j < length at
    → keep (in_reach reach ds) (take (j + 1) at) ≡ keep (in_reach reach ds) (take j at) ++ keep (in_reach reach ds) (get_or at j 0 ∷ [])
keep_more reach ds at j h = rw (add-one j, take-suc at j 0 h) (keep_append (in_reach reach ds) (take j at) (get_or at j 0 ∷ []))

-- with n chosen of the first j
pub record Turn (reach : Reach) (ds : List Float) (at : List ℕ) (size j n : ℕ) (cells : List ℕ) : Type 0 where
  pub number : n ≡ length (keep (in_reach reach ds) (take j at))
  pub listing : cells ≡ padded blank_cell size (keep (in_reach reach ds) (take j at))

module _ (reach : Reach) (ds : List Float) (at : List ℕ) (size j n : ℕ) (cells : List ℕ) (t : Turn reach ds at size j n cells) (h : j < length at) where
  abbrev sofar : List ℕ
  sofar = keep (in_reach reach ds) (take j at)

  pub listed_in : n < size → in_reach reach ds (get_or at j 0) ≡ true → Turn reach ds at size (j + 1) (n + 1) (set cells n (get_or at j 0))
  unfolding keep
  listed_in s e =
      let more : keep (in_reach reach ds) (take (j + 1) at) ≡ sofar ++ (get_or at j 0 ∷ []) = rw e at (keep_more reach ds at j h) in
      let k : length sofar < size = omega (arith, t.number) in
      record {
        number = rw (more, length-append) (omega (arith, t.number));
        listing = rw (more, t.listing, t.number) (padded_more blank_cell size sofar (get_or at j 0) k);
      }

  pub passed_by : in_reach reach ds (get_or at j 0) ≡ false → Turn reach ds at size (j + 1) n cells
  unfolding keep
  passed_by e =
      let more : keep (in_reach reach ds) (take (j + 1) at) ≡ sofar = (rw e at (keep_more reach ds at j h)) ∙ append-nil sofar in
      record { number = rw more t.number; listing = rw more t.listing }

-- ---- the whole
closes : (ds : List Float) (at : List ℕ) (epsilon : Float) (replicas : ℕ) → 0 < length at
    → keep (in_reach (reach_of epsilon (get_or ds (get_or at 0 0) nan)) ds) (take replicas at) ≡ listed epsilon replicas ds at
unfolding listed
closes ds [] epsilon replicas h = absurd (not-suc-le-zero h)
closes ds (x ∷ at) epsilon replicas h = refl

pub is_closure : (row : Row) (centroids : List Row) (epsilon : Float) (replicas : ℕ) (ds : List Float) (at : List ℕ) (reach : Reach) (most x : ℕ)
    → ds ≡ distances row centroids → x ≡ get_or at 0 0 → reach ≡ reach_of epsilon (get_or ds x nan) → most ≡ min replicas (length at) → 0 < length at
    → at ≡ order (nearer ds) (up_to (length ds)) → keep (in_reach reach ds) (take most at) ≡ closure epsilon replicas row centroids
unfolding closure
is_closure row centroids epsilon replicas ds at reach most x d w r m s o = rw (← d, ← o, r, w, m, take_least replicas at) (closes ds at epsilon replicas s)

module _ (epsilon : Float) (replicas : ℕ) (row : Row) (centroids : List Row) where
  pub answered_nan : unordered (distances row centroids) ≡ true → answered epsilon replicas row centroids ≡ refused 5
  unfolding answered
  answered_nan e = rw e

  pub answered_list : unordered (distances row centroids) ≡ false → answered epsilon replicas row centroids ≡ accepted (closure epsilon replicas row centroids)
  unfolding answered
  answered_list e = rw e

-- no centroids: no index
pub answered_none : (epsilon : Float) (replicas dim : ℕ) (row values : List Float) → answered epsilon replicas row (rows_from dim 0 values) ≡ accepted []
unfolding answered unordered closure listed order_from rows_from
answered_none epsilon replicas dim row values = refl

-- ---- what is given back
pub gives_refused : (refusal : Refusal) (n : ℕ) (cells : List ℕ) → cells ≡ replicate n blank_cell → Gives (refused (number_of refusal)) n (Err refusal) cells
unfolding on_accepted cells_of
gives_refused refusal n cells e = record { result = refl; listing = e ∙ sym (padded_none blank_cell n) }

pub gives_list : (indices found : List ℕ) (n r : ℕ) (cells : List ℕ) → found ≡ indices → r ≡ length found → cells ≡ padded blank_cell n found
    → Gives (accepted indices) n (Ok r) cells
unfolding on_accepted cells_of
gives_list indices found n r cells e p q = record { result = ap accepted (p ∙ ap length e); listing = q ∙ ap (padded blank_cell n) e }

-- ---- refusals 1 and 2
module _ (epsilon : Float) (replicas dim count : ℕ) (row centroids : List Float) (cells : ℕ) where
  pub call_refused : (r : Refusal) → number_of r ≡ closure_refusal dim count (length row) (length centroids) cells → closure_call epsilon replicas dim count row centroids cells ≡ refused (number_of r)
  unfolding closure_call
  call_refused r e = rw (← e) (unless_number r (answered epsilon replicas row (rows_from dim count centroids)))

  pub call_on : closure_refusal dim count (length row) (length centroids) cells ≡ 0 → closure_call epsilon replicas dim count row centroids cells ≡ answered epsilon replicas row (rows_from dim count centroids)
  unfolding closure_call unless
  call_on e = rw e
