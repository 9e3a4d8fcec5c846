-- 01, 'Draws'. The state of the draws is how many a call has made so far: a call starts at none, and training, restarts and splits go on from there.
use Rattle.std.specs.Prelude.{◌≡◌, ℕ, zero, suc, ◌+◌, ◌-◌, ◌/◌, ◌%◌, List, length, take, slice_index, slice_set}
use Rattle.sums.specs.Tables.{up_to}
use Rattle.sums.specs.declared.cursor.Cursor.{Cursor}
use Rattle.sums.specs.declared.cursor.Draws.{Draws}

-- Draw number n of a call, from 0: the list is gone through again and again, and on pass p, from 0, the draw is the listed number plus p, wrapping
-- at 32 bits (02 (i)). No other line knows this rule but `cursor_at`.
unfoldable pub drawn : List ℕ → ℕ → ℕ
drawn draws n = (slice_index draws (n % length draws) + n / length draws) % 4294967296

-- the cursor of the code after n draws: the place, and the pass, which wraps too
abbrev pub cursor_at : List ℕ → ℕ → Cursor
cursor_at draws n = record { at = n % length draws; pass = n / length draws % 4294967296 }

-- what stands at i and what stands at j change places
unfoldable pub exchange : ℕ → ℕ → List ℕ → List ℕ
exchange i j places = slice_set (slice_set places i (slice_index places j)) j (slice_index places i)

-- c exchanges are left, the next of place i among m, after n draws: the other place is as far on as the draw says, modulo the places left
unfoldable pub exchanges_from : List ℕ → ℕ → ℕ → ℕ → ℕ → List ℕ → List ℕ
exchanges_from draws m n i zero places = places
exchanges_from draws m n i (suc c) places =
    exchanges_from draws m (suc n) (suc i) c (exchange i (i + drawn draws n % (m - i)) places)

-- c of the numbers below m, after n draws: c draws are used, the last one too where a single place is left
unfoldable pub pick : List ℕ → ℕ → ℕ → ℕ → List ℕ
pick draws n c m = take c (exchanges_from draws m n 0 c (up_to m))

-- What is done from one state of the draws to the next, of one list: whatever the count n of draws before it, it gives `given n`, and the cursor then
-- stands for `made n` draws.
pub record Drawn {A : Type 0} (old new : Draws) (value : A) (given : ℕ → A) (made : ℕ → ℕ) : Type 0 where
  pub kept : new.list.now ≡ old.list.now
  pub steps : (n : ℕ) → old.cursor ≡ cursor_at old.list.now n → (value ≡ given n) × (new.cursor ≡ cursor_at old.list.now (made n))
