-- What a grouping has to be that a result file holds (02, (vi)).
use Rattle.std.specs.Prelude.{Bool, true, ◌&&◌, cond, List, [], ◌∷◌, ℕ, ◌+◌, ◌*◌, eqb, leb, ltb, length, take, drop}
use Rattle.sums.specs.Tables.{tabulate}
use Rattle.sums.specs.Refusals.{within, same_all, blank_cell}

-- A grouping as the writer is handed it and the reader gives it: its numbers and all its cells, unused ones too; means as their 32 bits.
pub record Stored : Type 0 where
  pub rows : ℕ
  pub dim : ℕ
  pub groups : ℕ
  pub order : List ℕ
  pub ends : List ℕ
  pub means : List ℕ

-- one by its numbers and cells
abbrev pub stored : ℕ → ℕ → ℕ → List ℕ → List ℕ → List ℕ → Stored
stored rows dim groups order ends means = record { rows = rows; dim = dim; groups = groups; order = order; ends = ends; means = means }

-- every cell passes the test
unfoldable pub all_pass : {A : Type 0} → (A → Bool) → List A → Bool
all_pass test [] = true
all_pass test (x ∷ l) = test x && all_pass test l

-- every cell is v
abbrev pub all_are : ℕ → List ℕ → Bool
all_are v l = all_pass (λ x. eqb x v) l

-- every cell is below n
abbrev pub all_below : ℕ → List ℕ → Bool
all_below n l = all_pass (λ x. ltb x n) l

-- how often x stands in the list
unfoldable pub times_in : ℕ → List ℕ → ℕ
times_in x [] = 0
times_in x (y ∷ l) = cond (eqb y x) 1 0 + times_in x l

-- how often each number below n does
abbrev pub times_each : ℕ → List ℕ → List ℕ
times_each n l = tabulate (λ x. times_in x l) n

-- each number below n once, and no other
unfoldable pub each_once : ℕ → List ℕ → Bool
each_once n l = all_below n l && all_are 1 (times_each n l)

-- ends that rise from start, each above the one before, and come to rows: so every size is above zero and they add up to rows
unfoldable pub rising : ℕ → List ℕ → ℕ → Bool
rising start [] rows = eqb start rows
rising start (end ∷ ends) rows = ltb start end && rising end ends rows

-- rows and dim are in 01's ranges
unfoldable pub numbers_fit : ℕ → ℕ → Bool
numbers_fit rows dim = within 0 4096 rows && within 1 64 dim

-- the cells of the row order, the ends and the means
abbrev pub cells_lent : ℕ → ℕ → List ℕ
cells_lent rows dim = rows ∷ rows ∷ rows * dim ∷ []

-- each row once, sizes above zero that add up to the rows, and the unused cells blank: 65,535 the ends, +0.0 the means
unfoldable pub content_fits : Stored → Bool
content_fits g =
    leb g.groups g.rows && each_once g.rows g.order && rising 0 (take g.groups g.ends) g.rows
    && all_are blank_cell (drop g.groups g.ends) && all_are 0 (drop (g.groups * g.dim) g.means)

-- a grouping that a result file can hold, and the only kind that the reader gives: numbers in range, as many cells as they say, and the content as above
unfoldable pub sound : Stored → Bool
sound g =
    numbers_fit g.rows g.dim && same_all (length g.order ∷ length g.ends ∷ length g.means ∷ []) (cells_lent g.rows g.dim) && content_fits g
